-- What is found of a name, from what was asked of the store.
use Rattle.std.proofs.Common.{◌≡◌, ℕ, ◌+◌, ◌<◌, ◌≤◌, Bool, true, false, List, [], ◌∷◌, ◌++◌, length, map, take, get_or, Option, Some, None, Result, Ok, Err, IfOk, Vec, Global, refl, sym, ap, ◌∙◌, subst, arith}
use Rattle.std.specs.FinMap.{get, keys}
use Rattle.std.specs.Prelude.{IfSome}
use Rattle.std.proofs.lemmas.Bool.{both_ways}
use Rattle.std.proofs.lemmas.List.{take_all, take_more}
use Rattle.sha2.specs.Sha256.{sha256}
use Rattle.bx_digest.specs.Digests.{IsDigest}
use Rattle.bx_io.specs.Answers.{Finds}
use Rattle.bx_io.specs.Holdings.{Holdings}
use Rattle.bx_io.specs.Told.{Stays}
use Rattle.bx_io.specs.declared.keeper.Got.TheVariants as got
use Rattle.memo_format.specs.Entries.{IsEntry}
use Rattle.memo_format.specs.Selectors.{read_selectors_text}
use Rattle.memo_format.specs.StoreNames.{IsWellFormedName, at_blob, at_entry, at_list, blob, entry, selectors}
use Rattle.memo_format.specs.declared.entry.Entry.{Entry}
use Rattle.memo_format.specs.declared.selector.Selector.{Selector}
use Rattle.memo_format.proofs.FormTexts.{entry_sound}
use Rattle.bx_digest.proofs.HashesAreDigests.{is_digest}
use Rattle.content_store.specs.Contents.{IsContent}
use Rattle.content_store.specs.HeldEntries.{ChecksEntry, IsHeld}
use Rattle.content_store.specs.declared.entries.FetchedEntry.{FetchedEntry}
use Rattle.content_store.specs.declared.entries.FetchedEntry.TheVariants as fetched
use Rattle.content_store.proofs.HeldEntries.{held_entry, none_and_some, none_held}
use Rattle.two_phase_meaning.specs.Honest.{HonestEntry}
use Rattle.two_phase_meaning.proofs.Digests.{blob_no_entry, blob_no_list, entry_no_blob, entry_no_list, list_no_blob, list_no_entry, same_blob_name, same_entry_name}
use Rattle.two_phase.specs.Finding.{FindsOne}
use Rattle.cache_care_check.specs.Findings.{AreFindings, IsEntryAt, IsFinding}
use Rattle.cache_care_check.specs.Known.{TellsWhether}
use Rattle.cache_care_check.specs.declared.surveying.Finding.{Finding}
use Rattle.cache_care_check.specs.declared.surveying.Finding.TheVariants as findings

-- ## Contents

pub content_there : (told : Option Holdings) (digest bytes : List ℕ) → FindsOne told (λ S x. IsContent S digest x) (Some bytes)
    → (S : Holdings) → told ≡ Some S → IsFinding S (at_blob digest) findings.Other
content_there told digest bytes h S is =
    let c = h S is in
    (blob bytes c.held (ap at_blob (sym c.digest_is)), λ e k. blob_no_entry digest e.strong k.name_is)

well_content : (S : Holdings) (digest name : List ℕ) → IsDigest digest → name ≡ at_blob digest → IsWellFormedName S name
    → (x : List ℕ) × IsContent S digest x
well_content S digest name d named (blob x held is) =
    (x, record { held = held; digest_is = same_blob_name (sha256 x) digest (is_digest x) d (sym is ∙ named) })
well_content S digest name d named (selectors weak list w held is) = absurd (blob_no_list digest weak (sym named ∙ is))
well_content S digest name d named (entry e held is) = absurd (blob_no_entry digest e.strong (sym named ∙ is))

pub content_missing : (told : Option Holdings) (digest : List ℕ) → IsDigest digest → FindsOne told (λ S x. IsContent S digest x) None
    → (S : Holdings) → told ≡ Some S → IsFinding S (at_blob digest) findings.Damaged
content_missing told digest d h S is well = let x = well_content S digest (at_blob digest) d refl well in h S is x.0 x.1

-- ## Selectors

well_list : (S : Holdings) (weak name : List ℕ) → name ≡ at_list weak → IsWellFormedName S name
    → (bytes : List ℕ) × ((get S name ≡ Some bytes) × ((list : List Selector) × (read_selectors_text bytes ≡ Some list)))
well_list S weak name named (blob x held is) = absurd (list_no_blob weak (sha256 x) (sym named ∙ is))
well_list S weak name named (selectors w list d held is) = (held.0, (ap (get S) is ∙ held.1, (list, held.2)))
well_list S weak name named (entry e held is) = absurd (list_no_entry weak e.strong (sym named ∙ is))

pub list_there : (told : Option Holdings) (weak name : List ℕ) (text : Vec ℕ Global) (bytes : List ℕ) (list : List Selector) → IsDigest weak
    → name ≡ at_list weak → Finds told name (got.Found text) → bytes ≡ text.items → read_selectors_text bytes ≡ Some list
    → (S : Holdings) → told ≡ Some S → IsFinding S name findings.Other
list_there told weak name text bytes list d named h same reads S is = (
  selectors weak list d (text.items, ap (get S) (sym named) ∙ h S is, ap read_selectors_text (sym same) ∙ reads) named,
  λ e k. list_no_entry weak e.strong (sym named ∙ k.name_is),
)

pub list_damaged : (told : Option Holdings) (weak name : List ℕ) (text : Vec ℕ Global) (bytes : List ℕ) → name ≡ at_list weak
    → Finds told name (got.Found text) → bytes ≡ text.items → read_selectors_text bytes ≡ None
    → (S : Holdings) → told ≡ Some S → IsFinding S name findings.Damaged
list_damaged told weak name text bytes named h same reads S is well =
    let w = well_list S weak name named well in
    let one : text.items ≡ w.0 = let both : Some text.items ≡ Some w.0 = sym (h S is) ∙ w.1.0 in cc in
    none_and_some (read_selectors_text bytes) w.1.1.0 reads (ap read_selectors_text (same ∙ one) ∙ w.1.1.1)

pub list_missing : (told : Option Holdings) (weak name : List ℕ) → name ≡ at_list weak → Finds told name got.None
    → (S : Holdings) → told ≡ Some S → IsFinding S name findings.Damaged
list_missing told weak name named h S is well =
    let w = well_list S weak name named well in none_and_some (get S name) w.0 (h S is) w.1.0

-- ## Entries

pub entry_found : (told : Option Holdings) (strong name : List ℕ) (text : Vec ℕ Global) (e : Entry) → name ≡ at_entry strong
    → Finds told name (got.Found text) → ChecksEntry text.items strong (fetched.Found e) → FindsOne told (λ S x. IsHeld S strong x) (Some e)
entry_found told strong name text e named h check = held_entry told strong name text (fetched.Found e) named h check

pub entry_damaged : (told : Option Holdings) (strong name : List ℕ) (text : Vec ℕ Global) → name ≡ at_entry strong
    → Finds told name (got.Found text) → ChecksEntry text.items strong fetched.NotWell → FindsOne told (λ S x. IsHeld S strong x) None
entry_damaged told strong name text named h check = held_entry told strong name text fetched.NotWell named h check

pub entry_missing : (told : Option Holdings) (strong name : List ℕ) → name ≡ at_entry strong → Finds told name got.None
    → FindsOne told (λ S x. IsHeld S strong x) None
entry_missing told strong name named h = none_held told strong name named h

entry_at : (S : Holdings) (strong name : List ℕ) (e : Entry) → name ≡ at_entry strong → IsHeld S strong e → IsEntryAt S name e
entry_at S strong name e named h = record { held = h.held; name_is = named ∙ ap at_entry (sym h.strong_is) }

well_entry : (S : Holdings) (strong name : List ℕ) → name ≡ at_entry strong → IsWellFormedName S name → (e : Entry) × IsEntryAt S name e
well_entry S strong name named (blob x held is) = absurd (entry_no_blob strong (sha256 x) (sym named ∙ is))
well_entry S strong name named (selectors w list d held is) = absurd (entry_no_list strong w (sym named ∙ is))
well_entry S strong name named (entry e held is) = (e, record { held = held; name_is = is })

-- an entry that is held under a name is one of the digest in it
held_of : (S : Holdings) (strong name : List ℕ) (e : Entry) → IsDigest strong → name ≡ at_entry strong → IsEntryAt S name e → IsHeld S strong e
held_of S strong name e d named h =
    let own : IsEntry e = (entry_sound h.held.0 e h.held.2).0 in
    record { held = h.held; strong_is = same_entry_name e.strong strong own.strong d (sym h.name_is ∙ named) }

pub no_entry_there : (told : Option Holdings) (strong name : List ℕ) → IsDigest strong → name ≡ at_entry strong
    → FindsOne told (λ S x. IsHeld S strong x) None → (S : Holdings) → told ≡ Some S → IsFinding S name findings.Damaged
no_entry_there told strong name d named h S is well =
    let w = well_entry S strong name named well in h S is w.0 (held_of S strong name w.0 d named w.1)

pub honest_there : (told now : Option Holdings) (strong name : List ℕ) (e : Entry) (answer : Bool) → name ≡ at_entry strong → Stays told now
    → FindsOne told (λ S x. IsHeld S strong x) (Some e) → TellsWhether now (λ S. HonestEntry S e) answer → answer ≡ true
    → (S : Holdings) → now ≡ Some S → IsFinding S name findings.Honest
honest_there told now strong name e answer named stays h tells is_true S is = record {
  entry = e;
  held = entry_at S strong name e named (h S (stays S is));
  honest = (tells S is).0 is_true;
}

pub bad_there : (told now : Option Holdings) (strong name : List ℕ) (e : Entry) (answer : Bool) → name ≡ at_entry strong → Stays told now
    → FindsOne told (λ S x. IsHeld S strong x) (Some e) → TellsWhether now (λ S. HonestEntry S e) answer → answer ≡ false
    → (S : Holdings) → now ≡ Some S → IsFinding S name findings.Bad
bad_there told now strong name e answer named stays h tells is_false S is = record {
  entry = e;
  held = entry_at S strong name e named (h S (stays S is));
  dishonest = λ honest. both_ways answer is_false ((tells S is).1 honest);
}

-- what is found of a name is found of it under another spelling
pub found_as : {E : Type 0} (told : Option Holdings) (name other : List ℕ) (r : Result Finding E) → name ≡ other
    → ((S : Holdings) → told ≡ Some S → IfOk r (IsFinding S other)) → (S : Holdings) → told ≡ Some S → IfOk r (IsFinding S name)
found_as told name other r same h S is = subst (λ (q : List ℕ). IfOk r (IsFinding S q)) (sym same) (h S is)

-- ## All names

-- this was found of the first so many names
abbrev pub FoundSoFar : Option Holdings → List (List ℕ) → ℕ → List Finding → Type 0
FoundSoFar told names k found = (S : Holdings) → told ≡ Some S → AreFindings S (take k names) found

pub found_none : (told : Option Holdings) (names : List (List ℕ)) (found : List Finding) → found ≡ [] → FoundSoFar told names 0 found
found_none told names found none = λ S is. none

findings_push : (S : Holdings) (names : List (List ℕ)) (found : List Finding) (name : List ℕ) (f : Finding) → AreFindings S names found
    → IsFinding S name f → AreFindings S (names ++ name ∷ []) (found ++ f ∷ [])
findings_push S [] [] name f h k = (k, refl)
findings_push S [] (g ∷ found) name f h k = absurd cc
findings_push S (q ∷ names) [] name f h k = absurd h
findings_push S (q ∷ names) (g ∷ found) name f h k = (h.0, findings_push S names found name f h.1 k)

pub found_more : (told now : Option Holdings) (names : List (List ℕ)) (k : ℕ) (before next : List Finding) (name : List ℕ) (f : Finding)
    → k < length names → name ≡ get_or names k name → Stays told now → FoundSoFar told names k before
    → ((S : Holdings) → now ≡ Some S → IsFinding S name f) → next ≡ before ++ f ∷ [] → FoundSoFar now names (k + 1) next
found_more told now names k before next name f l is_name stays h found more = λ S is.
    let here : take (k + 1) names ≡ take k names ++ name ∷ [] =
    take_more names k name l ∙ ap (λ (q : List ℕ). take k names ++ q ∷ []) (sym is_name) in
    subst (λ (ns : List (List ℕ)). AreFindings S ns next) (sym here)
    (subst (AreFindings S (take k names ++ name ∷ [])) (sym more) (findings_push S (take k names) before name f (h S (stays S is)) (found S is)))

-- the names of the store were gone through
pub all_found : (told now : Option Holdings) (names : List (List ℕ)) (k : ℕ) (found : List Finding) → Stays told now → length names ≤ k
    → ((S : Holdings) → told ≡ Some S → names ≡ keys S) → FoundSoFar now names k found → (S : Holdings) → now ≡ Some S
    → (names ≡ keys S) × AreFindings S (keys S) found
all_found told now names k found stays l listed h S is =
    let same : names ≡ keys S = listed S (stays S is) in
    (same, subst (λ (ns : List (List ℕ)). AreFindings S ns found) (take_all k names l ∙ same) (h S is))

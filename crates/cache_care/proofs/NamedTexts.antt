-- What is found of the texts of an entry says what the entry names.
use Rattle.std.proofs.Common.{◌≡◌, ℕ, Bool, true, false, cond, List, [], ◌∷◌, ◌++◌, Option, Some, None, Result, Ok, Err, refl, sym, ap, ◌∙◌, subst}
use Rattle.std.specs.Prelude.{OnOk}
use Rattle.std.specs.FinMap.{get}
use Rattle.std.specs.Str.{bytes_eq}
use Rattle.std.proofs.lemmas.Slice.Eq.{bytes_eq-Decides}
use Rattle.sha2.specs.Sha256.{sha256}
use Rattle.bx_digest.specs.Digests.{IsDigest}
use Rattle.bx_io.specs.Holdings.{Holdings, Keeps, StoreTold, held_in}
use Rattle.prints.specs.Combining.{bind_some}
use Rattle.prints.specs.ReadWeak.{read_weak_text}
use Rattle.prints.specs.Reading.{◌>>=◌}
use Rattle.prints.specs.Strong.{read_strong_text}
use Rattle.prints.specs.declared.strong_parts.StrongParts.{StrongParts}
use Rattle.prints.specs.declared.weak_parts.WeakParts.{WeakParts}
use Rattle.memo_format.specs.Entries.{read_entry_text}
use Rattle.memo_format.specs.StoreNames.{HoldsEntry, at_blob, at_entry}
use Rattle.memo_format.specs.declared.entry.Entry.{Entry}
use Rattle.content_store.specs.Contents.{IsContent}
use Rattle.content_store.specs.HeldEntries.{IsHeld}
use Rattle.two_phase.specs.Finding.{FindsOne, IsOne}
use Rattle.two_phase_meaning.specs.Contents.{HoldsStrong, HoldsWeak}
use Rattle.two_phase_meaning.proofs.Digests.{same_entry_name}
use Rattle.cache_care.specs.Naming.{content_at, entry_at, in_entry, in_strong, in_weak, named_at, named_at_entry, named_by, strong_at, weak_at}
use Rattle.cache_care.proofs.NamedDigests.{is_entry}
use Rattle.cache_care.proofs.Named.{content_is, entry_is}

-- ## Contents

chosen_is : {X : Type 0} (b : Bool) (x y : X) → cond b (Some x) None ≡ Some y → (b ≡ true) × (x ≡ y)
chosen_is true x y h = (refl, cc)
chosen_is false x y h = absurd cc

is_content : (S : Holdings) (digest text : List ℕ) → content_at S digest ≡ Some text → IsContent S digest text
is_content S digest text h =
    let from = bind_some (get S (at_blob digest)) (λ (bytes : List ℕ). cond (bytes_eq (sha256 bytes) digest) (Some bytes) None) text h in
    let is = chosen_is (bytes_eq (sha256 from.0) digest) from.0 text from.2 in
    let same : sha256 text ≡ digest = ap sha256 (sym is.1) ∙ (bytes_eq-Decides (sha256 from.0) digest).0 is.0 in
    record { held = ap (λ (d : List ℕ). get S (at_blob d)) same ∙ from.1 ∙ ap Some is.1; digest_is = same }

-- ## Weak texts

pub weak_named : (S : Holdings) (digest : List ℕ) (found : Option WeakParts) → IsOne S (λ T parts. HoldsWeak T digest parts) found
    → in_weak (content_at S digest >>= read_weak_text) ≡ in_weak found
weak_named S digest (Some parts) h =
    ap in_weak (ap (λ (o : Option (List ℕ)). o >>= read_weak_text) (content_is S digest h.0 h.1) ∙ h.2)
weak_named S digest None h = by_read (content_at S digest >>= read_weak_text) refl
  where
    by_read : (o : Option WeakParts) → (content_at S digest >>= read_weak_text) ≡ o → in_weak o ≡ []
    by_read None e = refl
    by_read (Some parts) e =
        let from = bind_some (content_at S digest) read_weak_text parts e in
        absurd (h parts (from.0, is_content S digest from.0 from.1, from.2))

-- ## Strong texts

pub strong_named : (S : Holdings) (digest : List ℕ) (found : Option StrongParts) → IsOne S (λ T parts. HoldsStrong T digest parts) found
    → in_strong (content_at S digest >>= read_strong_text) ≡ in_strong found
strong_named S digest (Some parts) h =
    ap in_strong (ap (λ (o : Option (List ℕ)). o >>= read_strong_text) (content_is S digest h.0 h.1) ∙ h.2)
strong_named S digest None h = by_read (content_at S digest >>= read_strong_text) refl
  where
    by_read : (o : Option StrongParts) → (content_at S digest >>= read_strong_text) ≡ o → in_strong o ≡ []
    by_read None e = refl
    by_read (Some parts) e =
        let from = bind_some (content_at S digest) read_strong_text parts e in
        absurd (h parts (from.0, is_content S digest from.0 from.1, from.2))

-- ## Entries

pub held_named : (S : Holdings) (name strong : List ℕ) (e : Entry) → name ≡ at_entry strong → IsHeld S strong e → named_at S name ≡ named_by S e
held_named S name strong e named h =
    ap (named_at S) (named ∙ ap at_entry (sym h.strong_is)) ∙ ap (named_at_entry S) (entry_is S e h.held)

pub none_named : (S : Holdings) (name strong : List ℕ) → IsDigest strong → name ≡ at_entry strong → ((e : Entry) → IsHeld S strong e → ⊥)
    → named_at S name ≡ []
none_named S name strong digest named none = by_held (entry_at S name) refl
  where
    by_held : (o : Option Entry) → entry_at S name ≡ o → named_at_entry S o ≡ []
    by_held None e = refl
    by_held (Some d) e =
        let from = bind_some (get S name >>= read_entry_text) (λ (x : Entry). cond (bytes_eq (at_entry x.strong) name) (Some x) None) d e in
        let text = bind_some (get S name) read_entry_text from.0 from.1 in
        let is = chosen_is (bytes_eq (at_entry from.0.strong) name) from.0 d from.2 in
        let at : at_entry d.strong ≡ name =
        ap (λ (x : Entry). at_entry x.strong) (sym is.1) ∙ (bytes_eq-Decides (at_entry from.0.strong) name).0 is.0 in
        let strong_is : d.strong ≡ strong = same_entry_name d.strong strong (is_entry S name d e).strong digest (at ∙ named) in
        absurd (none d (record {
          held = (text.0, ap (get S) at ∙ text.1, text.2 ∙ ap Some is.1);
          strong_is = strong_is;
        }))

-- ## As texts are found

pub found_weak : (S : Holdings) (digest : List ℕ) (found : Option WeakParts) (parts : WeakParts) → found ≡ Some parts
    → IsOne S (λ T ps. HoldsWeak T digest ps) found → in_weak (Some parts) ≡ in_weak (weak_at S digest)
found_weak S digest found parts is h = ap in_weak (sym is) ∙ sym (weak_named S digest found h)

pub no_weak : (S : Holdings) (digest : List ℕ) (found : Option WeakParts) → found ≡ None → IsOne S (λ T ps. HoldsWeak T digest ps) found
    → [] ≡ in_weak (weak_at S digest)
no_weak S digest found is h = ap in_weak (sym is) ∙ sym (weak_named S digest found h)

pub found_strong : (S : Holdings) (digest : List ℕ) (found : Option StrongParts) (parts : StrongParts) → found ≡ Some parts
    → IsOne S (λ T ps. HoldsStrong T digest ps) found → in_strong (Some parts) ≡ in_strong (strong_at S digest)
found_strong S digest found parts is h = ap in_strong (sym is) ∙ sym (strong_named S digest found h)

pub no_strong : (S : Holdings) (digest : List ℕ) (found : Option StrongParts) → found ≡ None → IsOne S (λ T ps. HoldsStrong T digest ps) found
    → [] ≡ in_strong (strong_at S digest)
no_strong S digest found is h = ap in_strong (sym is) ∙ sym (strong_named S digest found h)

pub at_found : (S : Holdings) (name strong : List ℕ) (found : Option Entry) (e : Entry) → found ≡ Some e → name ≡ at_entry strong
    → IsOne S (λ T x. IsHeld T strong x) found → named_by S e ≡ named_at S name
at_found S name strong found e is named h =
    sym (held_named S name strong e named (subst (λ (o : Option Entry). IsOne S (λ T x. IsHeld T strong x) o) is h))

pub at_none : (S : Holdings) (name strong : List ℕ) (found : Option Entry) → found ≡ None → name ≡ at_entry strong → IsDigest strong
    → IsOne S (λ T x. IsHeld T strong x) found → named_at S name ≡ []
at_none S name strong found is named digest h =
    none_named S name strong digest named (subst (λ (o : Option Entry). IsOne S (λ T x. IsHeld T strong x) o) is h)

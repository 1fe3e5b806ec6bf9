-- An honest store stays honest while a record of a success is put into it.
use Rattle.std.proofs.Common.{◌≡◌, ◌⊎◌, ℕ, Bool, true, false, cond, List, [], ◌∷◌, ◌++◌, map, Option, Some, None, refl, sym, ap, ◌∙◌, subst, inl, inr}
use Rattle.std.specs.FinMap.{empty, get, insert, get-empty, get-insert, slice_cmp-IsAntisymmetric, nat_cmp-IsAntisymmetric}
use Rattle.std.specs.List.{AllByRecursion}
use Rattle.std.specs.Ordering.{nat_cmp, eq_by_cmp}
use Rattle.std.specs.Cmp.{Equal-is}
use Rattle.std.specs.Cmp.Lexicographic.{slice_cmp, nat_list_cmp_total}
use Rattle.std.proofs.lemmas.Cmp.{eq_by_cmp_equiv}
use Rattle.std.proofs.lemmas.Option.{same_Some}
use Rattle.bx_tree.proofs.Lists.{all_front, all_back}
use Rattle.bx_tree.proofs.Members.{all_has}
use Rattle.sha2.specs.Sha256.{sha256}
use Rattle.observed.specs.Texts.{has_match, paths_text}
use Rattle.bx_io.specs.Holdings.{Change, Holdings, IsPrefix, holdings_after}
use Rattle.bx_io.proofs.Changes.{after-append}
use Rattle.run_record.specs.Facts.{Facts, Sound}
use Rattle.prints.specs.Processes.{weak_parts}
use Rattle.prints.specs.Strong.{strong_parts}
use Rattle.prints.specs.Weak.{weak_text}
use Rattle.prints.proofs.StrongTexts.{strong_again}
use Rattle.memo_format.specs.Entries.{entry_text, read_entry_text}
use Rattle.memo_format.specs.Selectors.{selectors_text}
use Rattle.memo_format.specs.StoreNames.{HoldsBlob, HoldsEntry, at_blob, at_entry, at_list}
use Rattle.memo_format.specs.declared.entry.Entry.{Entry}
use Rattle.memo_format.specs.declared.selector.Selector.{Selector}
use Rattle.content_store.specs.Contents.{IsContent, blob_put}
use Rattle.bx_digest.proofs.HashesAreDigests.{is_digest}
use Rattle.run_record.specs.Collisions.{NoCollision, contents_of}
use Rattle.run_record.specs.Digests.{weak_of}
use Rattle.two_phase_meaning.specs.Contents.{HoldsAll, desc_contents, given_contents}
use Rattle.two_phase_meaning.specs.Honest.{Honest, HonestEntry}
use Rattle.two_phase_meaning.specs.Saving.{ComparedInSave, IsGood, Spelled, answers_text, blobs_of, entry_put, list_put, outcome_files, paths_digest, puts_of, record_entry}
use Rattle.two_phase_meaning.proofs.Digests.{blob_no_entry, blob_no_list, entry_no_blob, entry_no_list, same_blob_name}
use Rattle.two_phase_meaning.proofs.Same.{all_map, lines_are}

-- ## What is held after a put

pub same_name : (q name : List ℕ) → eq_by_cmp (slice_cmp nat_cmp) q name ≡ true → q ≡ name
same_name q name e = slice_cmp-IsAntisymmetric nat_cmp-IsAntisymmetric q name ((Equal-is (slice_cmp nat_cmp q name)).0 e)

chosen : (b : Bool) (new old found : Option (List ℕ)) → cond b new old ≡ found → ((b ≡ true) × (new ≡ found)) ⊎ ((b ≡ false) × (old ≡ found))
chosen true new old found e = inl (refl, e)
chosen false new old found e = inr (refl, e)

-- what is found after a put is what was put, or was there before
pub put_or_old : (S : Holdings) (name bytes q x : List ℕ) → get (insert S name bytes) q ≡ Some x → ((q ≡ name) × (bytes ≡ x)) ⊎ (get S q ≡ Some x)
put_or_old S name bytes q x e =
    elim (chosen (eq_by_cmp (slice_cmp nat_cmp) q name) (Some bytes) (get S q) (Some x) (sym (get-insert nat_list_cmp_total S name bytes q) ∙ e)) [
      | inl h ↦ inl (same_name q name h.0, same_Some bytes x h.1)
      | inr h ↦ inr h.1
    ]

put_by : (b : Bool) (S : Holdings) (name bytes q x : List ℕ) → eq_by_cmp (slice_cmp nat_cmp) q name ≡ b → (q ≡ name → bytes ≡ x) → get S q ≡ Some x
    → cond b (Some bytes) (get S q) ≡ Some x
put_by true S name bytes q x e same old = ap Some (same (same_name q name e))
put_by false S name bytes q x e same old = old

-- what was there before is found after a put of other bytes elsewhere
pub still_there : (S : Holdings) (name bytes q x : List ℕ) → (q ≡ name → bytes ≡ x) → get S q ≡ Some x → get (insert S name bytes) q ≡ Some x
still_there S name bytes q x same old =
    get-insert nat_list_cmp_total S name bytes q ∙ put_by (eq_by_cmp (slice_cmp nat_cmp) q name) S name bytes q x refl same old

name_itself : (name : List ℕ) → eq_by_cmp (slice_cmp nat_cmp) name name ≡ true
name_itself name = (eq_by_cmp_equiv nat_list_cmp_total).refl name

put_itself : (b : Bool) (S : Holdings) (name bytes : List ℕ) → eq_by_cmp (slice_cmp nat_cmp) name name ≡ b → cond b (Some bytes) (get S name) ≡ Some bytes
put_itself true S name bytes e = refl
put_itself false S name bytes e = let itself : eq_by_cmp (slice_cmp nat_cmp) name name ≡ true = name_itself name in let never : true ≡ false = sym itself ∙ e in cc

pub there_now : (S : Holdings) (name bytes : List ℕ) → get (insert S name bytes) name ≡ Some bytes
there_now S name bytes = get-insert nat_list_cmp_total S name bytes name ∙ put_itself (eq_by_cmp (slice_cmp nat_cmp) name name) S name bytes refl

-- ## Contents stay

-- what is held under its own digest in the first is so in the other
abbrev pub Grows : Holdings → Holdings → Type 0
Grows S T = (x : List ℕ) → HoldsBlob S x → HoldsBlob T x

still_content : (S T : Holdings) → Grows S T → (digest text : List ℕ) → IsContent S digest text → IsContent T digest text
still_content S T grows digest text h = record { held = grows text h.held; digest_is = h.digest_is }

pub still_honest : (S T : Holdings) → Grows S T → (e : Entry) → HonestEntry S e → HonestEntry T e
still_honest S T grows e h = record {
  desc = h.desc;
  asks = h.asks;
  given = h.given;
  files = h.files;
  weak = (h.weak.0, still_content S T grows e.weak h.weak.0 h.weak.1, h.weak.2);
  paths = (h.paths.0, still_content S T grows e.paths h.paths.0 h.paths.1, h.paths.2);
  strong = (h.strong.0, still_content S T grows e.strong h.strong.0 h.strong.1, h.strong.2);
  one_each = h.one_each;
  declared = all_map (HoldsBlob S) (HoldsBlob T) (desc_contents h.desc) grows h.declared;
  answers = all_map (HoldsBlob S) (HoldsBlob T) (given_contents h.given) grows h.answers;
  made = all_map (HoldsBlob S) (HoldsBlob T) (contents_of h.files) grows h.made;
  outputs = h.outputs;
  run = h.run;
}

-- ## Puts of contents

module _ (M : List ℕ → Type 0) (apart : NoCollision M) where
  abbrev Within : Holdings → Type 0
  Within S = (x : List ℕ) → HoldsBlob S x → M x

  blob_grows : (S : Holdings) → Within S → (x : List ℕ) → M x → Grows S (insert S (at_blob (sha256 x)) x)
  blob_grows S within x m y h =
      still_there S (at_blob (sha256 x)) x (at_blob (sha256 y)) y
      (λ e. apart x y m (within y h) (sym (same_blob_name (sha256 y) (sha256 x) (is_digest y) (is_digest x) e))) h

  blob_within : (S : Holdings) → Within S → (x : List ℕ) → M x → Within (insert S (at_blob (sha256 x)) x)
  blob_within S within x m y h = elim (put_or_old S (at_blob (sha256 x)) x (at_blob (sha256 y)) y h) [
    | inl k ↦ subst M k.1 m
    | inr k ↦ within y k
  ]

  no_entry_put : (S : Holdings) (x : List ℕ) (e : Entry) → HoldsEntry (insert S (at_blob (sha256 x)) x) e → HoldsEntry S e
  no_entry_put S x e h = elim (put_or_old S (at_blob (sha256 x)) x (at_entry e.strong) h.0 h.1) [
    | inl k ↦ absurd (entry_no_blob e.strong (sha256 x) k.0)
    | inr k ↦ (h.0, k, h.2)
  ]

  blob_honest : (S : Holdings) → Honest S → Within S → (x : List ℕ) → M x → Honest (insert S (at_blob (sha256 x)) x)
  blob_honest S honest within x m e h =
      still_honest S (insert S (at_blob (sha256 x)) x) (blob_grows S within x m) e (honest e (no_entry_put S x e h))

  pub blobs_grow : (xs : List (List ℕ)) → AllByRecursion M xs → (S : Holdings) → Within S → Grows S (holdings_after S (map blob_put xs))
  blobs_grow [] m S within y h = h
  blobs_grow (x ∷ xs) m S within y h =
      blobs_grow xs m.1 (insert S (at_blob (sha256 x)) x) (blob_within S within x m.0) y (blob_grows S within x m.0 y h)

  pub blobs_within : (xs : List (List ℕ)) → AllByRecursion M xs → (S : Holdings) → Within S → Within (holdings_after S (map blob_put xs))
  blobs_within [] m S within = within
  blobs_within (x ∷ xs) m S within = blobs_within xs m.1 (insert S (at_blob (sha256 x)) x) (blob_within S within x m.0)

  pub blobs_honest : (xs : List (List ℕ)) → AllByRecursion M xs → (S : Holdings) → Honest S → Within S → Honest (holdings_after S (map blob_put xs))
  blobs_honest [] m S honest within = honest
  blobs_honest (x ∷ xs) m S honest within =
      blobs_honest xs m.1 (insert S (at_blob (sha256 x)) x) (blob_honest S honest within x m.0) (blob_within S within x m.0)

  pub blobs_held : (xs : List (List ℕ)) → AllByRecursion M xs → (S : Holdings) → Within S → HoldsAll (holdings_after S (map blob_put xs)) xs
  blobs_held [] m S within = tt
  blobs_held (x ∷ xs) m S within = (
    blobs_grow xs m.1 (insert S (at_blob (sha256 x)) x) (blob_within S within x m.0) x (there_now S (at_blob (sha256 x)) x),
    blobs_held xs m.1 (insert S (at_blob (sha256 x)) x) (blob_within S within x m.0),
  )

-- ## The entry

-- the entry of a record whose texts and contents are held is honest
pub made_honest : (T : Holdings) (f : Facts) → Sound f → IsGood f → Spelled f → HoldsAll T (blobs_of f) → HonestEntry T (record_entry f)
made_honest T f sound good spelled h =
    let rest = h.1.1.1 in
    let later = all_back (HoldsBlob T) (desc_contents f.desc) (given_contents f.answers ++ contents_of (outcome_files f.outcome)) rest in
    record {
      desc = f.desc;
      asks = f.paths;
      given = f.answers;
      files = outcome_files f.outcome;
      weak = (weak_text (weak_parts f.desc), record { held = h.0; digest_is = refl }, spelled.weak);
      paths = (paths_text f.paths, record { held = h.1.0; digest_is = refl }, spelled.paths);
      strong = (
        answers_text f,
        record { held = h.1.1.0; digest_is = refl },
        strong_again (strong_parts (has_match f.paths) (weak_of f.desc) (paths_digest f) f.answers) (record {
          weak = is_digest (weak_text (weak_parts f.desc));
          paths = is_digest (paths_text f.paths);
          lines = lines_are f.answers;
        }),
      );
      one_each = sound.number;
      declared = all_front (HoldsBlob T) (desc_contents f.desc) (given_contents f.answers ++ contents_of (outcome_files f.outcome)) rest;
      answers = all_front (HoldsBlob T) (given_contents f.answers) (contents_of (outcome_files f.outcome)) later;
      made = all_back (HoldsBlob T) (given_contents f.answers) (contents_of (outcome_files f.outcome)) later;
      outputs = refl;
      run = record { paths_are = sound.run.paths; outcome = sound.run.outcome ∙ good };
    }

pub entry_grows : (S : Holdings) (strong bytes : List ℕ) → Grows S (insert S (at_entry strong) bytes)
entry_grows S strong bytes y h =
    still_there S (at_entry strong) bytes (at_blob (sha256 y)) y (λ e. absurd (blob_no_entry (sha256 y) strong e)) h

pub entry_honest : (T : Holdings) (f : Facts) → Honest T → Spelled f → HonestEntry T (record_entry f)
    → Honest (insert T (at_entry (sha256 (answers_text f))) (entry_text (record_entry f)))
entry_honest T f honest spelled made e h = elim (put_or_old T (at_entry (sha256 (answers_text f))) (entry_text (record_entry f)) (at_entry e.strong) h.0 h.1) [
  | inl k ↦
      let same : record_entry f ≡ e = same_Some (record_entry f) e (sym spelled.entry ∙ ap read_entry_text k.1 ∙ h.2) in
      subst (λ (x : Entry). HonestEntry (insert T (at_entry (sha256 (answers_text f))) (entry_text (record_entry f))) x) same
      (still_honest T (insert T (at_entry (sha256 (answers_text f))) (entry_text (record_entry f)))
      (entry_grows T (sha256 (answers_text f)) (entry_text (record_entry f))) (record_entry f) made)
  | inr k ↦
      still_honest T (insert T (at_entry (sha256 (answers_text f))) (entry_text (record_entry f)))
      (entry_grows T (sha256 (answers_text f)) (entry_text (record_entry f))) e (honest e (h.0, k, h.2))
]

-- ## The list

pub list_grows : (S : Holdings) (weak bytes : List ℕ) → Grows S (insert S (at_list weak) bytes)
list_grows S weak bytes y h =
    still_there S (at_list weak) bytes (at_blob (sha256 y)) y (λ e. absurd (blob_no_list (sha256 y) weak e)) h

pub list_honest : (T : Holdings) (weak bytes : List ℕ) → Honest T → Honest (insert T (at_list weak) bytes)
list_honest T weak bytes honest e h = elim (put_or_old T (at_list weak) bytes (at_entry e.strong) h.0 h.1) [
  | inl k ↦ absurd (entry_no_list e.strong weak k.0)
  | inr k ↦ still_honest T (insert T (at_list weak) bytes) (list_grows T weak bytes) e (honest e (h.0, k, h.2))
]

-- ## Prefixes

-- a prefix of puts of contents and more changes: some of the contents, or all of them and a prefix of the rest
abbrev pub Cut : List (List ℕ) → List Change → List Change → Type 0
Cut xs tail made = ((ys : List (List ℕ)) × (zs : List (List ℕ)) × (ys ++ zs ≡ xs) × (made ≡ map blob_put ys)) ⊎ ((rest : List Change) × (made ≡ map blob_put xs ++ rest) × IsPrefix rest tail)

pub cut : (xs : List (List ℕ)) (tail made : List Change) → IsPrefix made (map blob_put xs ++ tail) → Cut xs tail made
cut [] tail made p = inr (made, refl, p)
cut (x ∷ xs) tail [] p = inl ([], x ∷ xs, refl, refl)
cut (x ∷ xs) tail (c ∷ made) p =
    let joined : c ∷ (made ++ p.rest) ≡ blob_put x ∷ (map blob_put xs ++ tail) = p.joined in
    let here : c ≡ blob_put x = cc in
    let more : made ++ p.rest ≡ map blob_put xs ++ tail = cc in
    elim (cut xs tail made (record { rest = p.rest; joined = more })) [
      | inl h ↦ inl (x ∷ h.0, h.1, ap (λ t. x ∷ t) h.2, ap (λ (d : Change). d ∷ made) here ∙ ap (λ t. blob_put x ∷ t) h.3)
      | inr h ↦ inr (h.0, ap (λ (d : Change). d ∷ made) here ∙ ap (λ t. blob_put x ∷ t) h.1, h.2)
    ]

-- the entry and the list are put after all contents
after_tail : (T : Holdings) (f : Facts) (list : List Selector) → Honest T → Spelled f → HonestEntry T (record_entry f)
    → (made : List Change) → IsPrefix made (entry_put f ∷ list_put f list ∷ []) → Honest (holdings_after T made)
after_tail T f list honest spelled entry [] p = honest
after_tail T f list honest spelled entry (a ∷ []) p =
    let joined : a ∷ p.rest ≡ entry_put f ∷ list_put f list ∷ [] = p.joined in
    let here : entry_put f ≡ a = cc in
    subst (λ (c : Change). Honest (holdings_after T (c ∷ []))) here (entry_honest T f honest spelled entry)
after_tail T f list honest spelled entry (a ∷ b ∷ []) p =
    let joined : a ∷ b ∷ p.rest ≡ entry_put f ∷ list_put f list ∷ [] = p.joined in
    let here : entry_put f ≡ a = cc in
    let next : list_put f list ≡ b = cc in
    subst (λ (c : Change). Honest (holdings_after T (c ∷ b ∷ []))) here
    (subst (λ (c : Change). Honest (holdings_after T (entry_put f ∷ c ∷ []))) next
    (list_honest (insert T (at_entry (sha256 (answers_text f))) (entry_text (record_entry f))) (weak_of f.desc) (selectors_text list) (entry_honest T f honest spelled entry)))
after_tail T f list honest spelled entry (a ∷ b ∷ c ∷ more) p =
    let joined : a ∷ b ∷ c ∷ (more ++ p.rest) ≡ entry_put f ∷ list_put f list ∷ [] = p.joined in absurd cc

pub puts_stay_honest : (S : Holdings) (f : Facts) → Honest S → Sound f → IsGood f → Spelled f → NoCollision (ComparedInSave S f)
    → (list : List Selector) (made : List Change) → IsPrefix made (puts_of f list) → Honest (holdings_after S made)
puts_stay_honest S f honest sound good spelled apart list made p =
    let M : List ℕ → Type 0 = ComparedInSave S f in
    let within : (x : List ℕ) → HoldsBlob S x → M x = λ x h. inl h in
    let met : AllByRecursion M (blobs_of f) = all_has M (blobs_of f) (λ x h. inr h) in
    elim (cut (blobs_of f) (entry_put f ∷ list_put f list ∷ []) made p) [
      | inl h ↦
          subst (λ (cs : List Change). Honest (holdings_after S cs)) (sym h.3)
          (blobs_honest M apart h.0 (all_front M h.0 h.1 (subst (AllByRecursion M) (sym h.2) met)) S honest within)
      | inr h ↦
          let T : Holdings = holdings_after S (map blob_put (blobs_of f)) in
          subst (λ (cs : List Change). Honest (holdings_after S cs)) (sym h.1)
          (subst Honest (sym (after-append S (map blob_put (blobs_of f)) h.0))
          (after_tail T f list (blobs_honest M apart (blobs_of f) met S honest within) spelled
          (made_honest T f sound good spelled (blobs_held M apart (blobs_of f) met S within)) h.0 h.2))
    ]

-- ## The empty store

pub nothing_honest : Honest empty
nothing_honest e h = absurd (no_some h.0 (sym (get-empty (slice_cmp nat_cmp) (at_entry e.strong)) ∙ h.1))
  where
    no_some : (x : List ℕ) → None ≡ Some x → ⊥
    no_some x e = absurd cc

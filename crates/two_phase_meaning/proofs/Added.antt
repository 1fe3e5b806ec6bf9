-- What the puts of a record add to a store.
use Rattle.std.proofs.Common.{◌≡◌, ◌⊎◌, ℕ, List, [], ◌∷◌, ◌++◌, map, sym, ap, ◌∙◌, subst, inl, inr}
use Rattle.std.specs.FinMap.{insert}
use Rattle.std.proofs.lemmas.Option.{same_Some}
use Rattle.bx_tree.specs.Members.{Has}
use Rattle.bx_tree.proofs.Members.{has_front}
use Rattle.sha2.specs.Sha256.{sha256}
use Rattle.bx_io.specs.Holdings.{Change, Holdings, IsPrefix, holdings_after}
use Rattle.bx_io.proofs.Changes.{after-append}
use Rattle.run_record.specs.Facts.{Facts}
use Rattle.memo_format.specs.Entries.{entry_text, read_entry_text}
use Rattle.memo_format.specs.Selectors.{selectors_text}
use Rattle.memo_format.specs.StoreNames.{HoldsBlob, HoldsEntry, at_blob, at_entry, at_list}
use Rattle.memo_format.specs.declared.entry.Entry.{Entry}
use Rattle.memo_format.specs.declared.selector.Selector.{Selector}
use Rattle.content_store.specs.Contents.{blob_put}
use Rattle.run_record.specs.Digests.{weak_of}
use Rattle.two_phase_meaning.specs.Saving.{Spelled, answers_text, blobs_of, entry_put, list_put, puts_of, record_entry}
use Rattle.two_phase_meaning.proofs.Digests.{blob_no_entry, blob_no_list, entry_no_blob, entry_no_list}
use Rattle.two_phase_meaning.proofs.Puts.{cut, put_or_old}

-- ## Contents

blobs_added : (xs : List (List ℕ)) (S : Holdings) (y : List ℕ) → HoldsBlob (holdings_after S (map blob_put xs)) y → HoldsBlob S y ⊎ Has xs y
blobs_added [] S y h = inl h
blobs_added (x ∷ xs) S y h = elim (blobs_added xs (insert S (at_blob (sha256 x)) x) y h) [
  | inl k ↦ elim (put_or_old S (at_blob (sha256 x)) x (at_blob (sha256 y)) y k) [
    | inl e ↦ inr (inl e.1)
    | inr old ↦ inl old
  ]
  | inr k ↦ inr (inr k)
]

no_blob_by_entry : (T : Holdings) (strong bytes y : List ℕ) → HoldsBlob (insert T (at_entry strong) bytes) y → HoldsBlob T y
no_blob_by_entry T strong bytes y h = elim (put_or_old T (at_entry strong) bytes (at_blob (sha256 y)) y h) [
  | inl e ↦ absurd (blob_no_entry (sha256 y) strong e.0)
  | inr old ↦ old
]

no_blob_by_list : (T : Holdings) (weak bytes y : List ℕ) → HoldsBlob (insert T (at_list weak) bytes) y → HoldsBlob T y
no_blob_by_list T weak bytes y h = elim (put_or_old T (at_list weak) bytes (at_blob (sha256 y)) y h) [
  | inl e ↦ absurd (blob_no_list (sha256 y) weak e.0)
  | inr old ↦ old
]

-- ## Entries

no_entry_by_blob : (T : Holdings) (x : List ℕ) (e : Entry) → HoldsEntry (insert T (at_blob (sha256 x)) x) e → HoldsEntry T e
no_entry_by_blob T x e h = elim (put_or_old T (at_blob (sha256 x)) x (at_entry e.strong) h.0 h.1) [
  | inl k ↦ absurd (entry_no_blob e.strong (sha256 x) k.0)
  | inr old ↦ (h.0, old, h.2)
]

no_entry_by_list : (T : Holdings) (weak bytes : List ℕ) (e : Entry) → HoldsEntry (insert T (at_list weak) bytes) e → HoldsEntry T e
no_entry_by_list T weak bytes e h = elim (put_or_old T (at_list weak) bytes (at_entry e.strong) h.0 h.1) [
  | inl k ↦ absurd (entry_no_list e.strong weak k.0)
  | inr old ↦ (h.0, old, h.2)
]

no_entry_by_blobs : (xs : List (List ℕ)) (S : Holdings) (e : Entry) → HoldsEntry (holdings_after S (map blob_put xs)) e → HoldsEntry S e
no_entry_by_blobs [] S e h = h
no_entry_by_blobs (x ∷ xs) S e h = no_entry_by_blob S x e (no_entry_by_blobs xs (insert S (at_blob (sha256 x)) x) e h)

entry_added : (T : Holdings) (f : Facts) → Spelled f → (e : Entry) → HoldsEntry (insert T (at_entry (sha256 (answers_text f))) (entry_text (record_entry f))) e
    → HoldsEntry T e ⊎ (e ≡ record_entry f)
entry_added T f spelled e h = elim (put_or_old T (at_entry (sha256 (answers_text f))) (entry_text (record_entry f)) (at_entry e.strong) h.0 h.1) [
  | inl k ↦ inr (same_Some e (record_entry f) (sym h.2 ∙ ap read_entry_text (sym k.1) ∙ spelled.entry))
  | inr old ↦ inl (h.0, old, h.2)
]

-- ## The puts after all contents

-- a property of stores that both puts keep
module _ (f : Facts) (list : List Selector) (P : Holdings → Type 0) (T : Holdings) (whole : Type 0)
    (here : P T → whole)
    (one : P (insert T (at_entry (sha256 (answers_text f))) (entry_text (record_entry f))) → whole)
    (two : P (insert (insert T (at_entry (sha256 (answers_text f))) (entry_text (record_entry f))) (at_list (weak_of f.desc)) (selectors_text list)) → whole) where
  in_tail : (made : List Change) → IsPrefix made (entry_put f ∷ list_put f list ∷ []) → P (holdings_after T made) → whole
  in_tail [] p h = here h
  in_tail (a ∷ []) p h =
      let joined : a ∷ p.rest ≡ entry_put f ∷ list_put f list ∷ [] = p.joined in
      let first : a ≡ entry_put f = cc in
      one (subst (λ (c : Change). P (holdings_after T (c ∷ []))) first h)
  in_tail (a ∷ b ∷ []) p h =
      let joined : a ∷ b ∷ p.rest ≡ entry_put f ∷ list_put f list ∷ [] = p.joined in
      let first : a ≡ entry_put f = cc in
      let next : b ≡ list_put f list = cc in
      two (subst (λ (c : Change). P (holdings_after T (entry_put f ∷ c ∷ []))) next (subst (λ (c : Change). P (holdings_after T (c ∷ b ∷ []))) first h))
  in_tail (a ∷ b ∷ c ∷ more) p h =
      let joined : a ∷ b ∷ c ∷ (more ++ p.rest) ≡ entry_put f ∷ list_put f list ∷ [] = p.joined in absurd cc

pub contents_added : (S : Holdings) (f : Facts) (list : List Selector) (made : List Change) → IsPrefix made (puts_of f list) → (y : List ℕ)
    → HoldsBlob (holdings_after S made) y → HoldsBlob S y ⊎ Has (blobs_of f) y
contents_added S f list made p y h = elim (cut (blobs_of f) (entry_put f ∷ list_put f list ∷ []) made p) [
  | inl part ↦ elim (blobs_added part.0 S y (subst (λ (cs : List Change). HoldsBlob (holdings_after S cs) y) part.3 h)) [
    | inl old ↦ inl old
    | inr new ↦ inr (subst (λ (xs : List (List ℕ)). Has xs y) part.2 (has_front part.0 part.1 y new))
  ]
  | inr all ↦
      let T : Holdings = holdings_after S (map blob_put (blobs_of f)) in
      let later : HoldsBlob (holdings_after T all.0) y =
      subst (λ (R : Holdings). HoldsBlob R y) (after-append S (map blob_put (blobs_of f)) all.0)
      (subst (λ (cs : List Change). HoldsBlob (holdings_after S cs) y) all.1 h) in
      blobs_added (blobs_of f) S y
      (in_tail f list (λ (R : Holdings). HoldsBlob R y) T (HoldsBlob T y) (λ k. k)
      (no_blob_by_entry T (sha256 (answers_text f)) (entry_text (record_entry f)) y)
      (λ k. no_blob_by_entry T (sha256 (answers_text f)) (entry_text (record_entry f)) y
      (no_blob_by_list (insert T (at_entry (sha256 (answers_text f))) (entry_text (record_entry f))) (weak_of f.desc) (selectors_text list) y k))
      all.0 all.2 later)
]

pub entries_added : (S : Holdings) (f : Facts) (list : List Selector) (made : List Change) → Spelled f → IsPrefix made (puts_of f list) → (e : Entry)
    → HoldsEntry (holdings_after S made) e → HoldsEntry S e ⊎ (e ≡ record_entry f)
entries_added S f list made spelled p e h = elim (cut (blobs_of f) (entry_put f ∷ list_put f list ∷ []) made p) [
  | inl part ↦ inl (no_entry_by_blobs part.0 S e (subst (λ (cs : List Change). HoldsEntry (holdings_after S cs) e) part.3 h))
  | inr all ↦
      let T : Holdings = holdings_after S (map blob_put (blobs_of f)) in
      let later : HoldsEntry (holdings_after T all.0) e =
      subst (λ (R : Holdings). HoldsEntry R e) (after-append S (map blob_put (blobs_of f)) all.0)
      (subst (λ (cs : List Change). HoldsEntry (holdings_after S cs) e) all.1 h) in
      elim (in_tail f list (λ (R : Holdings). HoldsEntry R e) T (HoldsEntry T e ⊎ (e ≡ record_entry f)) (λ k. inl k)
      (entry_added T f spelled e)
      (λ k. entry_added T f spelled e
      (no_entry_by_list (insert T (at_entry (sha256 (answers_text f))) (entry_text (record_entry f))) (weak_of f.desc) (selectors_text list) e k))
      all.0 all.2 later) [
        | inl old ↦ inl (no_entry_by_blobs (blobs_of f) S e old)
        | inr new ↦ inr new
      ]
]

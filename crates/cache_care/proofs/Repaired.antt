-- A repair leaves an honest store, and an honest store is honest after each of its changes.
use Rattle.std.proofs.Common.{◌≡◌, ◌⊎◌, ℕ, Bool, true, false, cond, List, [], ◌∷◌, ◌++◌, map, Option, Some, None, refl, sym, ap, subst, ◌∙◌, inl, inr}
use Rattle.std.specs.FinMap.{get, keys}
use Rattle.std.specs.List.{AllByRecursion}
use Rattle.sha2.specs.Sha256.{sha256}
use Rattle.bx_tree.specs.Members.{Has}
use Rattle.bx_tree.proofs.Members.{has_back, has_either, has_front, has_map}
use Rattle.bx_io.specs.Holdings.{Change, Drop, Holdings, IsPrefix, holdings_after, name_of}
use Rattle.memo_format.specs.StoreNames.{HoldsBlob, HoldsEntry, IsWellFormedName, at_blob, at_entry, blob, entry}
use Rattle.memo_format.specs.declared.entry.Entry.{Entry}
use Rattle.two_phase_meaning.specs.Honest.{Honest, HonestEntry}
use Rattle.two_phase_meaning.proofs.Digests.{blob_no_entry}
use Rattle.two_phase_meaning.proofs.Puts.{Grows, still_honest}
use Rattle.cache_care_check.specs.Findings.{AreFindings, IsBadEntry, IsEntryAt, IsFinding, IsHonestEntry}
use Rattle.cache_care_check.specs.declared.surveying.Finding.{Finding}
use Rattle.cache_care_check.specs.declared.surveying.Finding.TheVariants as findings
use Rattle.cache_care_check.proofs.Told.{held_name, one_entry}
use Rattle.cache_care.specs.Planning.{IsDrop}
use Rattle.cache_care.specs.Repairing.{AreRepairs, IsDropped, IsKept, IsRepaired, names_found, repairs, same_finding}
use Rattle.cache_care.proofs.Dropping.{after_others, all_drops, drop_of, drops_both, dropped_after, drops_put_none, has_in_whole, none_after, prefix_drops, there_before}

-- ## Names of a finding

pub same_is : (a b : Finding) → same_finding a b ≡ true → a ≡ b
same_is findings.Damaged findings.Damaged e = refl
same_is findings.Damaged findings.Bad e = absurd cc
same_is findings.Damaged findings.Honest e = absurd cc
same_is findings.Damaged findings.Other e = absurd cc
same_is findings.Bad findings.Damaged e = absurd cc
same_is findings.Bad findings.Bad e = refl
same_is findings.Bad findings.Honest e = absurd cc
same_is findings.Bad findings.Other e = absurd cc
same_is findings.Honest findings.Damaged e = absurd cc
same_is findings.Honest findings.Bad e = absurd cc
same_is findings.Honest findings.Honest e = refl
same_is findings.Honest findings.Other e = absurd cc
same_is findings.Other findings.Damaged e = absurd cc
same_is findings.Other findings.Bad e = absurd cc
same_is findings.Other findings.Honest e = absurd cc
same_is findings.Other findings.Other e = refl

-- of each name that is among those of a finding, this was found
pub found_is : (S : Holdings) (wanted : Finding) (names : List (List ℕ)) (found : List Finding) → AreFindings S names found
    → (name : List ℕ) → Has (names_found wanted names found) name → IsFinding S name wanted
found_is S wanted [] found are name h = absurd h
found_is S wanted (n ∷ names) [] are name h = absurd are
found_is S wanted (n ∷ names) (f ∷ found) are name h =
    by_test (same_finding wanted f) refl (found_is S wanted names found are.1 name) h
  where
    by_test : (b : Bool) → same_finding wanted f ≡ b → (Has (names_found wanted names found) name → IsFinding S name wanted)
        → Has (cond b (n ∷ names_found wanted names found) (names_found wanted names found)) name → IsFinding S name wanted
    by_test true same later k = elim k [
      | inl e ↦
          subst (λ (q : List ℕ). IsFinding S q wanted) e
          (subst (λ (g : Finding). IsFinding S n g) (sym (same_is wanted f same)) are.0)
      | inr more ↦ later more
    ]
    by_test false other later k = later k

-- a name of which a finding was made is among those of it
pub is_found : (S : Holdings) (names : List (List ℕ)) (found : List Finding) → AreFindings S names found → (name : List ℕ)
    → Has names name → (f : Finding) × IsFinding S name f × Has (names_found f names found) name
is_found S [] found are name h = absurd h
is_found S (n ∷ names) [] are name h = absurd are
is_found S (n ∷ names) (f ∷ found) are name h = elim h [
  | inl e ↦ (
    f,
    subst (λ (q : List ℕ). IsFinding S q f) e are.0,
    subst (λ b. Has (cond b (n ∷ names_found f names found) (names_found f names found)) name) (sym (itself f)) (inl e),
  )
  | inr k ↦
      let more = is_found S names found are.1 name k in
      (more.0, more.1, passed (names_found more.0 names found) (same_finding more.0 f) more.2)
]
  where
    itself : (g : Finding) → same_finding g g ≡ true
    itself findings.Damaged = refl
    itself findings.Bad = refl
    itself findings.Honest = refl
    itself findings.Other = refl

    passed : (ns : List (List ℕ)) (b : Bool) → Has ns name → Has (cond b (n ∷ ns) ns) name
    passed ns true h = inr h
    passed ns false h = h

-- ## Changes of a repair

repairs_drop : (S : Holdings) (changes : List Change) → AreRepairs S changes → AllByRecursion IsDrop changes
repairs_drop S changes r =
    subst (AllByRecursion IsDrop) (sym r.changes_are)
    (drops_both (map Drop (names_found findings.Bad (keys S) r.found)) (map Drop (names_found findings.Damaged (keys S) r.found))
    (all_drops (names_found findings.Bad (keys S) r.found)) (all_drops (names_found findings.Damaged (keys S) r.found)))

-- each change is of a name that is dropped
repairs_of_dropped : (S : Holdings) (changes : List Change) → AreRepairs S changes → (c : Change) → Has changes c → IsDropped S (name_of c)
repairs_of_dropped S changes r c h =
    elim (has_either (map Drop (names_found findings.Bad (keys S) r.found)) (map Drop (names_found findings.Damaged (keys S) r.found)) c
    (subst (λ (cs : List Change). Has cs c) r.changes_are h)) [
      | inl bad ↦ inr (found_is S findings.Bad (keys S) r.found r.findings (name_of c) (drop_of (names_found findings.Bad (keys S) r.found) c bad))
      | inr damaged ↦ inl (found_is S findings.Damaged (keys S) r.found r.findings (name_of c) (drop_of (names_found findings.Damaged (keys S) r.found) c damaged))
    ]

-- a name that is kept is not one that is dropped
not_both : (S : Holdings) (name : List ℕ) → IsKept S name → IsDropped S name → ⊥
not_both S name kept dropped = elim dropped [
  | inl damaged ↦ damaged kept.0
  | inr bad ↦ bad.dishonest (kept.1 bad.entry bad.held)
]

content_kept : (S : Holdings) (x : List ℕ) → HoldsBlob S x → IsKept S (at_blob (sha256 x))
content_kept S x h = (blob x h refl, λ e at. absurd (blob_no_entry (sha256 x) e.strong at.name_is))

-- contents stay
pub repairs_grow : (S : Holdings) (changes made : List Change) → AreRepairs S changes → IsPrefix made changes
    → Grows S (holdings_after S made)
repairs_grow S changes made r p x h =
    after_others S made (at_blob (sha256 x))
    (λ c k e. not_both S (at_blob (sha256 x)) (content_kept S x h)
    (subst (IsDropped S) (sym e) (repairs_of_dropped S changes r c (has_in_whole made changes p c k)))) ∙ h

entry_before : (S : Holdings) (changes : List Change) → AllByRecursion IsDrop changes → (e : Entry) → HoldsEntry (holdings_after S changes) e
    → HoldsEntry S e
entry_before S changes drops e h = (h.0, there_before S changes (at_entry e.strong) h.0 (drops_put_none (at_entry e.strong) changes drops) h.1, h.2)

pub repairs_honest : (S : Holdings) (changes made : List Change) → Honest S → AreRepairs S changes → IsPrefix made changes
    → Honest (holdings_after S made)
repairs_honest S changes made honest r p e h =
    still_honest S (holdings_after S made) (repairs_grow S changes made r p) e
    (honest e (entry_before S made (prefix_drops made changes p (repairs_drop S changes r)) e h))

-- ## The repaired store

planned : (S : Holdings) (changes : List Change) (r : AreRepairs S changes) (f : Finding) (name : List ℕ)
    → (f ≡ findings.Bad) ⊎ (f ≡ findings.Damaged) → Has (names_found f (keys S) r.found) name → Has changes (Drop name)
planned S changes r f name which h =
    subst (λ (cs : List Change). Has cs (Drop name)) (sym r.changes_are) (elim which [
      | inl e ↦
          has_front (map Drop (names_found findings.Bad (keys S) r.found))
          (map Drop (names_found findings.Damaged (keys S) r.found)) (Drop name)
          (has_map Drop (names_found findings.Bad (keys S) r.found) name
          (subst (λ (g : Finding). Has (names_found g (keys S) r.found) name) e h))
      | inr e ↦
          has_back (map Drop (names_found findings.Bad (keys S) r.found))
          (map Drop (names_found findings.Damaged (keys S) r.found)) (Drop name)
          (has_map Drop (names_found findings.Damaged (keys S) r.found) name
          (subst (λ (g : Finding). Has (names_found g (keys S) r.found) name) e h))
    ])

-- what is found of a name says whether it is kept
judged : (S : Holdings) (name : List ℕ) (f : Finding) → IsFinding S name f → IsKept S name ⊎ IsDropped S name
judged S name findings.Damaged h = inr (inl h)
judged S name findings.Bad h = inr (inr h)
judged S name findings.Honest h =
    inl (
      entry h.entry h.held.held h.held.name_is,
      λ e at. subst (HonestEntry S) (one_entry S name h.entry e h.held at) h.honest,
    )
judged S name findings.Other h = inl (h.0, λ e at. absurd (h.1 e at))

pub repaired : (S : Holdings) (changes : List Change) → AreRepairs S changes → IsRepaired S (holdings_after S changes)
repaired S changes r = record {
  each = λ name bytes held.
      let found = is_found S (keys S) r.found r.findings name (held_name S name bytes held) in
      judged S name found.0 found.1;
  kept = λ name kept.
      after_others S changes name
      (λ c h e. not_both S name kept (subst (IsDropped S) (sym e) (repairs_of_dropped S changes r c h)));
  dropped = λ name dropped. by_held name dropped (get S name) refl;
  none_added = λ name none. none_after S changes name (drops_put_none name changes (repairs_drop S changes r)) none;
}
  where
    gone : (name : List ℕ) → IsDropped S name → (f : Finding) → IsFinding S name f → Has (names_found f (keys S) r.found) name
        → get (holdings_after S changes) name ≡ None
    gone name dropped findings.Damaged h k = dropped_after S changes name (drops_put_none name changes (repairs_drop S changes r)) (planned S changes r findings.Damaged name (inr refl) k)
    gone name dropped findings.Bad h k = dropped_after S changes name (drops_put_none name changes (repairs_drop S changes r)) (planned S changes r findings.Bad name (inl refl) k)
    gone name dropped findings.Honest h k = absurd (kept_not_dropped (judged S name findings.Honest h))
      where
        kept_not_dropped : IsKept S name ⊎ IsDropped S name → ⊥
        kept_not_dropped which = not_both S name
            (entry h.entry h.held.held h.held.name_is, λ e at. subst (HonestEntry S) (one_entry S name h.entry e h.held at) h.honest) dropped
    gone name dropped findings.Other h k = absurd (not_both S name (h.0, λ e at. absurd (h.1 e at)) dropped)

    by_held : (name : List ℕ) → IsDropped S name → (o : Option (List ℕ)) → get S name ≡ o → get (holdings_after S changes) name ≡ None
    by_held name dropped None e = none_after S changes name (drops_put_none name changes (repairs_drop S changes r)) e
    by_held name dropped (Some bytes) e =
        let found = is_found S (keys S) r.found r.findings name (held_name S name bytes e) in
        gone name dropped found.0 found.1 found.2

pub repaired_grows : (S T : Holdings) → IsRepaired S T → Grows S T
repaired_grows S T r x h = r.kept (at_blob (sha256 x)) (content_kept S x h) ∙ h

-- an entry of the repaired store was there, and was honest
entry_kept : (S T : Holdings) → IsRepaired S T → (e : Entry) → HoldsEntry T e → HoldsEntry S e × HonestEntry S e
entry_kept S T r e h = by_held (get S (at_entry e.strong)) refl
  where
    by_held : (o : Option (List ℕ)) → get S (at_entry e.strong) ≡ o → HoldsEntry S e × HonestEntry S e
    by_held None none = let never : None ≡ Some h.0 = sym (r.none_added (at_entry e.strong) none) ∙ h.1 in absurd cc
    by_held (Some bytes) there = elim (r.each (at_entry e.strong) bytes there) [
      | inl kept ↦
          let before : HoldsEntry S e = (h.0, sym (r.kept (at_entry e.strong) kept) ∙ h.1, h.2) in
          (before, kept.1 e (record { held = before; name_is = refl }))
      | inr dropped ↦ let never : None ≡ Some h.0 = sym (r.dropped (at_entry e.strong) dropped) ∙ h.1 in absurd cc
    ]

pub repaired_honest : (S T : Holdings) → IsRepaired S T → Honest T
repaired_honest S T r e h = still_honest S T (repaired_grows S T r) e (entry_kept S T r e h).1

pub honest_kept : (S T : Holdings) → IsRepaired S T → (e : Entry) → HoldsEntry S e → HonestEntry S e → HoldsEntry T e × HonestEntry T e
honest_kept S T r e held honest =
    let kept : IsKept S (at_entry e.strong) =
    (entry e held refl, λ d at. subst (HonestEntry S) (one_entry S (at_entry e.strong) e d (record { held = held; name_is = refl }) at) honest) in
    ((held.0, r.kept (at_entry e.strong) kept ∙ held.1, held.2), still_honest S T (repaired_grows S T r) e honest)

-- Overlaps among the first pips of a list.
use Rattle.std.proofs.Common.{inl, inr, ◌≡◌, ℕ, ◌+◌, ◌<◌, List, length, length-take, take, Some, arith, subst, sym}
use Rattle.std.specs.Prelude.{IsSomeAnd}
use Rattle.std.specs.List.{Contains}
use Rattle.std.proofs.lemmas.Bool.{cases_lt}
use Rattle.bx_tree.proofs.Lists.{slice_get-take}
use Rattle.pip_model_types.specs.declared.pip.Pip.{Pip}
use Rattle.pip_model_types.specs.declared.pip.PipKind.{PipKind}
use Rattle.graph_check_outputs.specs.Firsts.{IsFirst}
use Rattle.graph_check_outputs.specs.Outputs.{PipHas, declared_files, outputs}
use Rattle.graph_check_outputs.specs.Overlap.{OverlapAt, Overlaps, full_seals}
use Rattle.graph_check_outputs.specs.Overlap.Overlaps.{Nested, OnePath, Unshared, Unlisted, Meets}
use Rattle.graph_check_outputs.specs.Sharing.{HasOverlap}
use Rattle.graph_check_outputs.proofs.Has.{has_within}
use Rattle.pip_model_types.specs.Kinds.{outdirs_of}

pub into : {X : Type 0} (items : PipKind → List X) (pips : List Pip) (m i : ℕ) (x : X) → i < m → PipHas items pips i x → PipHas items (take m pips) i x
into items pips m i x l h = subst (λ o. IsSomeAnd o (λ (p : Pip). Contains (items p.kind) x)) (sym (slice_get-take pips m i l)) h

pub out_of : {X : Type 0} (items : PipKind → List X) (pips : List Pip) (m i : ℕ) (x : X) → i < m → PipHas items (take m pips) i x → PipHas items pips i x
out_of items pips m i x l h = subst (λ o. IsSomeAnd o (λ (p : Pip). Contains (items p.kind) x)) (slice_get-take pips m i l) h

pub overlaps_within : (pips : List Pip) (i j : ℕ) → Overlaps pips i j → (i < length pips) × (j < length pips)
overlaps_within pips i j (Nested (path, dir, h, k, b)) = (has_within outputs pips i path h, has_within outputs pips j dir k)
overlaps_within pips i j (OnePath (file, dir, h, k, e)) = (has_within declared_files pips i file h, has_within outdirs_of pips j dir k)
overlaps_within pips i j (Unshared (n, (dir, other, h, k, e, s))) = (has_within outdirs_of pips i dir h, has_within outdirs_of pips j other k)
overlaps_within pips i j (Unlisted (file, seal, h, k, u)) = (has_within declared_files pips i file h, has_within full_seals pips j seal k)
overlaps_within pips i j (Meets (seal, dir, h, k, w)) = (has_within full_seals pips i seal h, has_within outdirs_of pips j dir k)

overlaps_into : (pips : List Pip) (m i j : ℕ) → i < m → j < m → Overlaps pips i j → Overlaps (take m pips) i j
overlaps_into pips m i j l n (Nested (path, dir, h, k, b)) = Nested (path, dir, into outputs pips m i path l h, into outputs pips m j dir n k, b)
overlaps_into pips m i j l n (OnePath (file, dir, h, k, e)) =
    OnePath (file, dir, into declared_files pips m i file l h, into outdirs_of pips m j dir n k, e)
overlaps_into pips m i j l n (Unshared (a, (dir, other, h, k, e, s))) =
    Unshared (a, (dir, other, into outdirs_of pips m i dir l h, into outdirs_of pips m j other n k, e, s))
overlaps_into pips m i j l n (Unlisted (file, seal, h, k, u)) =
    Unlisted (file, seal, into declared_files pips m i file l h, into full_seals pips m j seal n k, u)
overlaps_into pips m i j l n (Meets (seal, dir, h, k, w)) = Meets (seal, dir, into full_seals pips m i seal l h, into outdirs_of pips m j dir n k, w)

overlaps_out : (pips : List Pip) (m i j : ℕ) → i < m → j < m → Overlaps (take m pips) i j → Overlaps pips i j
overlaps_out pips m i j l n (Nested (path, dir, h, k, b)) = Nested (path, dir, out_of outputs pips m i path l h, out_of outputs pips m j dir n k, b)
overlaps_out pips m i j l n (OnePath (file, dir, h, k, e)) =
    OnePath (file, dir, out_of declared_files pips m i file l h, out_of outdirs_of pips m j dir n k, e)
overlaps_out pips m i j l n (Unshared (a, (dir, other, h, k, e, s))) =
    Unshared (a, (dir, other, out_of outdirs_of pips m i dir l h, out_of outdirs_of pips m j other n k, e, s))
overlaps_out pips m i j l n (Unlisted (file, seal, h, k, u)) =
    Unlisted (file, seal, out_of declared_files pips m i file l h, out_of full_seals pips m j seal n k, u)
overlaps_out pips m i j l n (Meets (seal, dir, h, k, w)) = Meets (seal, dir, out_of full_seals pips m i seal l h, out_of outdirs_of pips m j dir n k, w)

-- no pips have no overlap
pub none_of_none : (pips : List Pip) → HasOverlap (take 0 pips) → ⊥
none_of_none pips (i, j, o) = let within = overlaps_within (take 0 pips) i j o in omega (arith, within.0, length-take 0 pips)

pub some_pips : (pips : List Pip) → HasOverlap pips → 0 < length pips
some_pips pips (i, j, o) = let within = overlaps_within pips i j o in omega (arith, within.0)

-- where some first pips keep apart, none of them overlaps with itself or an earlier one
pub none_before : (pips : List Pip) (m : ℕ) → (HasOverlap (take m pips) → ⊥) → (i : ℕ) → i < m → OverlapAt pips i → ⊥
none_before pips m apart i l (j, le, o) = elim o [
  | inl x ↦ apart (i, j, overlaps_into pips m i j l (omega (arith, l, le)) x)
  | inr x ↦ apart (j, i, overlaps_into pips m j i (omega (arith, l, le)) l x)
]

-- where the first pips overlap, some one of them overlaps with itself or an earlier one
pub some_before : (pips : List Pip) (m : ℕ) → HasOverlap (take m pips) → (i : ℕ) × (i < m) × OverlapAt pips i
some_before pips m (i, j, o) =
    let within = overlaps_within (take m pips) i j o in
    let long = length-take m pips in
    let l : i < m = omega (arith, within.0, long) in
    let n : j < m = omega (arith, within.1, long) in
    let there = overlaps_out pips m i j l n o in
    elim (cases_lt i j) [
      | inl less ↦ (j, n, (i, omega (arith, less), inr there))
      | inr more ↦ (i, l, (j, more, inl there))
    ]

-- where pips up to one keep apart and with it overlap, it is the first that overlaps
pub first_from_prefixes : (pips : List Pip) (i : ℕ) → (HasOverlap (take i pips) → ⊥) → HasOverlap (take (i + 1) pips) → IsFirst (OverlapAt pips) (Some i)
first_from_prefixes pips i apart overlap =
    let found = some_before pips (i + 1) overlap in
    let none = none_before pips i apart in
    elim (cases_lt found.0 i) [
      | inl early ↦ absurd (none found.0 early found.2)
      | inr late ↦ let here : found.0 ≡ i = omega (arith, late, found.1) in (subst (OverlapAt pips) here found.2, none)
    ]

pub none_at : (pips : List Pip) → (HasOverlap pips → ⊥) → (i : ℕ) → OverlapAt pips i → ⊥
none_at pips none i (j, l, o) = elim o [ inl x ↦ none (i, j, x) | inr x ↦ none (j, i, x) ]

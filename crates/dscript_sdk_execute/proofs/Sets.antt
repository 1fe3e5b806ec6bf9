-- A list as a set: no other list rises with its members.
use Rattle.std.proofs.Common.{◌≡◌, List, [], ◌∷◌, refl, inl, inr}
use Rattle.std.specs.List.Sorted.{IsStrictlySortedBy}
use Rattle.std.specs.Cmp.{IsTotalOrder}
use Rattle.std.specs.declared.cmp.Ordering.{Ordering}
use Rattle.std.specs.declared.cmp.Ordering.TheVariants.{Equal}
use Rattle.bx_tree.specs.Members.{Has}
use Rattle.bx_tree.proofs.Sets.{contains_has, has_contained, has_insert, insert_sorted, inserted, never_both, unique}
use Rattle.bx_tree.specs.Sets.{IsSetOf}
use Rattle.dscript_sdk_execute.specs.Sets.{set_by}

-- elements of the list that tie are equal
abbrev pub TiedAreEqual : {K : Type 0} → (K → K → Ordering) → List K → Type 0
TiedAreEqual {K} R xs = (x y : K) → Has xs x → Has xs y → R x y ≡ Equal → x ≡ y

set_only : {K : Type 0} (R : K → K → Ordering) (xs : List K) (q : K) → Has (set_by R xs) q → Has xs q
set_only R [] q h = h
set_only R (x ∷ xs) q h = elim (has_insert R (set_by R xs) x q h) [
  | inl e ↦ inl e
  | inr m ↦ inr (set_only R xs q m)
]

set_all : {K : Type 0} (R : K → K → Ordering) (xs : List K) → TiedAreEqual R xs → (q : K)
    → Has xs q → Has (set_by R xs) q
set_all R [] equal q h = h
set_all R (x ∷ xs) equal q h =
    inserted R (set_by R xs) x q (λ y m. equal x y (inl refl) (inr (set_only R xs y m)))
    (elim h [ inl e ↦ inl e | inr m ↦ inr (set_all R xs (λ y z a b. equal y z (inr a) (inr b)) q m) ])

set_rises : {K : Type 0} {R : K → K → Ordering} → IsTotalOrder R → (xs : List K)
    → IsStrictlySortedBy R (set_by R xs)
unfolding IsStrictlySortedBy
set_rises o [] = tt
set_rises {R = R} o (x ∷ xs) = insert_sorted o (set_by R xs) x (set_rises o xs)

pub only_set : {K : Type 0} {R : K → K → Ordering} → IsTotalOrder R → (given set : List K)
    → TiedAreEqual R given → IsSetOf R given set → set ≡ set_by R given
only_set {R = R} o given set equal s =
    unique R (never_both o) set (set_by R given) s.rising (set_rises o given)
    (λ q h. set_all R given equal q (has_contained given q ((s.members q).1 (contains_has set q h))))
    (λ q h. has_contained set q ((s.members q).0 (contains_has given q (set_only R given q h))))

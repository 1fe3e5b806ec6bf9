-- Which place lies below which: the test for it, and how two places above a third lie.
use Rattle.std.proofs.Common.{◌≡◌, ◌⊎◌, ℕ, Bool, true, false, eqb, IsTrue, List, [], ◌∷◌, ◌++◌, refl, ap, sym, subst, ◌∙◌, inl, inr, append_assoc}
use Rattle.std.specs.List.{AllByRecursion}
use Rattle.std.proofs.lemmas.Bool.{false_from_ne_true, false≢true, and_parts, and_from, eqb-true, eq-eqb}
use Rattle.bundle_folder.specs.Places.{IsWithin, is_within}

pub from_test : (place top : List ℕ) → is_within place top ≡ true → IsWithin place top
from_test [] [] h = inl refl
from_test (b ∷ bs) [] h = inr (bs, ap (λ x. x ∷ bs) (eqb-true b 47 h))
from_test [] (t ∷ ts) h = absurd (false≢true h)
from_test (b ∷ bs) (t ∷ ts) h =
    let parts = and_parts (eqb b t) (is_within bs ts) h in
    let first = eqb-true b t parts.0 in
    elim (from_test bs ts parts.1) [
      | inl e ↦ inl (ap (λ x. x ∷ bs) first ∙ ap (λ xs. t ∷ xs) e)
      | inr below ↦ inr (below.0, ap (λ x. x ∷ bs) first ∙ ap (λ xs. t ∷ xs) below.1)
    ]

itself : (place : List ℕ) → is_within place place ≡ true
itself [] = refl
itself (b ∷ bs) = and_from (eqb b b) (is_within bs bs) (eq-eqb b b refl) (itself bs)

below_test : (top rest : List ℕ) → is_within (top ++ 47 ∷ rest) top ≡ true
below_test [] rest = refl
below_test (t ∷ ts) rest =
    and_from (eqb t t) (is_within (ts ++ 47 ∷ rest) ts) (eq-eqb t t refl) (below_test ts rest)

pub to_test : (place top : List ℕ) → IsWithin place top → is_within place top ≡ true
to_test place top h = elim h [
  | inl e ↦ subst (λ x. is_within x top ≡ true) (sym e) (itself top)
  | inr below ↦ subst (λ x. is_within x top ≡ true) (sym below.1) (below_test top below.0)
]

-- what lies below a place that lies below another lies below that one
pub along : (place middle top : List ℕ) → IsWithin place middle → IsWithin middle top → IsWithin place top
along place middle top h k = elim h [
  | inl e ↦ subst (λ x. IsWithin x top) (sym e) k
  | inr below ↦ elim k [
    | inl e ↦ inr (below.0, below.1 ∙ ap (λ x. x ++ 47 ∷ below.0) e)
    | inr over ↦ inr (
      over.0 ++ 47 ∷ below.0,
      below.1 ∙ ap (λ x. x ++ 47 ∷ below.0) over.1 ∙ append_assoc top (47 ∷ over.0) (47 ∷ below.0),
    )
  ]
]

tests_meet : (place one other : List ℕ) → is_within place one ≡ true → is_within place other ≡ true
    → (is_within one other ≡ true) ⊎ (is_within other one ≡ true)
tests_meet place [] [] h k = inl refl
tests_meet [] [] (o ∷ os) h k = absurd (false≢true k)
tests_meet (b ∷ bs) [] (o ∷ os) h k =
    let first = eqb-true b o (and_parts (eqb b o) (is_within bs os) k).0 in inr (subst (λ x. eqb x 47 ≡ true) first h)
tests_meet [] (p ∷ ps) other h k = absurd (false≢true h)
tests_meet (b ∷ bs) (p ∷ ps) [] h k =
    let first = eqb-true b p (and_parts (eqb b p) (is_within bs ps) h).0 in inl (subst (λ x. eqb x 47 ≡ true) first k)
tests_meet (b ∷ bs) (p ∷ ps) (o ∷ os) h k =
    let one = and_parts (eqb b p) (is_within bs ps) h in
    let two = and_parts (eqb b o) (is_within bs os) k in
    let same : p ≡ o = sym (eqb-true b p one.0) ∙ eqb-true b o two.0 in
    elim (tests_meet bs ps os one.1 two.1) [
      | inl m ↦ inl (and_from (eqb p o) (is_within ps os) (eq-eqb p o same) m)
      | inr m ↦ inr (and_from (eqb o p) (is_within os ps) (eq-eqb o p (sym same)) m)
    ]

-- of two places above a third, one lies above the other
pub meet : (place one other : List ℕ) → IsWithin place one → IsWithin place other → IsWithin one other ⊎ IsWithin other one
meet place one other h k = elim (tests_meet place one other (to_test place one h) (to_test place other k)) [
  | inl m ↦ inl (from_test one other m)
  | inr m ↦ inr (from_test other one m)
]

no_slash_in : (top rest : List ℕ) → AllByRecursion (λ b. eqb b 47 ≡ false) (top ++ 47 ∷ rest) → ⊥
no_slash_in [] rest h = false≢true (sym h.0)
no_slash_in (t ∷ ts) rest h = no_slash_in ts rest h.1

-- one name lies below nothing but itself
pub name_is_top : (name other : List ℕ) → AllByRecursion (λ b. eqb b 47 ≡ false) name → IsWithin name other → name ≡ other
name_is_top name other all h = elim h [
  | inl e ↦ e
  | inr below ↦ absurd (no_slash_in other below.0 (subst (λ x. AllByRecursion (λ b. eqb b 47 ≡ false) x) below.1 all))
]

-- an answer that decides whether a place lies within another is the test for it
pub same_test : (r : Bool) (place top : List ℕ) → (IsTrue r → IsWithin place top) × (IsWithin place top → IsTrue r) → r ≡ is_within place top
same_test true place top h = sym (to_test place top (h.0 refl))
same_test false place top h = sym (false_from_ne_true (is_within place top) (λ t. false≢true (h.1 (from_test place top t))))

-- Two trees that have each other's files are equal.
use Rattle.std.proofs.Common.{◌≡◌, ◌⊎◌, ℕ, ◌<◌, zero, suc, List, [], ◌∷◌, length, get_or, refl, ap, sym, ◌∙◌, subst, inl, inr, arith}
use Rattle.std.specs.Prelude.{Contains}
use Rattle.std.specs.List.{AllByRecursion}
use Rattle.std.specs.List.Sorted.{IsStrictlySortedBy}
use Rattle.std.specs.declared.cmp.Ordering.TheVariants.{Less}
use Rattle.bx_tree.specs.Orders.{path_cmp_total}
use Rattle.bx_tree.specs.Paths.{Atoms, path_cmp}
use Rattle.bx_tree.specs.Trees.{Files, IsTree, paths_of}
use Rattle.bx_tree.proofs.Sets.{never_both}

pub first : {X : Type 0} (x : X) (xs : List X) → Contains (x ∷ xs) x
first x xs = (0, omega arith, refl)

pub later : {X : Type 0} (y x : X) (ys : List X) → Contains ys x → Contains (y ∷ ys) x
later y x ys h = (suc h.0, omega (arith, h.1), h.2)

-- an element of a list is its head or one of its tail
pub either : {X : Type 0} (y x : X) (ys : List X) → Contains (y ∷ ys) x → (y ≡ x) ⊎ Contains ys x
either y x ys h = by_place h.0 h.1 h.2
  where
    by_place : (k : ℕ) → k < length (y ∷ ys) → get_or (y ∷ ys) k x ≡ x → (y ≡ x) ⊎ Contains ys x
    by_place zero l e = inl e
    by_place (suc k) l e = inr (k, omega (arith, l), e)

pub no_member : {X : Type 0} (x : X) → Contains [] x → ⊥
no_member x h = absurd (omega (arith, h.1))

above : (x q : Atoms × List ℕ) (xs : Files) → AllByRecursion (λ p. path_cmp x.0 p ≡ Less) (paths_of xs) → Contains xs q → path_cmp x.0 q.0 ≡ Less
above x q [] all h = absurd (no_member q h)
above x q (y ∷ ys) all h = elim (either y q ys h) [
  | inl e ↦ subst (λ (z : Atoms × List ℕ). path_cmp x.0 z.0 ≡ Less) e all.0
  | inr k ↦ above x q ys all.1 k
]

heads : (x y : Atoms × List ℕ) (xs ys : Files)
    → AllByRecursion (λ p. path_cmp x.0 p ≡ Less) (paths_of xs) → AllByRecursion (λ p. path_cmp y.0 p ≡ Less) (paths_of ys)
    → Contains (y ∷ ys) x → Contains (x ∷ xs) y → x ≡ y
heads x y xs ys below below' h k = elim (either y x ys h) [
  | inl e ↦ sym e
  | inr m ↦ elim (either x y xs k) [
    | inl e ↦ e
    | inr n ↦ absurd (never_both path_cmp_total x.0 y.0 (above x y xs below n) (above y x ys below' m))
  ]
]

tails : (x y : Atoms × List ℕ) (xs ys : Files) → x ≡ y → AllByRecursion (λ p. path_cmp x.0 p ≡ Less) (paths_of xs)
    → ((q : Atoms × List ℕ) → Contains (x ∷ xs) q → Contains (y ∷ ys) q) → (q : Atoms × List ℕ) → Contains xs q → Contains ys q
tails x y xs ys same below into q h = elim (either y q ys (into q (later x q xs h))) [
  | inl e ↦
      let self : path_cmp x.0 x.0 ≡ Less = subst (λ (z : Atoms × List ℕ). path_cmp x.0 z.0 ≡ Less) (sym (same ∙ e)) (above x q xs below h) in
      absurd (never_both path_cmp_total x.0 x.0 self self)
  | inr k ↦ k
]

unique : (xs ys : Files) → IsStrictlySortedBy path_cmp (paths_of xs) → IsStrictlySortedBy path_cmp (paths_of ys)
    → ((q : Atoms × List ℕ) → Contains xs q → Contains ys q) → ((q : Atoms × List ℕ) → Contains ys q → Contains xs q) → xs ≡ ys
unfolding IsStrictlySortedBy
unique [] [] s t into back = refl
unique [] (y ∷ ys) s t into back = absurd (no_member y (back y (first y ys)))
unique (x ∷ xs) [] s t into back = absurd (no_member x (into x (first x xs)))
unique (x ∷ xs) (y ∷ ys) s t into back =
    let same = heads x y xs ys s.0 t.0 (into x (first x xs)) (back y (first y ys)) in
    ap (λ z. z ∷ xs) same ∙ ap (λ zs. y ∷ zs) (unique xs ys s.1 t.1
    (tails x y xs ys same s.0 into) (tails y x ys xs (sym same) t.0 back))

pub one_tree : (xs ys : Files) → IsTree xs → IsTree ys
    → ((q : Atoms × List ℕ) → Contains xs q → Contains ys q) → ((q : Atoms × List ℕ) → Contains ys q → Contains xs q) → xs ≡ ys
one_tree xs ys s t into back = unique xs ys s.rising t.rising into back

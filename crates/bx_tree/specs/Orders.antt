-- Paths are in one total order, and `==` on them is equality.
use Rattle.std.proofs.Common.{◌≡◌, ℕ, ◌<◌, true, List, [], ◌∷◌, refl, ap, subst}
use Rattle.std.specs.Bool.{Decides}
use Rattle.std.specs.Cmp.{IsTotalOrder, IsEquivalence, IsPartialEquivalence, IsPartialOrder, po}
use Rattle.std.specs.Cmp.{partial_equiv_from_equiv, Equal-is, both_ways}
use Rattle.std.specs.Ordering.{eq_by_cmp, nat_cmp, as_partial_cmp, MatchOrdering, ordering_then, is_eq}
use Rattle.std.specs.declared.cmp.Ordering.{Ordering}
use Rattle.std.specs.declared.cmp.Ordering.TheVariants.{Less, Equal, Greater}
use Rattle.std.specs.Cmp.Lexicographic.{slice_cmp}
use Rattle.std.proofs.lemmas.Cmp.{then_total, on_total, nat_list_cmp_total, lists_total}
use Rattle.std.proofs.lemmas.Cmp.{lists_equiv, nat_list_eq_equiv, ranked, tied_itself}
use Rattle.std.proofs.lemmas.Slice.Eq.{slice_eq-Decides, bytes_eq-Decides}
use Rattle.bx_tree.specs.Paths.{Atoms, path_cmp, path_text, same_path}

pub path_cmp_total : IsTotalOrder path_cmp
path_cmp_total = then_total (on_total path_text nat_list_cmp_total) (lists_total nat_list_cmp_total)

-- numbers that compare as equal are equal
same_number : (x y : ℕ) (o : Ordering) → MatchOrdering o (x < y) (x ≡ y) (y < x)
    → o ≡ Equal → x ≡ y
same_number x y Less h e = cc
same_number x y Equal h e = h
same_number x y Greater h e = cc

-- a comparison by two orders answers Equal only if both do
pub both_equal : (o p : Ordering) → ordering_then o p ≡ Equal → (o ≡ Equal) × (p ≡ Equal)
both_equal Less p e = cc
both_equal Equal p e = (refl, e)
both_equal Greater p e = cc

-- if elements that compare as equal are equal, so are lists
pub equal_lists : {X : Type 0} (R : X → X → Ordering) → ((x y : X) → R x y ≡ Equal → x ≡ y)
    → (xs ys : List X) → slice_cmp R xs ys ≡ Equal → xs ≡ ys
equal_lists R same [] [] e = refl
equal_lists R same [] (y ∷ ys) e = cc
equal_lists R same (x ∷ xs) [] e = cc
equal_lists R same (x ∷ xs) (y ∷ ys) e =
    let parts = both_equal (R x y) (slice_cmp R xs ys) e in
    let heads = same x y parts.0 in
    let tails = equal_lists R same xs ys parts.1 in
    cc

-- texts that compare as equal are equal
pub equal_texts : (xs ys : List ℕ) → slice_cmp nat_cmp xs ys ≡ Equal → xs ≡ ys
equal_texts = equal_lists nat_cmp (λ x y e. same_number x y (nat_cmp x y) (ranked x y (nat_cmp x y) refl) e)

-- lists of atoms that compare as equal are equal
pub equal_paths : (x y : Atoms) → path_cmp x y ≡ Equal → x ≡ y
equal_paths x y e =
    let by_text = slice_cmp nat_cmp (path_text x) (path_text y) in
    let by_atoms = slice_cmp (slice_cmp nat_cmp) x y in
    equal_lists (slice_cmp nat_cmp) equal_texts x y (both_equal by_text by_atoms e).1

pub same_path_decides : (x y : Atoms) → Decides (same_path x y) (x ≡ y)
same_path_decides x y = slice_eq-Decides bytes_eq-Decides x y (same_path x y) refl

pub path_cmp_matches : (x y : Atoms) → same_path x y ≡ eq_by_cmp path_cmp x y
path_cmp_matches x y = both_ways (same_path x y) (eq_by_cmp path_cmp x y)
    (λ e. subst (λ z. is_eq (path_cmp x z) ≡ true) ((same_path_decides x y).0 e)
    (ap is_eq (tied_itself path_cmp_total x)))
    (λ e. (same_path_decides x y).1 (equal_paths x y ((Equal-is (path_cmp x y)).0 e)))

pub same_path_equiv : IsEquivalence same_path
same_path_equiv = lists_equiv nat_list_eq_equiv

pub same_path_partial : IsPartialEquivalence same_path
same_path_partial = partial_equiv_from_equiv same_path_equiv

pub path_cmp_partial : IsPartialOrder same_path (as_partial_cmp path_cmp)
path_cmp_partial = po path_cmp_total path_cmp_matches

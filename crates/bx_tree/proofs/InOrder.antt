-- What is in order already stays as it is where it is put in order.
use Rattle.std.proofs.Common.{◌≡◌, false, List, [], ◌∷◌, map, ap, ◌∙◌}
use Rattle.std.specs.Cmp.{IsTotalOrder}
use Rattle.std.specs.List.{AllByRecursion, IsDistinct}
use Rattle.std.specs.List.Sorted.{IsPermutation, IsStrictlySortedBy}
use Rattle.std.specs.Ordering.{is_eq}
use Rattle.std.specs.declared.cmp.Ordering.{Ordering}
use Rattle.std.specs.declared.cmp.Ordering.TheVariants.{Less}
use Rattle.std.proofs.lemmas.List.Sorted.{Contains-permutation, IsPermutation-sym}
use Rattle.bx_tree.specs.Paths.{Atoms, path_cmp, same_path}
use Rattle.bx_tree.specs.Orders.{path_cmp_matches}
use Rattle.bx_tree.specs.Sets.{IsSetOf}
use Rattle.bx_tree.proofs.Sets.{contains_has, has_contained, never_both, unique}

-- the set of a list that rises is the list
pub set_same : {K : Type 0} {R : K → K → Ordering} → IsTotalOrder R → (given set : List K) → IsStrictlySortedBy R given → IsSetOf R given set → set ≡ given
set_same {R = R} order given set sorted is =
    unique R (never_both order) set given is.rising sorted
    (λ q h. has_contained given q ((is.members q).1 (contains_has set q h)))
    (λ q h. has_contained set q ((is.members q).0 (contains_has given q h)))

module _ {X K : Type 0} {R : K → K → Ordering} (order : IsTotalOrder R) (key : X → K) where
  all_keyed : (k : K) (xs : List X) → AllByRecursion (λ y. R k y ≡ Less) (map key xs) → AllByRecursion (λ x. R k (key x) ≡ Less) xs
  all_keyed k [] h = tt
  all_keyed k (x ∷ xs) h = (h.0, all_keyed k xs h.1)

  keyed : (xs : List X) → IsStrictlySortedBy R (map key xs) → IsStrictlySortedBy (λ a b. R (key a) (key b)) xs
  unfolding IsStrictlySortedBy
  keyed [] h = tt
  keyed (x ∷ xs) h = (all_keyed (key x) xs h.0, keyed xs h.1)

  -- a list that rises by a key is the one with its elements that rises so
  pub moved_same : (given moved : List X) → IsPermutation given moved → IsStrictlySortedBy R (map key given) → IsStrictlySortedBy R (map key moved) → moved ≡ given
  moved_same given moved same sorted risen =
      unique (λ a b. R (key a) (key b)) (λ a b. never_both order (key a) (key b)) moved given (keyed moved risen) (keyed given sorted)
      (λ q h. has_contained given q (Contains-permutation moved given q (IsPermutation-sym given moved same) (contains_has moved q h)))
      (λ q h. has_contained moved q (Contains-permutation given moved q same (contains_has given q h)))

-- paths that rise are distinct
pub rising_distinct : (paths : List Atoms) → IsStrictlySortedBy path_cmp paths → IsDistinct same_path paths
unfolding IsStrictlySortedBy IsDistinct
rising_distinct [] h = tt
rising_distinct (p ∷ ps) h = (others p ps h.0, rising_distinct ps h.1)
  where
    others : (p : Atoms) (ps : List Atoms) → AllByRecursion (λ q. path_cmp p q ≡ Less) ps → AllByRecursion (λ q. same_path p q ≡ false) ps
    others p [] h = tt
    others p (q ∷ qs) h = (path_cmp_matches p q ∙ ap is_eq h.0, others p qs h.1)

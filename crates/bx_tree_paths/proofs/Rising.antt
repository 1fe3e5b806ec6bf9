-- Lists that rise by path rise by the texts of their paths.
use Rattle.std.proofs.Common.{◌≡◌, ◌≢◌, ℕ, zero, suc, ◌+◌, ◌-◌, ◌<◌, true, false, List, [], length, get_or, map, refl, ap, sym, subst, ◌∙◌, arith}
use Rattle.std.specs.List.{All, AllByRecursion, IsDistinct}
use Rattle.std.specs.List.Sorted.{IsPermutation, IsSorted, IsSortedBy, IsStrictlySortedBy}
use Rattle.std.specs.Cmp.Lexicographic.{slice_cmp}
use Rattle.std.specs.Ordering.{is_lt, nat_cmp, ordering_reverse, ordering_then}
use Rattle.std.specs.declared.cmp.Ordering.TheVariants.{Less, Greater}
use Rattle.std.proofs.lemmas.Bool.{false≢true}
use Rattle.std.proofs.lemmas.List.{get_or-map, length-map}
use Rattle.std.proofs.lemmas.List.Elements.{recursion_from_All}
use Rattle.std.proofs.lemmas.List.Sorted.{All-permutation}
use Rattle.std.proofs.lemmas.Map.Keys.{apart_from_distinct, sorted_from_all_adjacent, IsDistinct-IsPermutation}
use Rattle.bx_tree.specs.Orders.{path_cmp_total, same_path_equiv}
use Rattle.bx_tree.specs.Paths.{Atoms, IsPath, path_cmp, path_text, same_path}
use Rattle.bx_tree.specs.Ranges.{AreFilePaths, comes_before}
use Rattle.bx_tree.proofs.FileSearch.{strict}
use Rattle.bx_tree.proofs.SortedRanges.{earlier_text, partitioned}
use Rattle.bx_tree_paths.specs.Searches.{RiseByText}

-- items whose paths rise
pub rise_by_text : {X : Type 0} (path : X → Atoms) (items : List X) → IsStrictlySortedBy path_cmp (map path items) → RiseByText path items
rise_by_text path items up text i j d low high before =
    let here = get_or-map path items j d (path d) high in
    let there = get_or-map path items i d (path d) (omega (arith, low, high)) in
    ap (comes_before text) (sym there)
    ∙ partitioned text (map path items) up i j (path d) low (omega (arith, high, length-map items path)) (ap (comes_before text) here ∙ before)

-- paths that rise
pub paths_rise : (paths : List Atoms) → IsStrictlySortedBy path_cmp paths → RiseByText (λ p. p) paths
paths_rise paths up text = partitioned text paths up

-- ## A sort

not_later : (a b : Atoms) → is_lt (path_cmp b a) ≡ false → slice_cmp nat_cmp (path_text a) (path_text b) ≡ Greater → ⊥
not_later a b h e =
    let later : path_cmp a b ≡ Greater = ap (λ o. ordering_then o (slice_cmp (slice_cmp nat_cmp) a b)) e in
    false≢true (sym h ∙ ap is_lt (path_cmp_total.antisymm b a ∙ ap ordering_reverse later))

-- what is sorted by path rises, also where several items have one path
pub rise_sorted_by : {X : Type 0} (path : X → Atoms) (items : List X) → IsSortedBy (λ (a b : X). is_lt (path_cmp (path a) (path b))) items
    → RiseByText path items
rise_sorted_by {X = X} path items sorted text i j d low high before = back (j - i) i j d (omega (arith, low)) high before
  where
    back : (n i j : ℕ) (d : X) → j ≡ i + n → j < length items → comes_before text (path (get_or items j d)) ≡ true
        → comes_before text (path (get_or items i d)) ≡ true
    back zero i j d e high before =
        let same : j ≡ i = omega (arith, e) in
        subst (λ k. comes_before text (path (get_or items k d)) ≡ true) same before
    back (suc n) i j d e high before =
        let here = path (get_or items i d) in
        let next = path (get_or items (i + 1) d) in
        earlier_text text (path_text here) (path_text next) (not_later here next (sorted i d (omega arith) (omega (arith, e, high))))
        (back n (i + 1) j d (omega (arith, e)) high before)

adjacent : (ys : List Atoms) → IsDistinct same_path ys → IsSorted path_cmp ys
    → (k : ℕ) → k + 1 < length ys → path_cmp (get_or ys k []) (get_or ys (k + 1) []) ≡ Less
adjacent ys apart sorted k l =
    strict (get_or ys k []) (get_or ys (k + 1) []) (path_cmp (get_or ys k []) (get_or ys (k + 1) [])) refl
    (sorted k [] (omega arith) l) (apart_from_distinct same_path ys k (k + 1) [] apart (omega arith) l)

-- distinct paths rise where they are sorted
pub rise_sorted : (xs ys : List Atoms) → IsDistinct same_path xs → IsPermutation xs ys → IsSorted path_cmp ys → IsStrictlySortedBy path_cmp ys
rise_sorted xs ys apart moved sorted =
    sorted_from_all_adjacent path_cmp_total ys [] (adjacent ys (IsDistinct-IsPermutation same_path same_path_equiv.symm xs ys moved apart) sorted)

pub file_paths : (xs ys : List Atoms) → All (λ p. p ≢ []) xs → IsPermutation xs ys → AllByRecursion IsPath ys → IsStrictlySortedBy path_cmp ys → AreFilePaths ys
file_paths xs ys some moved are rising = record {
  are_paths = are;
  no_root = recursion_from_All (λ p. p ≢ []) ys (All-permutation (λ p. p ≢ []) xs ys moved some);
  rising = rising;
}

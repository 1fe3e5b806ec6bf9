-- Lists that rise by path: what a sort leaves, and where a binary search finds a path.
use Rattle.std.proofs.Common.{inl, inr, ◌≡◌, ◌≢◌, ℕ, ◌<◌, ◌+◌, List, [], ◌∷◌, length, get_or, map, refl, ap, sym, ◌∙◌, subst, arith, Ok, Err, Result}
use Rattle.std.specs.declared.cmp.Ordering.{Ordering}
use Rattle.std.specs.declared.cmp.Ordering.TheVariants.{Less, Equal, Greater}
use Rattle.std.specs.List.{All, HoldsAt, IsDistinct}
use Rattle.std.specs.List.Sorted.{IsPermutation, IsSortedBy, IsStrictlySortedBy, IsBinarySearchResult, IsSearchInRange}
use Rattle.std.specs.Result.{MatchResult}
use Rattle.std.specs.Ordering.{is_lt, ordering_reverse}
use Rattle.std.proofs.lemmas.Bool.{cases_lt}
use Rattle.std.proofs.lemmas.Cmp.{tied_itself}
use Rattle.std.proofs.lemmas.List.{length-map, get_or-map}
use Rattle.std.proofs.lemmas.List.Sorted.{searchable_from_sorted, IsPermutation-map}
use Rattle.std.proofs.lemmas.Map.Keys.{Less-from_sorted, apart_from_distinct, sorted_from_all_adjacent, IsDistinct-IsPermutation}
use Rattle.bx_tree.specs.Orders.{equal_paths, path_cmp_total, same_path_equiv}
use Rattle.bx_tree.specs.Paths.{Atoms, path_cmp, same_path}
use Rattle.bx_tree.proofs.FileSearch.{strict}

-- ## A search

-- what rises by path does not fall
sorted_keys : {X : Type 0} (key : X → Atoms) (xs : List X) → IsStrictlySortedBy path_cmp (map key xs)
    → IsSortedBy (λ (a b : X). is_lt (path_cmp (key a) (key b))) xs
sorted_keys key xs up k d low l =
    let in' : k + 1 < length (map key xs) = omega (arith, l, length-map xs key) in
    let rises = Less-from_sorted path_cmp (map key xs) k (k + 1) [] up (omega arith) in' in
    let less = rw (get_or-map key xs k d [] (omega arith), get_or-map key xs (k + 1) d [] l) at rises in
    ap is_lt (path_cmp_total.antisymm (key (get_or xs (k + 1) d)) (key (get_or xs k d)) ∙ ap ordering_reverse less)

pub not_level : (p q : Atoms) (o : Ordering) → (o ≡ Equal → ⊥) → path_cmp p q ≡ o → p ≡ q → ⊥
not_level p q o n h e = n (sym h ∙ subst (λ r. path_cmp p r ≡ Equal) e (tied_itself path_cmp_total p))

pub place_from_search : {X : Type 0} (key : X → Atoms) (xs : List X) (p : Atoms) (r : Result ℕ ℕ) → IsStrictlySortedBy path_cmp (map key xs)
    → IsSearchInRange r (length xs) → IsBinarySearchResult (λ (x : X). path_cmp (key x) p) xs r
    → MatchResult r (λ i. (i < length xs) × HoldsAt (λ (x : X). key x ≡ p) xs i) (λ i. All (λ (x : X). key x ≢ p) xs)
place_from_search key xs p (Ok i) up l h = (l, λ d. equal_paths (key (get_or xs i d)) p (h d))
place_from_search key xs p (Err i) up l h =
    let parts = h (searchable_from_sorted path_cmp_total key xs p (sorted_keys key xs up)) in
    λ k d in'. elim (cases_lt k i) [
      | inl low ↦ not_level (key (get_or xs k d)) p Less (λ e. cc) (parts.0 k d (omega arith) low)
      | inr high ↦ not_level (key (get_or xs k d)) p Greater (λ e. cc) (parts.1 k d high in')
    ]

-- ## A sort

adjacent : {X : Type 0} (key : X → Atoms) (ys : List X) → IsDistinct same_path (map key ys)
    → IsSortedBy (λ (a b : X). is_lt (path_cmp (key a) (key b))) ys
    → (k : ℕ) → k + 1 < length (map key ys) → path_cmp (get_or (map key ys) k []) (get_or (map key ys) (k + 1) []) ≡ Less
adjacent key [] apart sorted k l = absurd (omega (arith, l))
adjacent {X = X} key (y ∷ ys) apart sorted k l =
    let all : List X = y ∷ ys in
    let in' : k + 1 < length all = omega (arith, l, length-map all key) in
    let here = get_or-map key all k y [] (omega arith) in
    let next = get_or-map key all (k + 1) y [] in' in
    let other = rw (here, next) at (apart_from_distinct same_path (map key all) k (k + 1) [] apart (omega arith) l) in
    rw (here, next) (strict (key (get_or all k y)) (key (get_or all (k + 1) y)) (path_cmp (key (get_or all k y)) (key (get_or all (k + 1) y))) refl
    (sorted k y (omega arith) in') other)

-- what is sorted by path rises where no two have one path
pub rising_from_sorted : {X : Type 0} (key : X → Atoms) (xs ys : List X) → IsDistinct same_path (map key xs) → IsPermutation xs ys
    → IsSortedBy (λ (a b : X). is_lt (path_cmp (key a) (key b))) ys → IsStrictlySortedBy path_cmp (map key ys)
rising_from_sorted key xs ys apart moved sorted =
    let along = IsPermutation-map key xs ys moved in
    let apart' = IsDistinct-IsPermutation same_path same_path_equiv.symm (map key xs) (map key ys) along apart in
    sorted_from_all_adjacent path_cmp_total (map key ys) [] (adjacent key ys apart' sorted)

-- ## No paths

pub no_files_rise : IsStrictlySortedBy path_cmp []
unfolding IsStrictlySortedBy
no_files_rise = tt

-- Where a binary search finds an output directory by its path.
use Rattle.std.proofs.Common.{◌≡◌, ◌↔◌, ℕ, ◌<◌, ◌+◌, false, IsTrue, List, length, get_or, map, Result, Ok, Err, refl, ap, sym, ◌∙◌, inl, inr, arith}
use Rattle.std.specs.List.{Contains, list_any}
use Rattle.std.specs.List.Sorted.{IsBinarySearchResult, IsSearchInRange, IsSortedBy, IsStrictlySortedBy}
use Rattle.std.specs.Ordering.{is_lt, nat_cmp, ordering_reverse, ordering_then}
use Rattle.std.specs.Result.{is_ok}
use Rattle.std.specs.declared.cmp.Ordering.{Ordering}
use Rattle.std.specs.declared.cmp.Ordering.TheVariants.{Less, Equal, Greater}
use Rattle.std.proofs.lemmas.Bool.{cases_lt, false≢true}
use Rattle.std.proofs.lemmas.List.{get_or-map, length-map}
use Rattle.std.proofs.lemmas.List.Sorted.{searchable_from_sorted}
use Rattle.std.proofs.lemmas.Map.Keys.{Less-from_sorted}
use Rattle.bx_tree.specs.Orders.{equal_paths, path_cmp_total}
use Rattle.bx_tree.specs.Paths.{Atoms, path_cmp, same_path}
use Rattle.pip_model_types.specs.Outputs.{outdir_cmp, sharing_rank}
use Rattle.pip_model_types.specs.declared.outputs.OutDir.{OutDir}
use Rattle.pip_model_types.proofs.Placed.{not_level}
use Rattle.bx_tree.proofs.FoundByTest.{path_found}

abbrev dir_path : OutDir → Atoms
dir_path d = d.path

-- ## Directories that rise do not fall by path

greater_is_less : Greater ≡ Less → ⊥
greater_is_less e = cc

not_below : (p q : Atoms) (o later : Ordering) → path_cmp p q ≡ o → ordering_then o later ≡ Less → is_lt (path_cmp q p) ≡ false
not_below p q Less later e h = ap is_lt (path_cmp_total.antisymm q p ∙ ap ordering_reverse e)
not_below p q Equal later e h = ap is_lt (path_cmp_total.antisymm q p ∙ ap ordering_reverse e)
not_below p q Greater later e h = absurd (greater_is_less h)

sorted_paths : (ds : List OutDir) → IsStrictlySortedBy outdir_cmp ds
    → IsSortedBy (λ (a b : OutDir). is_lt (path_cmp a.path b.path)) ds
sorted_paths ds up k d low l =
    let a : OutDir = get_or ds k d in
    let b : OutDir = get_or ds (k + 1) d in
    not_below a.path b.path (path_cmp a.path b.path) (nat_cmp (sharing_rank a.shared) (sharing_rank b.shared)) refl
    (Less-from_sorted outdir_cmp ds k (k + 1) d up (omega arith) l)

-- ## The search

has_at : (ds : List OutDir) (p : Atoms) (i : ℕ) (d : OutDir) → i < length ds → dir_path (get_or ds i d) ≡ p
    → Contains (map dir_path ds) p
has_at ds p i d low same = (i, omega (arith, low, length-map ds dir_path), get_or-map dir_path ds i d p low ∙ same)

found : (ds : List OutDir) (p : Atoms) (r : Result ℕ ℕ) → IsStrictlySortedBy outdir_cmp ds → IsSearchInRange r (length ds)
    → IsBinarySearchResult (λ (d : OutDir). path_cmp d.path p) ds r → IsTrue (is_ok r) ↔ Contains (map dir_path ds) p
found ds p (Ok i) up l h =
    let other : OutDir = record { path = p; shared = false } in
    (λ e. has_at ds p i other l (equal_paths (dir_path (get_or ds i other)) p (h other)), λ k. refl)
found ds p (Err i) up l h = (λ e. absurd (false≢true e), λ k. absurd (none k))
  where
    none : Contains (map dir_path ds) p → ⊥
    none k =
        let other : OutDir = record { path = p; shared = false } in
        let low : k.0 < length ds = omega (arith, k.1, length-map ds dir_path) in
        let same : dir_path (get_or ds k.0 other) ≡ p = sym (get_or-map dir_path ds k.0 other p low) ∙ k.2 in
        let parts = h (searchable_from_sorted path_cmp_total dir_path ds p (sorted_paths ds up)) in
        elim (cases_lt k.0 i) [
          | inl before ↦ not_level (dir_path (get_or ds k.0 other)) p Less (λ e. cc) (parts.0 k.0 other (omega arith) before) same
          | inr after ↦ not_level (dir_path (get_or ds k.0 other)) p Greater (λ e. cc) (parts.1 k.0 other after low) same
        ]

pub found_by_path : (ds : List OutDir) (p : Atoms) (r : Result ℕ ℕ) → IsStrictlySortedBy outdir_cmp ds
    → IsSearchInRange r (length ds) → IsBinarySearchResult (λ (d : OutDir). path_cmp d.path p) ds r
    → is_ok r ≡ list_any (same_path p) (map dir_path ds)
found_by_path ds p r up l h = path_found p (map dir_path ds) (is_ok r) (found ds p r up l h)

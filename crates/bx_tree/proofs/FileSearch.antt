-- A binary search finds the file at a path, and sorting distinct, unnested files gives a tree.
use Rattle.std.proofs.Common.{inl, inr, ◌≡◌, ◌≢◌, ℕ, ◌<◌, ◌+◌, false, cond, List, [], ◌∷◌, length, get_or, map, refl, ap, sym, ◌∙◌, subst, arith, Some, None, Ok, Err, Result, zero, suc}
use Rattle.std.specs.Cmp.Lexicographic.{slice_cmp}
use Rattle.std.specs.declared.cmp.Ordering.{Ordering}
use Rattle.std.specs.declared.cmp.Ordering.TheVariants.{Less, Equal, Greater}
use Rattle.std.specs.List.{All, AllByRecursion, Contains, IsDistinct}
use Rattle.std.specs.List.Sorted.{IsPermutation, IsSortedBy, IsStrictlySortedBy, IsBinarySearchResult, IsSearchInRange}
use Rattle.std.specs.Option.{IfSome, IfNone}
use Rattle.std.specs.Result.{result_ok}
use Rattle.std.specs.Ordering.{nat_cmp, is_lt, is_eq, ordering_reverse}
use Rattle.std.proofs.lemmas.Bool.{cases_lt, cases_Bool, false≢true}
use Rattle.std.proofs.lemmas.Cmp.{nat_list_cmp_total, tied_itself}
use Rattle.std.proofs.lemmas.List.{length-map, get_or-map}
use Rattle.std.proofs.lemmas.List.Elements.{All-from_recursion, recursion_from_All, All-contains, All-map}
use Rattle.std.proofs.lemmas.List.Sorted.{searchable_from_sorted, IsPermutation-map, IsPermutation-sym, All-permutation, Contains-permutation}
use Rattle.std.proofs.lemmas.Map.Keys.{sorted_tail, Less-from_sorted, apart_from_distinct, sorted_from_all_adjacent, IsDistinct-IsPermutation}
use Rattle.bx_tree.specs.declared.tree_file.TreeFile.{TreeFile}
use Rattle.bx_tree.specs.Orders.{equal_texts, path_cmp_total, path_cmp_matches, same_path_decides, same_path_equiv}
use Rattle.bx_tree.specs.Paths.{Atoms, IsPath, path_cmp, path_text, same_path}
use Rattle.bx_tree.specs.Trees.{Files, IsTree, NoneNested, file_at, paths_of}
use Rattle.bx_tree.specs.Views.{IsPositionOf, file_of, files_of}
use Rattle.bx_tree.proofs.PathTexts.{path_cmp-is, same_from_text}

-- ## The files of a tree in memory

pub paths-files : (fs : List TreeFile) → paths_of (files_of fs) ≡ map (λ (f : TreeFile). f.path) fs
paths-files [] = refl
paths-files (f ∷ fs) = ap (λ ps. f.path ∷ ps) (paths-files fs)

pub path_at : (fs : List TreeFile) (i : ℕ) (d : TreeFile) (e : Atoms) → i < length fs → get_or (paths_of (files_of fs)) i e ≡ (get_or fs i d).path
path_at fs i d e l = ap (λ ps. get_or ps i e) (paths-files fs) ∙ get_or-map (λ (f : TreeFile). f.path) fs i d e l

pub length-paths : (fs : List TreeFile) → length (paths_of (files_of fs)) ≡ length fs
length-paths fs = ap length (paths-files fs) ∙ length-map fs (λ (f : TreeFile). f.path)

-- the path of each file in memory is one
pub all_are_paths : (fs : List TreeFile) → AllByRecursion IsPath (paths_of (files_of fs))
all_are_paths [] = tt
all_are_paths (f ∷ fs) = (f.is_path, all_are_paths fs)

-- ## A search

pub less_texts : (p q : Atoms) → IsPath p → IsPath q → path_cmp p q ≡ Less → slice_cmp nat_cmp (path_text p) (path_text q) ≡ Less
less_texts p q h k e = sym (path_cmp-is p q h k) ∙ e

-- the texts of the paths are in ascending order
sorted_texts : (fs : List TreeFile) → IsStrictlySortedBy path_cmp (paths_of (files_of fs))
    → IsSortedBy (λ (a b : TreeFile). is_lt (slice_cmp nat_cmp (path_text a.path) (path_text b.path))) fs
sorted_texts fs up k d low l =
    let a = get_or fs k d in
    let b = get_or fs (k + 1) d in
    let in' : k + 1 < length (paths_of (files_of fs)) = subst (λ n. k + 1 < n) (sym (length-paths fs)) l in
    let rises = Less-from_sorted path_cmp (paths_of (files_of fs)) k (k + 1) [] up (omega arith) in' in
    let less : path_cmp a.path b.path ≡ Less = rw (path_at fs k d [] (omega arith), path_at fs (k + 1) d [] l) at rises in
    ap is_lt (nat_list_cmp_total.antisymm (path_text b.path) (path_text a.path) ∙ ap ordering_reverse (less_texts a.path b.path a.is_path b.is_path less))

not_equal : (s t : List ℕ) (o : Ordering) → (o ≡ Equal → ⊥) → slice_cmp nat_cmp s t ≡ o → s ≡ t → ⊥
not_equal s t o n h e = n (sym h ∙ subst (λ u. slice_cmp nat_cmp s u ≡ Equal) e (tied_itself nat_list_cmp_total s))

-- a binary search by text is sound and complete
pub position_from_search : (fs : List TreeFile) (text : List ℕ) (r : Result ℕ ℕ) → IsTree (files_of fs) → IsSearchInRange r (length fs)
    → IsBinarySearchResult (λ (f : TreeFile). slice_cmp nat_cmp (path_text f.path) text) fs r
    → IfSome (result_ok r) (λ position. IsPositionOf text position fs) × IfNone (result_ok r) (All (λ (f : TreeFile). path_text f.path ≢ text) fs)
position_from_search fs text (Ok i) t l h = ((l, λ d. equal_texts (path_text (get_or fs i d).path) text (h d)), tt)
position_from_search fs text (Err i) t l h =
    let parts = h (searchable_from_sorted nat_list_cmp_total (λ (f : TreeFile). path_text f.path) fs text (sorted_texts fs t.rising)) in (
      tt,
      λ k d in'. elim (cases_lt k i) [
        | inl low ↦ not_equal (path_text (get_or fs k d).path) text Less (λ e. cc) (parts.0 k d (omega arith) low)
        | inr high ↦ not_equal (path_text (get_or fs k d).path) text Greater (λ e. cc) (parts.1 k d high in')
      ],
    )

-- ## The file at a path

pub file_at-found : (fs : Files) (p : Atoms) (i : ℕ) (d : Atoms × List ℕ) → IsStrictlySortedBy path_cmp (paths_of fs) → i < length fs
    → (get_or fs i d).0 ≡ p → file_at fs p ≡ Some (get_or fs i d).1
file_at-found [] p i d up l e = absurd (omega (arith, l))
file_at-found (f ∷ fs) p zero d up l e = ap (λ b. cond b (Some f.1) (file_at fs p)) ((same_path_decides f.0 p).1 e)
file_at-found (f ∷ fs) p (suc i) d up l e =
    let in' : i < length fs = omega (arith, l) in
    let in'' : suc i < length (paths_of (f ∷ fs)) = omega (arith, l, length-map fs (λ (g : Atoms × List ℕ). g.0)) in
    let rises = Less-from_sorted path_cmp (paths_of (f ∷ fs)) 0 (suc i) d.0 up (omega arith) in'' in
    let same = get_or-map (λ (g : Atoms × List ℕ). g.0) fs i d d.0 in' in
    let less : path_cmp f.0 p ≡ Less = subst (λ q. path_cmp f.0 q ≡ Less) (same ∙ e) rises in
    ap (λ b. cond b (Some f.1) (file_at fs p)) (path_cmp_matches f.0 p ∙ ap is_eq less)
    ∙ file_at-found fs p i d (sorted_tail path_cmp f.0 (paths_of fs) up) in' e

file_at-none : (fs : Files) (p : Atoms) → AllByRecursion (λ f. f.0 ≢ p) fs → file_at fs p ≡ None
file_at-none [] p h = refl
file_at-none (f ∷ fs) p h = elim (cases_Bool (same_path f.0 p)) [
  | inl e ↦ absurd (h.0 ((same_path_decides f.0 p).0 e))
  | inr e ↦ ap (λ b. cond b (Some f.1) (file_at fs p)) e ∙ file_at-none fs p h.1
]

-- the file at the position that a search found
pub file_found : (fs : List TreeFile) (p : Atoms) (i : ℕ) (x : TreeFile) → IsTree (files_of fs) → IsPath p → IsPositionOf (path_text p) i fs
    → x ≡ get_or fs i x → (file_at (files_of fs) p ≡ Some x.bytes.items) × Contains (paths_of (files_of fs)) p
file_found fs p i x t h position is =
    let file = get_or fs i x in
    let e : file.path ≡ p = same_from_text file.path p file.is_path h (position.1 x) in
    let seen : get_or (files_of fs) i (file_of x) ≡ file_of file = get_or-map file_of fs i x (file_of x) position.0 in (
      file_at-found (files_of fs) p i (file_of x) t.rising (subst (λ n. i < n) (sym (length-map fs file_of)) position.0) (ap (λ f. f.0) seen ∙ e)
          ∙ ap (λ f. Some f.1) seen ∙ ap (λ (f : TreeFile). Some f.bytes.items) (sym is),
      (i, subst (λ n. i < n) (sym (length-paths fs)) position.0, path_at fs i x p position.0 ∙ e),
    )

none_here : (fs : List TreeFile) (p : Atoms) → AllByRecursion (λ (f : TreeFile). path_text f.path ≢ path_text p) fs → AllByRecursion (λ f. f.0 ≢ p) (files_of fs)
none_here [] p h = tt
none_here (f ∷ fs) p h = (λ e. h.0 (ap path_text e), none_here fs p h.1)

-- a search that found nothing shows that there is no file at the path
pub no_file : (fs : List TreeFile) (p : Atoms) → All (λ (f : TreeFile). path_text f.path ≢ path_text p) fs
    → (file_at (files_of fs) p ≡ None) × (Contains (paths_of (files_of fs)) p → ⊥)
no_file fs p h =
    let other = none_here fs p (recursion_from_All (λ (f : TreeFile). path_text f.path ≢ path_text p) fs h) in (
      file_at-none (files_of fs) p other,
      λ k. All-contains (λ q. q ≢ p) (paths_of (files_of fs)) p
          (All-map (λ q. q ≢ p) (λ f. f.0) (files_of fs) (All-from_recursion (λ f. f.0 ≢ p) (files_of fs) other)) k refl,
    )

-- ## A sort

pub strict : (a b : Atoms) (o : Ordering) → path_cmp a b ≡ o → is_lt (path_cmp b a) ≡ false → same_path a b ≡ false → o ≡ Less
strict a b Less e h k = refl
strict a b Equal e h k = absurd (false≢true (sym k ∙ path_cmp_matches a b ∙ ap is_eq e))
strict a b Greater e h k = absurd (false≢true (sym h ∙ ap is_lt (path_cmp_total.antisymm b a ∙ ap ordering_reverse e)))

adjacent : (gs : List TreeFile) → IsDistinct same_path (paths_of (files_of gs)) → IsSortedBy (λ (a b : TreeFile). is_lt (path_cmp a.path b.path)) gs
    → (k : ℕ) → k + 1 < length (paths_of (files_of gs)) → path_cmp (get_or (paths_of (files_of gs)) k []) (get_or (paths_of (files_of gs)) (k + 1) []) ≡ Less
adjacent [] apart sorted k l = absurd (omega (arith, l))
adjacent (g ∷ gs) apart sorted k l =
    let fs : List TreeFile = g ∷ gs in
    let in' : k + 1 < length fs = subst (λ n. k + 1 < n) (length-paths fs) l in
    let here = path_at fs k g [] (omega arith) in
    let next = path_at fs (k + 1) g [] in' in
    let other = rw (here, next) at (apart_from_distinct same_path (paths_of (files_of fs)) k (k + 1) [] apart (omega arith) l) in
    rw (here, next) (strict (get_or fs k g).path (get_or fs (k + 1) g).path (path_cmp (get_or fs k g).path (get_or fs (k + 1) g).path) refl
    (sorted k g (omega arith) in') other)

pub sorted_tree : (fs gs : List TreeFile) → All (λ (f : TreeFile). f.path ≢ []) fs → IsDistinct same_path (paths_of (files_of fs)) → NoneNested (paths_of (files_of fs))
    → IsPermutation fs gs → IsSortedBy (λ (a b : TreeFile). is_lt (path_cmp a.path b.path)) gs → IsTree (files_of gs)
sorted_tree fs gs roots apart nested moved sorted =
    let along = IsPermutation-map (λ (f : Atoms × List ℕ). f.0) (files_of fs) (files_of gs) (IsPermutation-map file_of fs gs moved) in
    let back = IsPermutation-sym (paths_of (files_of fs)) (paths_of (files_of gs)) along in
    let apart' = IsDistinct-IsPermutation same_path same_path_equiv.symm (paths_of (files_of fs)) (paths_of (files_of gs)) along apart in
    record {
      paths = all_are_paths gs;
      no_root = recursion_from_All (λ path. path ≢ []) (paths_of (files_of gs))
          (subst (All (λ path. path ≢ [])) (sym (paths-files gs))
          (All-map (λ path. path ≢ []) (λ (f : TreeFile). f.path) gs (All-permutation (λ (f : TreeFile). f.path ≢ []) fs gs moved roots)));
      rising = sorted_from_all_adjacent path_cmp_total (paths_of (files_of gs)) [] (adjacent gs apart' sorted);
      unnested = λ dir path d p. nested dir path
          (Contains-permutation (paths_of (files_of gs)) (paths_of (files_of fs)) dir back d)
          (Contains-permutation (paths_of (files_of gs)) (paths_of (files_of fs)) path back p);
    }

-- The check that files are a tree is sound and complete, and sorting finds a tree if some order is one.
use Rattle.std.proofs.Common.{◌≡◌, ◌≢◌, ℕ, ◌+◌, ◌<◌, List, [], ◌∷◌, ◌++◌, length, get_or, take, drop, ap, sym, ◌∙◌, subst, codes, lit≤}
use Rattle.std.specs.declared.cmp.Ordering.{Ordering}
use Rattle.std.specs.declared.cmp.Ordering.TheVariants.{Less}
use Rattle.std.specs.List.{AllByRecursion, IsDistinct}
use Rattle.std.specs.List.Sorted.{IsPermutation, IsSortedBy, IsStrictlySortedBy}
use Rattle.std.specs.Ordering.{eq_by_cmp, is_lt}
use Rattle.std.proofs.lemmas.List.{map-append, map_push, take-append-drop, take_more}
use Rattle.std.proofs.lemmas.List.Elements.{All-from_recursion, recursion_from_All, Contains-append_left}
use Rattle.std.proofs.lemmas.List.Sorted.{IsPermutation-map, IsPermutation-sym, All-permutation, Contains-permutation}
use Rattle.std.proofs.lemmas.Map.Keys.{IsDistinct-from_sorted, IsDistinct-IsPermutation}
use Rattle.bx_tree.specs.declared.tree_file.TreeFile.{TreeFile}
use Rattle.bx_tree.specs.Orders.{path_cmp_matches, same_path_equiv}
use Rattle.bx_tree.specs.Paths.{Atoms, IsPath, path_cmp, path_text, same_path}
use Rattle.bx_tree.specs.Trees.{Files, IsTree, NoneNested, paths_of}
use Rattle.bx_tree.specs.Views.{file_of, files_of}
use Rattle.bx_tree.proofs.FileSearch.{sorted_tree}
use Rattle.bx_tree.specs.Bundle.{ComesAfterAll, HasNoAncestor}
use Rattle.bx_tree.proofs.PathTexts.{same_from_text}
use Rattle.bx_tree.proofs.TreeGrowth.{grow_tree}
use Rattle.bx_tree.proofs.OneReading.{follows}
use Rattle.bx_tree.proofs.Lists.{all_front, distinct_by}

-- ## A prefix of a tree

prefix_rises : {X : Type 0} (R : X → X → Ordering) (xs ys : List X) → IsStrictlySortedBy R (xs ++ ys) → IsStrictlySortedBy R xs
unfolding IsStrictlySortedBy
prefix_rises R [] ys h = tt
prefix_rises R (x ∷ xs) ys h = (all_front (λ y. R x y ≡ Less) xs ys h.0, prefix_rises R xs ys h.1)

-- a prefix of a tree is a tree
pub prefix_tree : (fs gs : Files) → IsTree (fs ++ gs) → IsTree fs
prefix_tree fs gs t =
    let e = map-append (λ (f : Atoms × List ℕ). f.0) fs gs in
    let nested = subst NoneNested e t.unnested in
    record {
      paths = all_front IsPath (paths_of fs) (paths_of gs) (subst (AllByRecursion IsPath) e t.paths);
      no_root = all_front (λ p. p ≢ []) (paths_of fs) (paths_of gs) (subst (AllByRecursion (λ p. p ≢ [])) e t.no_root);
      rising = prefix_rises path_cmp (paths_of fs) (paths_of gs) (subst (IsStrictlySortedBy path_cmp) e t.rising);
      unnested = λ dir path d p. nested dir path
          (Contains-append_left (paths_of fs) (paths_of gs) dir d) (Contains-append_left (paths_of fs) (paths_of gs) path p);
    }

-- a prefix with one more file
pub one_more : (fs : List TreeFile) (k : ℕ) (d : TreeFile) → k < length fs
    → files_of (take (k + 1) fs) ≡ files_of (take k fs) ++ file_of (get_or fs k d) ∷ []
one_more fs k d l = ap files_of (take_more fs k d l) ∙ map_push file_of (take k fs) (get_or fs k d)

-- a prefix of the files of a tree is a tree
pub prefix_files : (fs : List TreeFile) (k : ℕ) → IsTree (files_of fs) → IsTree (files_of (take k fs))
prefix_files fs k t =
    prefix_tree (files_of (take k fs)) (files_of (drop k fs))
    (subst IsTree (ap files_of (sym (take-append-drop k fs)) ∙ map-append file_of (take k fs) (drop k fs)) t)

-- ## One more file

-- a file at the root is in no tree
pub root_never : (before : Files) (f : Atoms × List ℕ) (text : List ℕ) → text ≡ path_text f.0 → text ≡ codes "." → IsTree (before ++ f ∷ []) → ⊥
root_never before f text e dot t =
    let h = follows before f [] t in
    h.not_root (same_from_text f.0 [] h.is_path (record { atoms = tt; short = lit≤ tt }) (sym e ∙ dot))

-- a file that comes after the others, and has none of them as a directory, makes a larger tree
pub may_follow : (before : Files) (f : Atoms × List ℕ) (text : List ℕ) → IsTree before → IsPath f.0 → text ≡ path_text f.0 → (text ≡ codes "." → ⊥)
    → ComesAfterAll before text → HasNoAncestor before text → IsTree (before ++ f ∷ [])
may_follow before f text t is_path e not_dot above apart =
    grow_tree before f text t (record { is_path = is_path; not_root = λ r. not_dot (e ∙ ap path_text r); text_is = e }) above apart

pub after_others : (before : Files) (f : Atoms × List ℕ) (text : List ℕ) → text ≡ path_text f.0 → IsTree (before ++ f ∷ []) → ComesAfterAll before text
after_others before f text e t = subst (ComesAfterAll before) (sym e) (follows before f [] t).after

pub no_ancestor_among : (before : Files) (f : Atoms × List ℕ) (text : List ℕ) → text ≡ path_text f.0 → IsTree (before ++ f ∷ []) → HasNoAncestor before text
no_ancestor_among before f text e t = subst (HasNoAncestor before) (sym e) (follows before f [] t).no_ancestor

-- ## A tree in some order

-- the paths of a tree are distinct
pub distinct_paths : (files : Files) → IsTree files → IsDistinct same_path (paths_of files)
distinct_paths files t =
    distinct_by same_path (eq_by_cmp path_cmp) path_cmp_matches (paths_of files) (IsDistinct-from_sorted path_cmp (paths_of files) t.rising)

no_root_by_recursion : (fs : List TreeFile) → AllByRecursion (λ p. p ≢ []) (paths_of (files_of fs)) → AllByRecursion (λ (f : TreeFile). f.path ≢ []) fs
no_root_by_recursion [] h = tt
no_root_by_recursion (f ∷ fs) h = (h.0, no_root_by_recursion fs h.1)

-- files that are a tree in some order are one where they are sorted
pub tree_from_some : (fs gs : List TreeFile) (tree : Files) → IsPermutation fs gs → IsSortedBy (λ (a b : TreeFile). is_lt (path_cmp a.path b.path)) gs
    → IsPermutation (files_of fs) tree → IsTree tree → IsTree (files_of gs)
tree_from_some fs gs tree moved sorted some t =
    let along = IsPermutation-map (λ (f : Atoms × List ℕ). f.0) (files_of fs) tree some in
    let back = IsPermutation-sym (paths_of (files_of fs)) (paths_of tree) along in
    let roots = All-permutation (λ (p : Atoms). p ≢ []) (paths_of tree) (paths_of (files_of fs)) back
    (All-from_recursion (λ p. p ≢ []) (paths_of tree) t.no_root) in
    sorted_tree fs gs
    (All-from_recursion (λ (f : TreeFile). f.path ≢ []) fs
    (no_root_by_recursion fs (recursion_from_All (λ p. p ≢ []) (paths_of (files_of fs)) roots)))
    (IsDistinct-IsPermutation same_path same_path_equiv.symm (paths_of tree) (paths_of (files_of fs)) back (distinct_paths tree t))
    (λ dir path d p. t.unnested dir path
    (Contains-permutation (paths_of (files_of fs)) (paths_of tree) dir along d)
    (Contains-permutation (paths_of (files_of fs)) (paths_of tree) path along p))
    moved sorted

-- The source files below a directory are next to one another in a tree.
use Rattle.std.proofs.Common.{◌≡◌, ◌≢◌, ℕ, ◌<◌, zero, suc, true, false, cond, List, [], ◌∷◌, length, filter, get_or, drop, refl, ap, sym, ◌∙◌, subst, inl, inr, arith}
use Rattle.std.specs.List.{AllByRecursion, AllWithin}
use Rattle.std.specs.List.Sorted.{IsPartitionPoint, IsPartitionedBy, IsStrictlySortedBy}
use Rattle.std.proofs.lemmas.Bool.{cases_lt}
use Rattle.std.proofs.lemmas.Map.Keys.{Less-from_sorted}
use Rattle.bx_tree.specs.Below.{is_below}
use Rattle.bx_tree.specs.Paths.{Atoms, IsPath, path_cmp}
use Rattle.bx_tree.specs.Ranges.{comes_before, first_below, prefix_below}
use Rattle.bx_tree.specs.Trees.{IsTree, paths_of}
use Rattle.bx_tree.specs.Views.{files_of}
use Rattle.bx_tree.specs.declared.tree_file.TreeFile.{TreeFile}
use Rattle.bx_tree.proofs.FileSearch.{length-paths, path_at}
use Rattle.bx_tree.proofs.SortedRanges.{before_not_below, earlier_before, first_are_all}
use Rattle.dscript_sdk_calls.specs.Sources.{files_below}

all_after : (P : Atoms → Type 0) (files : List TreeFile) → AllWithin (λ (f : TreeFile). P f.path) files 0 (length files)
    → AllByRecursion P (paths_of (files_of files))
all_after P [] h = tt
all_after P (f ∷ fs) h =
    (h 0 f (omega arith) (omega arith), all_after P fs (λ i d low high. h (suc i) d (omega arith) (omega (arith, high))))

-- the files from the first that does not come before the prefix have all that lie below the directory
first_from : (dir : Atoms) (files : List TreeFile) (start : ℕ) → IsPath dir → AllByRecursion IsPath (paths_of (files_of files))
    → AllByRecursion (λ path. path ≢ []) (paths_of (files_of files)) → IsStrictlySortedBy path_cmp (paths_of (files_of files))
    → AllWithin (λ (f : TreeFile). comes_before (prefix_below dir) f.path ≡ true) files 0 start
    → AllWithin (λ (f : TreeFile). comes_before (prefix_below dir) f.path ≡ false) files start (length files)
    → first_below dir (paths_of (files_of (drop start files))) ≡ filter (λ q. is_below q dir) (paths_of (files_of files))
unfolding IsStrictlySortedBy
first_from dir [] zero k are some up before after = refl
first_from dir [] (suc n) k are some up before after = refl
first_from dir (f ∷ fs) zero k are some up before after =
    first_are_all dir (paths_of (files_of (f ∷ fs))) k are some up
    (all_after (λ path. comes_before (prefix_below dir) path ≡ false) (f ∷ fs) after)
first_from dir (f ∷ fs) (suc n) k are some up before after =
    first_from dir fs n k are.1 some.1 up.1 (λ i d low high. before (suc i) d (omega arith) (omega (arith, high)))
    (λ i d low high. after (suc i) d (omega (arith, low)) (omega (arith, high)))
    ∙ sym (ap (λ b. cond b (f.path ∷ filter (λ q. is_below q dir) (paths_of (files_of fs))) (filter (λ q. is_below q dir) (paths_of (files_of fs))))
    (before_not_below dir f.path (before 0 f (omega arith) (omega arith))))

pub all_below : (dir : Atoms) (files : List TreeFile) (start : ℕ) → IsPath dir → IsTree (files_of files)
    → IsPartitionPoint (λ (f : TreeFile). comes_before (prefix_below dir) f.path ≡ true) (λ (f : TreeFile). comes_before (prefix_below dir) f.path ≡ false) files start
    → first_below dir (paths_of (files_of (drop start files))) ≡ files_below (files_of files) dir
unfolding files_below
all_below dir files start k tree point =
    first_from dir files start k tree.paths tree.no_root tree.rising point.0 point.1

pub partitioned : (prefix : List ℕ) (files : List TreeFile) → IsTree (files_of files)
    → IsPartitionedBy (λ (f : TreeFile). comes_before prefix f.path) files
partitioned prefix files tree i j d low high before = elim (cases_lt i j) [
  | inl less ↦
      let within : j < length (paths_of (files_of files)) = omega (arith, high, length-paths files) in
      earlier_before prefix (get_or files i d).path (get_or files j d).path
      (rw (path_at files i d [] (omega (arith, less, high)), path_at files j d [] high) at
      (Less-from_sorted path_cmp (paths_of (files_of files)) i j [] tree.rising less within))
      before
  | inr same ↦
      let level : i ≡ j = omega (arith, low, same) in
      subst (λ k. comes_before prefix (get_or files k d).path ≡ true) (sym level) before
]

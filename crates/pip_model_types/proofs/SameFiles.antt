-- Files that rise by path are one list, however they were put in order.
use Rattle.std.proofs.Common.{◌≡◌, ℕ, List, Result, Ok, Err, IfOk}
use Rattle.std.specs.List.{IsDistinct}
use Rattle.std.specs.List.Sorted.{IsPermutation}
use Rattle.bx_tree.specs.Paths.{Atoms, same_path}
use Rattle.bx_tree.specs.Trees.{Files, paths_of}
use Rattle.bx_tree.specs.Orders.{path_cmp_total}
use Rattle.bx_tree.proofs.InOrder.{moved_same, rising_distinct}
use Rattle.pip_model_types.specs.Made.{RisingFiles}

pub same_rising : (xs ys : Files) → RisingFiles xs → RisingFiles ys → IsPermutation xs ys → ys ≡ xs
same_rising xs ys s t moved = moved_same path_cmp_total (λ (f : Atoms × List ℕ). f.0) xs ys moved s t

pub one_made : {E : Type 0} (r : Result Files E) (files : Files) → RisingFiles files → IfOk r (IsPermutation files) → IfOk r RisingFiles → IfOk r (λ made. made ≡ files)
one_made (Ok made) files s moved t = same_rising files made s t moved
one_made (Err e) files s moved t = tt

-- files that rise have paths of their own
pub distinct_paths : (files : Files) → RisingFiles files → IsDistinct same_path (paths_of files)
distinct_paths files h = rising_distinct (paths_of files) h

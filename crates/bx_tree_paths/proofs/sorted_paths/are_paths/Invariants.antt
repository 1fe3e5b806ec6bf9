use Rattle.std.proofs.Common.{take}
use Rattle.std.specs.List.{AllByRecursion}
use Rattle.bx_tree.specs.Paths.{IsPath}
use Rattle.bx_tree_paths.proofs.sorted_paths.are_paths.Given as goal

abbrev pub invariant-paths : goal.invariant-paths
invariant-paths l = AllByRecursion IsPath (take l.path-index l.paths)

use Rattle.std.proofs.Common.{subst}
use Rattle.std.specs.List.{AllByRecursion}
use Rattle.bx_tree.specs.Paths.{IsPath}
use Rattle.bx_tree_paths.proofs.Rising.{file_paths}
use Rattle.bx_tree_paths.proofs.sorted_paths.SortedPaths.of.Goals as goal

pub invariant_of-result : goal.invariant_of-result
invariant_of-result c =
    file_paths c.args.paths.items c.in_order-paths.result.items c.requires.no_root c.in_order-paths.ensures.same
    (subst (AllByRecursion IsPath) c.as_slice.ensures.value c.are_paths.ensures) c.in_order-paths.ensures.rising

pub returns-clause-sorted : goal.returns-clause-sorted
returns-clause-sorted c =
    file_paths c.args.paths.items c.in_order-paths.result.items c.requires.no_root c.in_order-paths.ensures.same
    (subst (AllByRecursion IsPath) c.as_slice.ensures.value c.are_paths.ensures) c.in_order-paths.ensures.rising

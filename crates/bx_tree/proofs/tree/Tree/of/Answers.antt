use Rattle.std.proofs.lemmas.List.Sorted.{IsPermutation-map}
use Rattle.bx_tree.specs.Views.{file_of}
use Rattle.bx_tree.proofs.FileSearch.{sorted_tree}
use Rattle.bx_tree.proofs.tree.Tree.of.Goals as goal

pub invariant_of-result : goal.invariant_of-result
invariant_of-result c =
    sorted_tree c.args.files.items c.by_path.result.items c.requires.no_root c.requires.distinct c.requires.unnested c.by_path.ensures.same c.by_path.ensures.sorted

pub returns-clause-same : goal.returns-clause-same
returns-clause-same c = IsPermutation-map file_of _ _ c.by_path.ensures.same

pub returns-clause-tree : goal.returns-clause-tree
returns-clause-tree c =
    sorted_tree c.args.files.items c.by_path.result.items c.requires.no_root c.requires.distinct c.requires.unnested c.by_path.ensures.same c.by_path.ensures.sorted

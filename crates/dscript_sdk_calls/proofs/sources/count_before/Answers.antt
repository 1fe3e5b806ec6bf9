use Rattle.std.proofs.Common.{rules}
use Rattle.std.proofs.lemmas.List.Sorted.{IsPartitionPoint-from_clause}
use Rattle.bx_tree.specs.declared.tree_file.TreeFile.{TreeFile}
use Rattle.dscript_sdk_calls.proofs.Together.{partitioned}
use Rattle.dscript_sdk_calls.proofs.sources.count_before.Goals as goal
use Rattle.bx_tree.specs.Ranges.{comes_before}

pub returns-clause-before : goal.returns-clause-before
returns-clause-before c =
    IsPartitionPoint-from_clause (λ (f : TreeFile). comes_before c.args.prefix.now f.path) _ _ c.partition_point.ensures.partitioned
    (partitioned c.args.prefix.now c.args.files.now c.requires) (λ a r q k. search rules)

use Rattle.std.proofs.Common.{length, ap, ◌∙◌}
use Rattle.std.proofs.lemmas.List.Sorted.{length_permutation}
use Rattle.bx_tree.proofs.Lists.{none_left}
use Rattle.dscript_sdk_execute.proofs.variables.no_variables.Goals as goal

pub returns : goal.returns
returns c =
    none_left c.of.result (length_permutation c.new.result.items c.of.result c.of.ensures.kept ∙ ap length c.new.ensures.items)

use Rattle.std.proofs.Common.{◌∙◌}
use Rattle.bx_tree.specs.Orders.{path_cmp_total}
use Rattle.pip_view_inputs.proofs.InOrder.{shared_same}
use Rattle.pip_view_inputs.proofs.sharing.share_outputs.Goals as goal

pub returns : goal.returns
returns c =
    shared_same path_cmp_total c.args.outs.now c.in_ok-shared.shared.items c.of.result c.paths-list.ensures.rising (c.in_ok-shared.ensures ∙ c.paths-list.ensures.paths) c.of.ensures

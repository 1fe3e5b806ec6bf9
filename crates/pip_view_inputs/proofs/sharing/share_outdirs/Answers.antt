use Rattle.std.proofs.Common.{◌∙◌}
use Rattle.pip_model_types.specs.Orders.{outdir_cmp_total}
use Rattle.pip_view_inputs.proofs.InOrder.{shared_same}
use Rattle.pip_view_inputs.proofs.sharing.share_outdirs.Goals as goal

pub returns : goal.returns
returns c =
    shared_same outdir_cmp_total c.args.dirs.now c.in_ok-shared.shared.items c.of.result c.dirs-list.ensures.rising (c.in_ok-shared.ensures ∙ c.dirs-list.ensures.dirs) c.of.ensures

use Rattle.std.proofs.Common.{◌≤◌, List, length, subst}
use Rattle.pip_model_types.specs.declared.pip.Pip.{Pip}
use Rattle.pip_model.specs.declared.plan.TheConstants.{MAX_PIPS}
use Rattle.graph_check.proofs.Answering.{few}
use Rattle.graph_check.proofs.checking.check.Goals as goal

pub build-requires : goal.build-requires
build-requires c =
    subst (λ (ps : List Pip). length ps ≤ MAX_PIPS) c.pips-2.ensures.pips
    (few c.pips-2.result.now c.args.sources.now c.in_ok-keep_rules.ensures)

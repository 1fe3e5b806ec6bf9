use Rattle.std.proofs.Common.{◌∙◌, Some, ap}
use Rattle.dscript_types_scenes.proofs.Answering.{not_reduce}
use Rattle.dscript_types_scenes.proofs.given.given_to.Goals as goal

pub returns-in_ok-item_and_number-in_default : goal.returns-in_ok-item_and_number-in_default
returns-in_ok-item_and_number-in_default c =
    ap Some c.in_ok-item_and_number-in_default.ensures
    ∙ not_reduce c.args.member c.args.item.now c.args.further.now c.in_default.not-Reduce

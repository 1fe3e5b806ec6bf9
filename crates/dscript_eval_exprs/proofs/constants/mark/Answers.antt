use Rattle.std.proofs.Common.{ap}
use Rattle.dscript_eval_meaning.specs.Constants.{Table}
use Rattle.dscript_eval_frames.specs.Views.{seen}
use Rattle.dscript_eval_exprs.proofs.constants.mark.Goals as goal

pub returns : goal.returns
returns c =
    let v = seen c.args.machine.now in
    ap (λ (t : Table). record v { state = record v.state { constants = t } }) c.set_status.ensures

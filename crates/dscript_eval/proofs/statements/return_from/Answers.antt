use Rattle.dscript_eval_frames.specs.Views.{seen}
use Rattle.dscript_eval.proofs.StmtRests.{return_as}
use Rattle.dscript_eval.proofs.statements.return_from.Goals as goal

pub returns-in-Some : goal.returns-in-Some
returns-in-Some c = return_as _ (seen c.args.machine.now) _ _ _ c.in-Some.is c.return_value.ensures

pub returns-in-None : goal.returns-in-None
returns-in-None c = return_as _ (seen c.args.machine.now) _ _ _ c.in-None.is c.return_undefined.ensures

use Rattle.dscript_eval_frames.specs.Views.{seen}
use Rattle.dscript_eval.proofs.StmtRests.{let_as}
use Rattle.dscript_eval.proofs.statements.let_local.Goals as goal

pub returns-in-Some : goal.returns-in-Some
returns-in-Some c = let_as _ (seen c.args.machine.now) _ c.args.local _ _ c.in-Some.is c.bind_to.ensures

pub returns-in-None : goal.returns-in-None
returns-in-None c = let_as _ (seen c.args.machine.now) _ c.args.local _ _ c.in-None.is c.bind_undefined.ensures

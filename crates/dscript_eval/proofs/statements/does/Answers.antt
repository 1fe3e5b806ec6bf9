use Rattle.dscript_eval_frames.specs.Views.{seen}
use Rattle.dscript_eval.proofs.StmtKept.{spent_does, unspent_does}
use Rattle.dscript_eval.proofs.statements.does.Goals as goal

pub returns-in-Ok : goal.returns-in-Ok
returns-in-Ok c =
    spent_does _ (seen c.args.machine.now) _ _ c.args.statement _ c.stmt_cost.ensures c.in-Ok.ensures c.rest_of.ensures

pub returns-in-Err : goal.returns-in-Err
returns-in-Err c = unspent_does (seen c.args.machine.now) c.args.statement _ _ c.stmt_cost.ensures c.in-Err.ensures

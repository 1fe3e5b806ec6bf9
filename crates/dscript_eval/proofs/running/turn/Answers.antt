use Rattle.dscript_eval_frames.specs.Views.{seen}
use Rattle.dscript_eval.proofs.Turns.{done_as}
use Rattle.dscript_eval.proofs.running.turn.Goals as goal

pub returns-in-Expr : goal.returns-in-Expr
returns-in-Expr c = done_as _ (seen c.args.machine.now) _ _ _ c.in-Expr.is c.turn_expr.ensures

pub returns-in-Call : goal.returns-in-Call
returns-in-Call c = done_as _ (seen c.args.machine.now) _ _ _ c.in-Call.is c.turn_call.ensures

pub returns-in-Stmt : goal.returns-in-Stmt
returns-in-Stmt c = done_as _ (seen c.args.machine.now) _ _ _ c.in-Stmt.is c.turn_stmt.ensures

pub returns-in-Leave : goal.returns-in-Leave
returns-in-Leave c = done_as _ (seen c.args.machine.now) _ _ _ c.in-Leave.is c.leave.ensures

pub returns-in-Keep : goal.returns-in-Keep
returns-in-Keep c = done_as _ (seen c.args.machine.now) _ _ _ c.in-Keep.is c.keep.ensures

pub returns-in-Close : goal.returns-in-Close
returns-in-Close c = done_as _ (seen c.args.machine.now) _ _ _ c.in-Close.is c.close.ensures

use Rattle.dscript_program.specs.Views.{expr_data}
use Rattle.dscript_eval_frames.specs.Views.{seen}
use Rattle.dscript_eval_frames.proofs.Kept.{spent_rest, unspent_rest}
use Rattle.dscript_eval_exprs.proofs.exprs.eval.Goals as goal

pub returns-in-Ok : goal.returns-in-Ok
returns-in-Ok c =
    spent_rest _ (seen c.args.machine.now) _ _ (expr_data c.args.e.now) _ c.expr_cost.ensures c.in-Ok.ensures c.rest.ensures

pub returns-in-Err : goal.returns-in-Err
returns-in-Err c =
    unspent_rest (seen c.args.machine.now) (expr_data c.args.e.now) _ _ c.expr_cost.ensures c.in-Err.ensures

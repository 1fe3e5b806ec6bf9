use Rattle.dscript_eval_frames.specs.Views.{seen}
use Rattle.dscript_eval_frames.specs.declared.work.ExprWork.TheVariants as expr
use Rattle.dscript_eval_frames.specs.declared.work.Work.TheVariants as works
use Rattle.dscript_eval_exprs.proofs.AtOnce.{now_then, unless_now}
use Rattle.dscript_eval_exprs.proofs.ExprMoves.{cond_move}
use Rattle.dscript_eval_exprs.proofs.exprs.cond.Goals as goal

pub returns-then-at_once : goal.returns-then-at_once
returns-then-at_once c =
    now_then _ (seen c.args.machine.now) _ _ c.args.condition (works.Expr (expr.Choose c.args.then c.args.other)) _
    (cond_move (seen c.args.machine.now) c.args.condition c.args.then c.args.other) (c.at_once.ensures.given c.if-at_once.true) c.choose.ensures

pub returns : goal.returns
returns c =
    unless_now _ (seen c.args.machine.now) _ _ c.args.condition (works.Expr (expr.Choose c.args.then c.args.other)) _
    (cond_move (seen c.args.machine.now) c.args.condition c.args.then c.args.other) (c.at_once.ensures.none c.if-at_once.false) c.push_two.ensures

use Rattle.std.proofs.Common.{◌∷◌, refl}
use Rattle.dscript_eval_frames.specs.Views.{View, seen}
use Rattle.dscript_eval_frames.specs.declared.work.ExprWork.TheVariants as expr
use Rattle.dscript_eval_frames.specs.declared.work.Work.TheVariants as works
use Rattle.dscript_eval_frames.proofs.Kept.{kept}
use Rattle.dscript_eval_exprs.proofs.AtOnce.{now_then, unless_now}
use Rattle.dscript_eval_exprs.proofs.ExprMoves.{postfix_move}
use Rattle.dscript_eval_exprs.proofs.exprs.postfix.Goals as goal

pub returns-then-at_once : goal.returns-then-at_once
returns-then-at_once c =
    now_then _ (seen c.args.machine.now) _ _ c.args.e (works.Expr (expr.After c.args.parts)) _
    (postfix_move (seen c.args.machine.now) c.args.e c.args.parts) (c.at_once.ensures.given c.if-at_once.true)
    (kept _ _ _ _ c.push.ensures refl)

pub returns : goal.returns
returns c =
    unless_now _ (seen c.args.machine.now) _ _ c.args.e (works.Expr (expr.After c.args.parts)) _
    (postfix_move (seen c.args.machine.now) c.args.e c.args.parts) (c.at_once.ensures.none c.if-at_once.false) c.push_two.ensures

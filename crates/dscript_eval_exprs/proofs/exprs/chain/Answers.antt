use Rattle.dscript_eval_frames.specs.Views.{seen}
use Rattle.dscript_eval_frames.specs.declared.work.ExprWork.TheVariants as expr
use Rattle.dscript_eval_frames.specs.declared.work.Work.TheVariants as works
use Rattle.dscript_eval_exprs.proofs.AtOnce.{now_then, unless_now}
use Rattle.dscript_eval_exprs.proofs.ExprMoves.{chain_move}
use Rattle.dscript_eval_exprs.proofs.exprs.chain.Goals as goal

pub returns-then-at_once : goal.returns-then-at_once
returns-then-at_once c =
    now_then _ (seen c.args.machine.now) _ _ c.args.first (works.Expr (expr.Operands c.args.more)) _
    (chain_move (seen c.args.machine.now) c.args.first c.args.more) (c.at_once.ensures.given c.if-at_once.true) c.operands.ensures

pub returns : goal.returns
returns c =
    unless_now _ (seen c.args.machine.now) _ _ c.args.first (works.Expr (expr.Operands c.args.more)) _
    (chain_move (seen c.args.machine.now) c.args.first c.args.more) (c.at_once.ensures.none c.if-at_once.false) c.push_two.ensures

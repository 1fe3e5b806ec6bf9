use Rattle.dscript_eval_frames.specs.Views.{seen}
use Rattle.dscript_eval_frames.specs.declared.work.ExprWork.TheVariants as expr
use Rattle.dscript_eval_frames.specs.declared.work.Work.TheVariants as works
use Rattle.dscript_eval_exprs.proofs.AtOnce.{now_then, unless_now}
use Rattle.dscript_eval_exprs.proofs.ExprMoves.{operands_end, operands_move, operands_settled}
use Rattle.dscript_eval_frames.proofs.Kept.{kept}
use Rattle.std.proofs.Common.{sym, ◌∙◌}
use Rattle.dscript_eval_exprs.proofs.exprs.operands.Goals as goal

pub returns-in_default : goal.returns-in_default
returns-in_default c = operands_end (seen c.args.machine.now) c.args.more c.in_default.ensures.cases

pub returns-then-is_settled : goal.returns-then-is_settled
returns-then-is_settled c =
    kept _ _ _ _ c.push.ensures
    (operands_settled (seen c.args.machine.now) c.args.more c.in-Some.others c.in-Some.operand.now _ _ c.in-Some.ensures.cases.0
    c.operand_parts-operator.ensures (sym c.is_settled.ensures ∙ c.if-is_settled.true))

pub returns-then-at_once : goal.returns-then-at_once
returns-then-at_once c =
    now_then _ _ _ _ c.operand_parts-operator.result.1
    (works.Expr (expr.Operate c.operand_parts-operator.result.0 c.take-left.result c.in-Some.others)) _
    (operands_move (seen c.args.machine.now) _ c.args.more c.in-Some.others c.in-Some.operand.now _
    c.operand_parts-operator.result.1 c.take-left.result
    c.in-Some.ensures.cases.0 c.operand_parts-operator.ensures (sym c.is_settled.ensures ∙ c.if-is_settled.false)
    c.take-left.ensures.value c.take-left.ensures.taken)
    (c.at_once.ensures.given c.if-at_once.true) c.operated-outcome.ensures

pub returns : goal.returns
returns c =
    unless_now _ _ _ _ c.operand_parts-operator.result.1
    (works.Expr (expr.Operate c.operand_parts-operator.result.0 c.take-left.result c.in-Some.others)) _
    (operands_move (seen c.args.machine.now) _ c.args.more c.in-Some.others c.in-Some.operand.now _
    c.operand_parts-operator.result.1 c.take-left.result
    c.in-Some.ensures.cases.0 c.operand_parts-operator.ensures (sym c.is_settled.ensures ∙ c.if-is_settled.false)
    c.take-left.ensures.value c.take-left.ensures.taken)
    (c.at_once.ensures.none c.if-at_once.false) c.push_two.ensures

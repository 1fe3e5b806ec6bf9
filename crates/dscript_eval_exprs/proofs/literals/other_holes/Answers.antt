use Rattle.std.proofs.Common.{ap, subst, sym, ◌∙◌}
use Rattle.dscript_eval_frames.specs.Keeps.{StopsWith}
use Rattle.dscript_eval_frames.specs.Views.{View, seen}
use Rattle.dscript_eval_frames.specs.Works.{Answer, comes_with}
use Rattle.dscript_eval_frames.specs.declared.work.ExprWork.TheVariants as expr
use Rattle.dscript_eval_frames.specs.declared.work.Work.TheVariants as works
use Rattle.dscript_eval_frames.proofs.Kept.{keeps_at}
use Rattle.dscript_eval_frames.proofs.Refused.{stops_first}
use Rattle.dscript_eval_exprs.proofs.AtOnce.{given_then}
use Rattle.dscript_eval_exprs.proofs.LiteralMoves.{hole_move, holes_move}
use Rattle.dscript_eval_exprs.proofs.literals.other_holes.Goals as goal

pub returns-then-not-at_once : goal.returns-then-not-at_once
returns-then-not-at_once c =
    keeps_at _ _ _ _
    (c.holes.invariant
    ∙ ap (λ (z : View). comes_with (works.Expr (expr.Holes c.holes.left c.holes.made c.holes.literal-1)) z)
    (sym (c.at_once.ensures.none c.if-not-at_once.true)))
    c.holes_by_work.ensures

pub holes-preserved : goal.holes-preserved
holes-preserved c =
    c.holes.invariant
    ∙ holes_move (seen c.holes.machine) c.holes.left c.in-Some.others c.in-Some.hole.now c.hole_parts.result.0
    c.hole_parts.result.1 c.holes.made c.holes.literal-1 c.in-Some.ensures.cases.0 c.hole_parts.ensures
    ∙ given_then (seen c.holes.machine) _ c.hole_parts.result.0
    (works.Expr (expr.Hole c.hole_parts.result.1 c.in-Some.others c.holes.made c.holes.literal-1))
    (c.at_once.ensures.given c.if-not-at_once.false)
    ∙ hole_move (seen c.at_once.new.machine) c.hole_parts.result.1 c.in-Some.others c.holes.made c.add_hole.new.text c.add_text.new.bytes c.holes.literal-1
    c.in-Ok.ensures c.in_ok-add_text-in-Ok.ensures

pub returns-in-Err : goal.returns-in-Err
returns-in-Err c =
    let P : Answer → Type 0 = λ a. StopsWith c.stop_of.result a in
    subst P
    (sym (c.holes.invariant
    ∙ holes_move (seen c.holes.machine) c.holes.left c.in-Some.others c.in-Some.hole.now c.hole_parts.result.0
    c.hole_parts.result.1 c.holes.made c.holes.literal-1 c.in-Some.ensures.cases.0 c.hole_parts.ensures
    ∙ given_then (seen c.holes.machine) _ c.hole_parts.result.0
    (works.Expr (expr.Hole c.hole_parts.result.1 c.in-Some.others c.holes.made c.holes.literal-1))
    (c.at_once.ensures.given c.if-not-at_once.false)))
    (stops_first _ _ c.in-Err.fault _ _ (seen c.at_once.new.machine).state c.stop_of.ensures c.in-Err.ensures)

pub returns : goal.returns
returns c = keeps_at _ _ _ _ c.holes.invariant c.holes_by_work-2.ensures

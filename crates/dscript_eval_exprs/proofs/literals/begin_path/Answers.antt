use Rattle.dscript_eval_frames.specs.Views.{seen}
use Rattle.dscript_eval_frames.specs.declared.work.ExprWork.TheVariants as expr
use Rattle.dscript_eval_frames.specs.declared.work.Work.TheVariants as works
use Rattle.dscript_eval_frames.proofs.Kept.{keeps_at}
use Rattle.dscript_eval_exprs.proofs.AtOnce.{now_then, unless_now}
use Rattle.dscript_eval_exprs.proofs.LiteralMoves.{path_alone, path_move}
use Rattle.dscript_eval_exprs.proofs.literals.begin_path.Goals as goal

pub returns-then-at_once : goal.returns-then-at_once
returns-then-at_once c =
    now_then _ (seen c.args.machine.now) _ _ c.hole_parts.result.0
    (works.Expr (expr.FirstHole c.args.letter c.args.text c.hole_parts.result.1 c.in-Some.others)) _
    (path_move (seen c.args.machine.now) c.args.letter c.args.text c.hole_parts.result.1 c.args.holes c.in-Some.others
    c.in-Some.hole.now c.hole_parts.result.0 c.in-Some.ensures.cases.0 c.hole_parts.ensures)
    (c.at_once.ensures.given c.if-at_once.true) c.first_hole.ensures

pub returns-else-at_once : goal.returns-else-at_once
returns-else-at_once c =
    unless_now _ (seen c.args.machine.now) _ _ c.hole_parts.result.0
    (works.Expr (expr.FirstHole c.args.letter c.args.text c.hole_parts.result.1 c.in-Some.others)) _
    (path_move (seen c.args.machine.now) c.args.letter c.args.text c.hole_parts.result.1 c.args.holes c.in-Some.others
    c.in-Some.hole.now c.hole_parts.result.0 c.in-Some.ensures.cases.0 c.hole_parts.ensures)
    (c.at_once.ensures.none c.if-at_once.false) c.push_two.ensures

pub returns-in-None : goal.returns-in-None
returns-in-None c =
    keeps_at _ _ _ _ (path_alone (seen c.args.machine.now) c.args.letter c.args.text.now c.args.holes c.in-None.ensures.cases)
    c.begin_literal.ensures

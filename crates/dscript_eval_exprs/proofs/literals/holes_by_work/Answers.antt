use Rattle.dscript_eval_frames.specs.Views.{seen}
use Rattle.dscript_eval_frames.proofs.Kept.{keeps_at, kept}
use Rattle.dscript_eval_exprs.proofs.LiteralMoves.{holes_end, holes_move}
use Rattle.dscript_eval_exprs.proofs.literals.holes_by_work.Goals as goal

pub returns-in-Some : goal.returns-in-Some
returns-in-Some c =
    kept _ _ _ _ c.push_two.ensures
    (holes_move (seen c.args.machine.now) c.args.holes c.in-Some.others c.in-Some.hole.now c.hole_parts.result.0 c.hole_parts.result.1 c.args.text c.args.literal
    c.in-Some.ensures.cases.0 c.hole_parts.ensures)

pub returns-in-None : goal.returns-in-None
returns-in-None c =
    keeps_at _ _ _ _ (holes_end (seen c.args.machine.now) c.args.holes c.args.text c.args.literal c.in-None.ensures.cases)
    c.end_literal.ensures

use Rattle.dscript_eval_frames.specs.Views.{seen}
use Rattle.dscript_eval_frames.proofs.Kept.{keeps_at}
use Rattle.dscript_eval_exprs.proofs.LiteralMoves.{hole_move}
use Rattle.dscript_eval_frames.proofs.Refused.{stops_first}
use Rattle.dscript_eval_exprs.proofs.literals.hole.Goals as goal

pub returns-in_ok-add_text-in-Ok : goal.returns-in_ok-add_text-in-Ok
returns-in_ok-add_text-in-Ok c =
    keeps_at _ _ _ _
    (hole_move (seen c.args.machine.now) c.args.after c.args.others c.args.text c.add_hole.new.text c.add_text.new.bytes c.args.literal c.in-Ok.ensures
    c.in_ok-add_text-in-Ok.ensures)
    c.other_holes.ensures

pub returns-in-Err : goal.returns-in-Err
returns-in-Err c =
    stops_first _ _ c.in-Err.fault _ _ (seen c.args.machine.now).state c.stop_of.ensures c.in-Err.ensures

use Rattle.std.proofs.Common.{refl}
use Rattle.dscript_eval_frames.specs.Views.{seen}
use Rattle.dscript_eval.proofs.CallMoves.{ambient_move, ambient_stops}
use Rattle.dscript_eval_frames.proofs.Kept.{keeps_at}
use Rattle.dscript_eval.proofs.calls.ambient.Goals as goal

pub returns-in-Ok : goal.returns-in-Ok
returns-in-Ok c =
    keeps_at _ _ _ _
    (ambient_move (seen c.args.machine.now) _ c.args.name _ _ _ _ c.in_ok-file.ensures c.in-Ok.ensures.answer refl)
    c.answer.ensures

pub returns : goal.returns
returns c =
    ambient_stops _ (seen c.args.machine.now) c.args.name _ _ c.in-Err.fault c.in_ok-file.ensures c.in-Err.ensures.fault
    c.stop_of.ensures

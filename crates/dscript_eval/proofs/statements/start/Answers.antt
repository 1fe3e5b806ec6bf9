use Rattle.dscript_eval_frames.specs.Views.{seen}
use Rattle.dscript_eval_frames.proofs.Kept.{kept}
use Rattle.dscript_eval_frames.proofs.Refused.{stops_first}
use Rattle.dscript_eval.proofs.StmtMoves.{start_move}
use Rattle.dscript_eval.proofs.statements.start.Goals as goal

pub returns-in-Ok : goal.returns-in-Ok
returns-in-Ok c =
    kept _ _ _ _ c.push.ensures (start_move (seen c.args.machine.now) c.args.local c.args.body c.in-Ok.items c.in-Ok.ensures)

pub returns-in-Err : goal.returns-in-Err
returns-in-Err c = stops_first _ _ c.in-Err.fault _ _ (seen c.args.machine.now).state c.stop_of.ensures c.in-Err.ensures

use Rattle.dscript_eval_frames.specs.Views.{seen}
use Rattle.dscript_eval.proofs.CallMoves.{left_move}
use Rattle.dscript_eval.proofs.calls.leave.Goals as goal

pub returns : goal.returns
returns c = left_move (seen c.args.machine.now) _ _ c.args.frame c.in_ok-end_call.ensures c.restore.ensures

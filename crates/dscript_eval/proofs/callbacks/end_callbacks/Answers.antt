use Rattle.dscript_eval_frames.specs.Views.{seen}
use Rattle.dscript_eval.proofs.CallbackMoves.{loop_end, reduction_end}
use Rattle.dscript_eval_frames.proofs.Kept.{keeps_at}
use Rattle.dscript_eval.proofs.callbacks.end_callbacks.Goals as goal

pub returns-in-Reduce : goal.returns-in-Reduce
returns-in-Reduce c none = reduction_end (seen c.args.machine.now) c.args.callbacks c.in-Reduce.is none

pub returns-in_default : goal.returns-in_default
returns-in_default c none =
    keeps_at _ _ _ _ (loop_end (seen c.args.machine.now) c.args.callbacks c.in_default.not-Reduce none)
    (c.finish.ensures _ c.grown_list-outcome.ensures)

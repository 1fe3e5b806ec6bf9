use Rattle.dscript_eval_frames.proofs.Kept.{keeps_at}
use Rattle.dscript_eval.proofs.callbacks.callbacks_from.Goals as goal

pub returns-in-Ok : goal.returns-in-Ok
returns-in-Ok c = keeps_at _ _ _ _ c.in-Ok.ensures c.next_callback.ensures

pub returns-in-Err : goal.returns-in-Err
returns-in-Err c = c.in-Err.ensures

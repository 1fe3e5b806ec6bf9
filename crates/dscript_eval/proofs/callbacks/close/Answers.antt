use Rattle.std.proofs.Common.{refl}
use Rattle.dscript_eval_frames.proofs.Kept.{kept}
use Rattle.dscript_eval.proofs.callbacks.close.Goals as goal

pub returns : goal.returns
returns c = kept _ _ _ _ c.end_call.ensures refl

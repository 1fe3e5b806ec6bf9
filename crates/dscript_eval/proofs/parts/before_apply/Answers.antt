use Rattle.dscript_eval_frames.specs.Views.{seen}
use Rattle.dscript_eval_frames.proofs.Kept.{keeps_at}
use Rattle.dscript_eval.proofs.PartMoves.{apply_call_move}
use Rattle.dscript_eval.proofs.parts.before_apply.Goals as goal

pub returns : goal.returns
returns c =
    keeps_at _ _ _ _
    (apply_call_move (seen c.args.machine.now) _ _ _ c.take-f.result c.take-f.ensures.value c.take-f.ensures.taken)
    c.before_call.ensures

use Rattle.dscript_eval_frames.specs.Views.{seen}
use Rattle.dscript_eval_frames.proofs.Kept.{keeps_at}
use Rattle.dscript_eval.proofs.PartMoves.{method_call_move}
use Rattle.dscript_eval.proofs.parts.before_method_call.Goals as goal

pub returns : goal.returns
returns c =
    keeps_at _ _ _ _
    (method_call_move (seen c.args.machine.now) _ _ _ c.args.name.now _ c.take-subject.result c.take-subject.ensures.value
    c.in_ok-name.ensures c.take-subject.ensures.taken)
    c.before_call.ensures

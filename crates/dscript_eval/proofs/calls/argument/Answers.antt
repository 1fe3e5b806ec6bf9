use Rattle.dscript_eval_frames.specs.Views.{seen}
use Rattle.dscript_eval.proofs.CallMoves.{argument_move}
use Rattle.dscript_eval_frames.proofs.ItemLists.{ends_in}
use Rattle.dscript_eval_frames.proofs.Kept.{keeps_at}
use Rattle.dscript_eval.proofs.calls.argument.Goals as goal

pub returns-in-Ok : goal.returns-in-Ok
returns-in-Ok c =
    keeps_at _ _ _ _
    (argument_move (seen c.args.machine.now) _ c.args.others c.args.done c.add_value.new.values c.args.for_call
    (ends_in _ _ _ _ c.in-Ok.ensures c.take-argument.ensures.value) c.take-argument.ensures.taken)
    c.arguments.ensures

use Rattle.std.proofs.Common.{ap, map}
use Rattle.dscript_value.specs.Plain.{PlainFunction, item_list, plain_of}
use Rattle.dscript_eval_frames.specs.Views.{seen}
use Rattle.dscript_eval_frames.specs.Works.{item_of}
use Rattle.dscript_eval.proofs.CallbackMoves.{loop_next}
use Rattle.dscript_eval_frames.proofs.Kept.{keeps_at}
use Rattle.dscript_eval.proofs.callbacks.callback_with.Goals as goal

pub returns : goal.returns
returns c more args_are =
    keeps_at _ _ _ _
    (loop_next (seen c.args.machine.now) _ c.args.callbacks _ (item_of c.args.callbacks) (map plain_of c.args.args.now) more
    args_are (ap (λ (f : PlainFunction). (f.callee, item_list f.held.items)) c.in_ok-function.ensures) c.in_ok-push.ensures)
    c.call_back.ensures

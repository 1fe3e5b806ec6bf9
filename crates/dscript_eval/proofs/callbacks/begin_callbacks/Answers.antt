use Rattle.std.proofs.Common.{ap, ◌∙◌}
use Rattle.dscript_value.specs.Plain.{PlainFunction, PlainValues, item_list, plain_function}
use Rattle.dscript_eval_frames.specs.Views.{seen}
use Rattle.dscript_eval.proofs.CallbackMoves.{loop_begins}
use Rattle.dscript_eval_frames.proofs.Kept.{kept}
use Rattle.dscript_eval.proofs.callbacks.begin_callbacks.Goals as goal

pub returns : goal.returns
returns c =
    kept _ _ _ _ c.push.ensures
    (loop_begins (seen c.args.machine.now) c.args.kind c.new-callbacks.result _ _ c.new-callbacks.ensures.kind
    (ap (λ (f : PlainFunction). (f.callee, item_list f.held.items)) (ap plain_function c.new-callbacks.ensures.function ∙ c.in_ok-function.ensures))
    (ap (λ (vs : PlainValues). item_list vs.items) c.new-callbacks.ensures.items)
    c.new-callbacks.ensures.next c.new-callbacks.ensures.done)

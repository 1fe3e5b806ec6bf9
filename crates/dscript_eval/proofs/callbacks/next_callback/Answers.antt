use Rattle.std.proofs.Common.{List, ap, map, subst, ◌∙◌}
use Rattle.dscript_value.specs.Plain.{plain_of}
use Rattle.dscript_value.specs.declared.value.Value.{Value}
use Rattle.dscript_eval_frames.specs.Views.{seen}
use Rattle.dscript_eval.specs.CallbackArgs.{AreNextArgs}
use Rattle.dscript_eval.proofs.callbacks.next_callback.Goals as goal

pub returns-in-Some : goal.returns-in-Some
returns-in-Some c =
    let at = subst (AreNextArgs c.args.callbacks (seen c.args.machine.now).given) c.in-Some.is c.in_ok-found.ensures in
    c.callback_with.ensures at.0 (ap (λ (xs : List Value). map plain_of xs) c.as_slice.ensures.value ∙ at.1)

pub returns-in-None : goal.returns-in-None
returns-in-None c =
    c.end_callbacks.ensures
    (subst (AreNextArgs c.args.callbacks (seen c.args.machine.now).given) c.in-None.is c.in_ok-found.ensures)

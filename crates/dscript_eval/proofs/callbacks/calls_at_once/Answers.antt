use Rattle.std.proofs.Common.{ap, subst, sym, ◌∙◌}
use Rattle.dscript_eval_frames.specs.Keeps.{StopsWith}
use Rattle.dscript_eval_frames.specs.Views.{View, seen}
use Rattle.dscript_eval_frames.specs.Works.{Answer, comes_with}
use Rattle.dscript_eval_frames.specs.declared.work.CallWork.TheVariants as call
use Rattle.dscript_eval_frames.specs.declared.work.Work.TheVariants as works
use Rattle.dscript_eval.proofs.CallsNow.{called_then}
use Rattle.dscript_eval.proofs.callbacks.calls_at_once.Goals as goal

pub returns-then-not-call_at_once : goal.returns-then-not-call_at_once
returns-then-not-call_at_once c =
    c.items.invariant
    ∙ ap (λ (z : View). comes_with (works.Call (call.Loop c.items.callbacks)) z) (sym (c.call_at_once.ensures.none c.if-not-call_at_once.true))

pub items-preserved : goal.items-preserved
items-preserved c =
    c.items.invariant
    ∙ called_then (seen c.items.machine) _ c.items.callbacks (c.call_at_once.ensures.given c.if-not-call_at_once.false)
    ∙ c.in-Ok.ensures

pub returns-in-Err : goal.returns-in-Err
returns-in-Err c =
    let P : Answer → Type 0 = λ a. StopsWith c.in-Err.stop a in
    subst P
    (sym (c.items.invariant ∙ called_then (seen c.items.machine) _ c.items.callbacks (c.call_at_once.ensures.given c.if-not-call_at_once.false)))
    c.in-Err.ensures

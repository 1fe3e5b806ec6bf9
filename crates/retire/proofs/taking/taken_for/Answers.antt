use Rattle.std.proofs.Common.{subst, sym}
use Rattle.std.specs.Prelude.{IfSome, slice_get}
use Rattle.std.proofs.lemmas.Result.{IfOk-weaker}
use Rattle.pip_model_types.specs.declared.pip.ProcessDesc.{ProcessDesc}
use Rattle.pip_view_inputs.specs.Plain.{desc_of, process_in}
use Rattle.pip_view.specs.Sees.{sees}
use Rattle.sched_board_slots.specs.declared.held.Held.{Held}
use Rattle.retire.specs.Taking.{IsOfNow}
use Rattle.retire.proofs.taking.taken_for.Goals as goal

pub returns-in-Hit-clause-now : goal.returns-in-Hit-clause-now
returns-in-Hit-clause-now g c =
    let plan = c.args.frame.now.plan.now in
    let tree = c.args.frame.now.sources.now in
    let made = c.args.inputs.now in
    IfOk-weaker c.taken_hit.result _ _
    (λ taken. subst
    (λ (s : Held). IfSome (process_in (slice_get plan.pips c.args.pip))
    (λ (p : ProcessDesc). IsOfNow (desc_of tree made plan.tool_budget p) (sees plan.pips tree made c.args.pip) s taken))
    (sym c.in-Hit.is))
    c.taken_hit.ensures.now

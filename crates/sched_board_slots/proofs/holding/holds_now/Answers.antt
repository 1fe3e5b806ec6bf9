use Rattle.std.proofs.Common.{◌≡◌, Option, Some, ap, sym, ◌∙◌, subst}
use Rattle.std.specs.Prelude.{IsSome, slice_get}
use Rattle.std.proofs.lemmas.Bool.{false≢true}
use Rattle.std.proofs.lemmas.Result.{IfOk-weaker}
use Rattle.pip_model_types.specs.declared.desc.Desc.{Desc}
use Rattle.pip_model_types.specs.declared.pip.Pip.{Pip}
use Rattle.pip_model_types.specs.declared.pip.ProcessDesc.{ProcessDesc}
use Rattle.pip_view_inputs.specs.Plain.{desc_of, process_in}
use Rattle.run_record.specs.Holding.{IsSameWork}
use Rattle.sched_board_slots.specs.Slots.{own_desc, own_view}
use Rattle.sched_board_slots.proofs.Tests.{at_process, holds_by, refuted}
use Rattle.sched_board_slots.proofs.holding.holds_now.Goals as goal

pub returns-then-not-is_work_of : goal.returns-then-not-is_work_of
returns-then-not-is_work_of c =
    let plan = c.args.plan.now in
    let tree = c.args.sources.now in
    let made = c.args.inputs.now in
    let process : ProcessDesc = c.in-Some.process.now in
    let there : process_in (slice_get plan.pips c.args.pip) ≡ Some process =
    sym (c.in-Some.ensures ∙ ap (λ ps. process_in (slice_get ps c.args.pip)) c.pips.ensures.pips) in
    at_process _ (process_in (slice_get plan.pips c.args.pip)) process there
    (refuted _ _ c.is_work_of.result c.if-not-is_work_of.true c.is_work_of.ensures
    (λ now.
    subst (λ (d : Desc). IsSameWork d (desc_of tree made c.tool_budget.result process)) (sym c.desc.ensures.value)
    (subst (λ b. IsSameWork c.args.ran.now.desc (desc_of tree made b process)) (sym c.tool_budget.ensures) now.work)))

pub returns : goal.returns
returns c =
    let plan = c.args.plan.now in
    let tree = c.args.sources.now in
    let made = c.args.inputs.now in
    let process : ProcessDesc = c.in-Some.process.now in
    let there : process_in (slice_get plan.pips c.args.pip) ≡ Some process =
    sym (c.in-Some.ensures ∙ ap (λ ps. process_in (slice_get ps c.args.pip)) c.pips.ensures.pips) in
    let work : IsSameWork c.args.ran.now.desc (own_desc plan tree made process) =
    subst (λ b. IsSameWork c.args.ran.now.desc (desc_of tree made b process)) c.tool_budget.ensures
    (subst (λ (d : Desc). IsSameWork d (desc_of tree made c.tool_budget.result process)) c.desc.ensures.value (c.is_work_of.ensures.0 c.if-not-is_work_of.false)) in
    IfOk-weaker c.answers_hold.result _ _
    (λ hold is.
    at_process _ (process_in (slice_get plan.pips c.args.pip)) process there
    (holds_by (own_desc plan tree made process) (own_view plan tree made c.args.pip) _ c.args.ran.now c.answers.result.now c.asks.result.now hold c.in_ok-view.ensures
    c.answers.ensures.value (c.asks.ensures.asks ∙ c.paths-paths.ensures) work is))
    c.answers_hold.ensures.hold

pub unreachable-requires : goal.unreachable-requires
unreachable-requires c =
    false≢true
    (subst (λ (o : Option ProcessDesc). IsSome o) (sym (c.in_default.ensures ∙ ap (λ ps. process_in (slice_get ps c.args.pip)) c.pips.ensures.pips)) c.requires.process)

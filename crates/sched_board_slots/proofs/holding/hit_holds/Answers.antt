use Rattle.std.proofs.Common.{◌≡◌, Option, Some, ap, sym, ◌∙◌, subst}
use Rattle.std.specs.Prelude.{IsSome, slice_get}
use Rattle.std.proofs.lemmas.Bool.{false≢true}
use Rattle.std.proofs.lemmas.Result.{IfOk-weaker}
use Rattle.memo_format.specs.Found.{IsFoundFor}
use Rattle.pip_model_types.specs.declared.pip.ProcessDesc.{ProcessDesc}
use Rattle.pip_view_inputs.specs.Plain.{desc_of, process_in}
use Rattle.sched_board_slots.specs.Slots.{own_desc, own_view}
use Rattle.sched_board_slots.proofs.Tests.{at_process, hit_by}
use Rattle.sched_board_slots.proofs.holding.hit_holds.Goals as goal

pub returns : goal.returns
returns c =
    let plan = c.args.plan.now in
    let tree = c.args.sources.now in
    let made = c.args.inputs.now in
    let process : ProcessDesc = c.in-Some.process.now in
    let there : process_in (slice_get plan.pips c.args.pip) ≡ Some process =
    sym (c.in-Some.ensures ∙ ap (λ ps. process_in (slice_get ps c.args.pip)) c.pips.ensures.pips) in
    let is : IsFoundFor c.args.found.now (own_desc plan tree made process) =
    subst (λ b. IsFoundFor c.args.found.now (desc_of tree made b process)) c.tool_budget.ensures (c.is_found_for.ensures c.if-not-is_found_for.false) in
    IfOk-weaker c.answers_hold.result _ _
    (λ hold decides yes.
    at_process _ (process_in (slice_get plan.pips c.args.pip)) process there
    (hit_by (own_desc plan tree made process) (own_view plan tree made c.args.pip) _ c.args.found.now c.answers.result.now c.asks.result.now hold c.in_ok-view.ensures
    c.answers.ensures.answers (c.asks.ensures.asks ∙ c.paths-paths.ensures.paths) is decides yes))
    c.answers_hold.ensures.hold

pub unreachable-requires : goal.unreachable-requires
unreachable-requires c =
    false≢true
    (subst (λ (o : Option ProcessDesc). IsSome o) (sym (c.in_default.ensures ∙ ap (λ ps. process_in (slice_get ps c.args.pip)) c.pips.ensures.pips)) c.requires.process)

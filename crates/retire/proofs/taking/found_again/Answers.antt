use Rattle.std.proofs.Common.{◌≡◌, Option, Some, ap, sym, ◌∙◌, subst}
use Rattle.std.specs.Prelude.{IsSome, slice_get}
use Rattle.std.proofs.lemmas.Bool.{false≢true}
use Rattle.pip_model_types.specs.declared.pip.ProcessDesc.{ProcessDesc}
use Rattle.pip_view_inputs.specs.Plain.{process_in}
use Rattle.pip_view.specs.Sees.{sees}
use Rattle.two_phase.proofs.ReaderCalls.{none_read}
use Rattle.retire.proofs.Rechecks.{again_now, again_taken}
use Rattle.retire.proofs.taking.found_again.Goals as goal

pub returns-clause-taken : goal.returns-clause-taken
returns-clause-taken g c =
    let plan = c.args.frame.now.plan.now in
    let there : process_in (slice_get plan.pips c.args.pip) ≡ Some c.in-Some.process.now =
    sym (c.in-Some.ensures ∙ ap (λ ps. process_in (slice_get ps c.args.pip)) c.pips.ensures.pips) in
    again_taken (process_in (slice_get plan.pips c.args.pip)) c.args.frame.now.sources.now c.args.inputs.now plan.tool_budget (sees plan.pips c.args.frame.now.sources.now c.args.inputs.now c.args.pip)
    c.args.found.now c.in-Some.process.now there c.entry-kept.ensures.found (c.in_ok-holds.ensures c.if-not-holds.false) _ c.recheck_by.result c.recheck_by.ensures.kept c.recheck_by.ensures.fit

pub returns-clause-now : goal.returns-clause-now
returns-clause-now g c =
    let plan = c.args.frame.now.plan.now in
    let there : process_in (slice_get plan.pips c.args.pip) ≡ Some c.in-Some.process.now =
    sym (c.in-Some.ensures ∙ ap (λ ps. process_in (slice_get ps c.args.pip)) c.pips.ensures.pips) in
    again_now (process_in (slice_get plan.pips c.args.pip)) c.args.frame.now.sources.now c.args.inputs.now plan.tool_budget (sees plan.pips c.args.frame.now.sources.now c.args.inputs.now c.args.pip)
    c.args.found.now c.in-Some.process.now there c.entry-kept.ensures.found (c.in_ok-holds.ensures c.if-not-holds.false) c.recheck_by.result c.recheck_by.ensures.fit

pub returns-then-not-holds-clause-reader : goal.returns-then-not-holds-clause-reader
returns-then-not-holds-clause-reader g c = none_read _

pub unreachable-requires : goal.unreachable-requires
unreachable-requires g c =
    false≢true
    (subst (λ (o : Option ProcessDesc). IsSome o) (sym (c.in_default.ensures ∙ ap (λ ps. process_in (slice_get ps c.args.pip)) c.pips.ensures.pips)) c.requires.process)

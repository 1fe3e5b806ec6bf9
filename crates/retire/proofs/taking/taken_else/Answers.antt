use Rattle.std.specs.Prelude.{slice_get}
use Rattle.std.proofs.lemmas.Result.{IfOk-weaker}
use Rattle.pip_view_inputs.specs.Plain.{process_in}
use Rattle.pip_view.specs.Sees.{sees}
use Rattle.two_phase.proofs.ReaderCalls.{none_read}
use Rattle.retire.proofs.Decisions.{accepted_in, else_in, found_none, found_run}
use Rattle.retire.proofs.taking.taken_else.Goals as goal

pub returns-in-Some-clause-taken : goal.returns-in-Some-clause-taken
returns-in-Some-clause-taken g c =
    accepted_in (process_in (slice_get c.args.frame.now.plan.now.pips c.args.pip)) c.args.frame.now.sources.now c.args.inputs.now c.args.frame.now.plan.now.tool_budget _ _ c.in-Some.ran

pub returns-in-Some-clause-reader : goal.returns-in-Some-clause-reader
returns-in-Some-clause-reader g c = none_read _

pub returns-in-Some-clause-now : goal.returns-in-Some-clause-now
returns-in-Some-clause-now g c =
    found_run (process_in (slice_get c.args.frame.now.plan.now.pips c.args.pip)) c.args.frame.now.sources.now c.args.inputs.now c.args.frame.now.plan.now.tool_budget
    (sees c.args.frame.now.plan.now.pips c.args.frame.now.sources.now c.args.inputs.now c.args.pip) c.args.slot c.in_ok-ran.field-0
    c.in-Some.ran c.in-Some.is c.in_ok-ran.ensures

pub returns-clause-now : goal.returns-clause-now
returns-clause-now g c =
    let o = process_in (slice_get c.args.frame.now.plan.now.pips c.args.pip) in
    let see = sees c.args.frame.now.plan.now.pips c.args.frame.now.sources.now c.args.inputs.now c.args.pip in
    let none = found_none o c.args.frame.now.sources.now c.args.inputs.now c.args.frame.now.plan.now.tool_budget see c.args.slot c.in_ok-ran.field-0 c.in_default.is c.in_ok-ran.ensures in
    IfOk-weaker c.found_or_run.result _ _
    (λ taken now. else_in o c.args.frame.now.sources.now c.args.inputs.now c.args.frame.now.plan.now.tool_budget see c.args.slot taken none now)
    c.found_or_run.ensures.now

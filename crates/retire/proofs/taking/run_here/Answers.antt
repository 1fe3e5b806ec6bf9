use Rattle.std.specs.Prelude.{slice_get}
use Rattle.pip_view_inputs.specs.Plain.{process_in}
use Rattle.retire.proofs.Rechecks.{run_in}
use Rattle.retire.proofs.taking.run_here.Goals as goal

pub returns-clause-ran : goal.returns-clause-ran
returns-clause-ran g c =
    run_in (process_in (slice_get c.args.frame.now.plan.now.pips c.args.pip)) c.args.frame.now.sources.now c.args.inputs.now c.args.frame.now.plan.now.tool_budget
    c.in_ok-described.described _ _ c.run_on.result c.in_ok-described.ensures c.in_ok-view.ensures c.run_on.ensures.ran

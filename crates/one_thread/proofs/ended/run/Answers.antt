use Rattle.std.proofs.Common.{map}
use Rattle.std.specs.Prelude.{slice_get}
use Rattle.std.proofs.lemmas.Result.{IfOk-weaker}
use Rattle.violations.specs.Slots.{slot_files}
use Rattle.one_thread.specs.Views.{ended_result}
use Rattle.one_thread.proofs.OnePip.{process_worked}
use Rattle.one_thread.proofs.ended.run.Goals as goal

pub returns-clause-result : goal.returns-clause-result
returns-clause-result g c =
    let pips = c.args.frame.now.plan.now.pips in
    let tree = c.args.frame.now.sources.now in
    let made = map slot_files c.args.slots.now in
    IfOk-weaker c.after_outcome.result _ _
    (λ ended is.
    process_worked pips tree c.args.frame.now.plan.now.tool_budget made c.args.inputs.now c.args.pip (slice_get pips c.args.pip)
    c.in_ok-described.described _ c.in_ok-outcome.outcome (ended_result ended) c.in_ok-described.ensures c.in_ok-view.ensures
    c.in_ok-outcome.ensures.outcome is)
    c.after_outcome.ensures.result

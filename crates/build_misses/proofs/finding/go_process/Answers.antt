use Rattle.std.proofs.Common.{map}
use Rattle.std.specs.Prelude.{slice_get}
use Rattle.pip_view_inputs.specs.Plain.{process_in}
use Rattle.violations.specs.Slots.{slot_files}
use Rattle.one_thread.specs.Views.{Agrees}
use Rattle.two_phase.proofs.Used.{reads_as}
use Rattle.build_misses.proofs.Decisions.{came_given, ended_given, reason_given}
use Rattle.build_misses.proofs.finding.go_process.Goals as goal

pub returns-clause-went : goal.returns-clause-went
returns-clause-went g c =
    let pips = c.args.frame.now.plan.now.pips in
    came_given pips c.args.frame.now.sources.now c.args.frame.now.plan.now.tool_budget (g.R.KeepReader.held c.taken_for.new.reader) (map slot_files c.args.slots.now) c.args.inputs.now c.args.pip
    (process_in (slice_get pips c.args.pip)) c.in_ok-taken.taken c.process_result-ended.result c.next_of.result c.in_ok-taken.ensures.taken c.process_result-ended.ensures.result
    c.next_of.ensures.ended c.next_of.ensures.reason

pub returns-clause-reason : goal.returns-clause-reason
returns-clause-reason g c =
    let pips = c.args.frame.now.plan.now.pips in
    reason_given pips c.args.frame.now.sources.now c.args.frame.now.plan.now.tool_budget (g.R.KeepReader.held c.taken_for.new.reader) c.args.inputs.now c.args.pip
    (process_in (slice_get pips c.args.pip)) c.in_ok-taken.taken c.next_of.result c.in_ok-taken.ensures.reason c.next_of.ensures.reason

pub returns-clause-agrees : goal.returns-clause-agrees
returns-clause-agrees g c = ended_given c.process_result-ended.result c.next_of.result Agrees c.process_result-ended.ensures.agrees c.next_of.ensures.ended

pub returns-clause-reader : goal.returns-clause-reader
returns-clause-reader g c =
    reads_as _ _ _ _ _ _ _ _ (λ b. absurd (c.next_of.ensures.no_fault b)) (λ a. cc) c.in_ok-taken.ensures.reader

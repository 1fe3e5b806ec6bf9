use Rattle.std.proofs.Common.{subst}
use Rattle.std.specs.Prelude.{option_map, slice_get}
use Rattle.run_record.specs.Facts.{IsRun}
use Rattle.pip_view_inputs.specs.Plain.{process_in}
use Rattle.sched_board_slots.specs.declared.held.Held.TheVariants as held
use Rattle.two_phase.specs.Reading.{ReadsIfAny, reader_data}
use Rattle.retire.specs.Taking.{SeeksBy, seek_fault}
use Rattle.retire.specs.declared.taking.Sought.{Sought}
use Rattle.retire.specs.declared.taking.Taken.TheVariants as takings
use Rattle.retire.proofs.Decisions.{fault_taken, hit_taken, miss_taken, now_in, takes_in, unused_taken}
use Rattle.retire.proofs.taking.found_or_run.Goals as goal

pub returns-in-Hit-clause-taken : goal.returns-in-Hit-clause-taken
returns-in-Hit-clause-taken g c =
    let by = subst (SeeksBy _ _ _) c.in-Hit.is c.in_ok-sought.ensures.sought in
    takes_in (process_in (slice_get c.args.frame.now.plan.now.pips c.args.pip)) c.args.frame.now.sources.now c.args.inputs.now c.args.frame.now.plan.now.tool_budget
    c.in_ok-described.described _ _ _ (takings.Hit c.in-Hit.found) c.in_ok-described.ensures c.in_ok-view.ensures (hit_taken _ _ _ c.in-Hit.found by)

pub returns-in-Hit-clause-now : goal.returns-in-Hit-clause-now
returns-in-Hit-clause-now g c =
    let by = subst (SeeksBy _ _ _) c.in-Hit.is c.in_ok-sought.ensures.sought in
    now_in (process_in (slice_get c.args.frame.now.plan.now.pips c.args.pip)) c.args.frame.now.sources.now c.args.inputs.now c.args.frame.now.plan.now.tool_budget
    c.in_ok-described.described _ _ held.Empty (takings.Hit c.in-Hit.found) c.in_ok-described.ensures c.in_ok-view.ensures (λ no_run. no_run, by.1)

pub returns-in-Hit-clause-reader : goal.returns-in-Hit-clause-reader
returns-in-Hit-clause-reader g c = subst
    (λ (s : Sought). ReadsIfAny (option_map (λ r. reader_data (g.R.KeepReader.held r) (g.R.KeepReader.bound r) (g.R.KeepReader.faults r)) c.args.reader.now)
    (option_map (λ r. reader_data (g.R.KeepReader.held r) (g.R.KeepReader.bound r) (g.R.KeepReader.faults r)) c.seek.new.reader) (seek_fault s))
    c.in-Hit.is c.in_ok-sought.ensures.reader

pub returns-in_ok-ran-in-Unused-clause-taken : goal.returns-in_ok-ran-in-Unused-clause-taken
returns-in_ok-ran-in-Unused-clause-taken g c =
    let by = subst (SeeksBy _ _ _) c.in-Unused.is c.in_ok-sought.ensures.sought in
    takes_in (process_in (slice_get c.args.frame.now.plan.now.pips c.args.pip)) c.args.frame.now.sources.now c.args.inputs.now c.args.frame.now.plan.now.tool_budget
    c.in_ok-described.described _ _ _ (takings.Missed c.in_ok-ran-in-Unused.ran) c.in_ok-described.ensures c.in_ok-view.ensures (unused_taken _ _ _ c.in_ok-ran-in-Unused.ran by)

pub returns-in_ok-ran-in-Unused-clause-now : goal.returns-in_ok-ran-in-Unused-clause-now
returns-in_ok-ran-in-Unused-clause-now g c =
    now_in (process_in (slice_get c.args.frame.now.plan.now.pips c.args.pip)) c.args.frame.now.sources.now c.args.inputs.now c.args.frame.now.plan.now.tool_budget
    c.in_ok-described.described _ _ held.Empty (takings.Missed c.in_ok-ran-in-Unused.ran) c.in_ok-described.ensures c.in_ok-view.ensures
    (λ no_run. no_run, c.in_ok-ran-in-Unused.ensures.sound, subst (IsRun c.in_ok-ran-in-Unused.ran c.in_ok-described.described) c.in_ok-sought.ensures.meaning c.in_ok-ran-in-Unused.ensures.ran)

pub returns-in_ok-ran-in-Unused-clause-reader : goal.returns-in_ok-ran-in-Unused-clause-reader
returns-in_ok-ran-in-Unused-clause-reader g c = subst
    (λ (s : Sought). ReadsIfAny (option_map (λ r. reader_data (g.R.KeepReader.held r) (g.R.KeepReader.bound r) (g.R.KeepReader.faults r)) c.args.reader.now)
    (option_map (λ r. reader_data (g.R.KeepReader.held r) (g.R.KeepReader.bound r) (g.R.KeepReader.faults r)) c.seek.new.reader) (seek_fault s))
    c.in-Unused.is c.in_ok-sought.ensures.reader

pub returns-in_ok-ran-in-Miss-clause-taken : goal.returns-in_ok-ran-in-Miss-clause-taken
returns-in_ok-ran-in-Miss-clause-taken g c =
    let by = subst (SeeksBy _ _ _) c.in-Miss.is c.in_ok-sought.ensures.sought in
    takes_in (process_in (slice_get c.args.frame.now.plan.now.pips c.args.pip)) c.args.frame.now.sources.now c.args.inputs.now c.args.frame.now.plan.now.tool_budget
    c.in_ok-described.described _ _ _ (takings.Missed c.in_ok-ran-in-Miss.ran) c.in_ok-described.ensures c.in_ok-view.ensures (miss_taken _ _ _ c.in-Miss.weak c.in_ok-ran-in-Miss.ran by)

pub returns-in_ok-ran-in-Miss-clause-now : goal.returns-in_ok-ran-in-Miss-clause-now
returns-in_ok-ran-in-Miss-clause-now g c =
    now_in (process_in (slice_get c.args.frame.now.plan.now.pips c.args.pip)) c.args.frame.now.sources.now c.args.inputs.now c.args.frame.now.plan.now.tool_budget
    c.in_ok-described.described _ _ held.Empty (takings.Missed c.in_ok-ran-in-Miss.ran) c.in_ok-described.ensures c.in_ok-view.ensures
    (λ no_run. no_run, c.in_ok-ran-in-Miss.ensures.sound, subst (IsRun c.in_ok-ran-in-Miss.ran c.in_ok-described.described) c.in_ok-sought.ensures.meaning c.in_ok-ran-in-Miss.ensures.ran)

pub returns-in_ok-ran-in-Miss-clause-reader : goal.returns-in_ok-ran-in-Miss-clause-reader
returns-in_ok-ran-in-Miss-clause-reader g c = subst
    (λ (s : Sought). ReadsIfAny (option_map (λ r. reader_data (g.R.KeepReader.held r) (g.R.KeepReader.bound r) (g.R.KeepReader.faults r)) c.args.reader.now)
    (option_map (λ r. reader_data (g.R.KeepReader.held r) (g.R.KeepReader.bound r) (g.R.KeepReader.faults r)) c.seek.new.reader) (seek_fault s))
    c.in-Miss.is c.in_ok-sought.ensures.reader

pub returns-in_ok-ran-in-Fault-clause-taken : goal.returns-in_ok-ran-in-Fault-clause-taken
returns-in_ok-ran-in-Fault-clause-taken g c =
    let by = subst (SeeksBy _ _ _) c.in-Fault.is c.in_ok-sought.ensures.sought in
    takes_in (process_in (slice_get c.args.frame.now.plan.now.pips c.args.pip)) c.args.frame.now.sources.now c.args.inputs.now c.args.frame.now.plan.now.tool_budget
    c.in_ok-described.described _ _ _ (takings.Faulted c.in_ok-ran-in-Fault.ran) c.in_ok-described.ensures c.in_ok-view.ensures (fault_taken _ _ _ c.in-Fault.weak c.in_ok-ran-in-Fault.ran by)

pub returns-in_ok-ran-in-Fault-clause-now : goal.returns-in_ok-ran-in-Fault-clause-now
returns-in_ok-ran-in-Fault-clause-now g c =
    now_in (process_in (slice_get c.args.frame.now.plan.now.pips c.args.pip)) c.args.frame.now.sources.now c.args.inputs.now c.args.frame.now.plan.now.tool_budget
    c.in_ok-described.described _ _ held.Empty (takings.Faulted c.in_ok-ran-in-Fault.ran) c.in_ok-described.ensures c.in_ok-view.ensures
    (λ no_run. no_run, c.in_ok-ran-in-Fault.ensures.sound, subst (IsRun c.in_ok-ran-in-Fault.ran c.in_ok-described.described) c.in_ok-sought.ensures.meaning c.in_ok-ran-in-Fault.ensures.ran)

pub returns-in_ok-ran-in-Fault-clause-reader : goal.returns-in_ok-ran-in-Fault-clause-reader
returns-in_ok-ran-in-Fault-clause-reader g c = subst
    (λ (s : Sought). ReadsIfAny (option_map (λ r. reader_data (g.R.KeepReader.held r) (g.R.KeepReader.bound r) (g.R.KeepReader.faults r)) c.args.reader.now)
    (option_map (λ r. reader_data (g.R.KeepReader.held r) (g.R.KeepReader.bound r) (g.R.KeepReader.faults r)) c.seek.new.reader) (seek_fault s))
    c.in-Fault.is c.in_ok-sought.ensures.reader

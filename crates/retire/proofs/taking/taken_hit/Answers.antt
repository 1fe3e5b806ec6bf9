use Rattle.std.proofs.Common.{subst}
use Rattle.std.specs.Prelude.{option_map, slice_get}
use Rattle.std.proofs.lemmas.Result.{IfOk-weaker}
use Rattle.pip_view_inputs.specs.Plain.{process_in}
use Rattle.pip_view.specs.Sees.{sees}
use Rattle.two_phase.specs.Reading.{ReadsIfAny, reader_data}
use Rattle.retire.specs.Counting.{one_fault}
use Rattle.retire.specs.Taking.{again_fault, way_of}
use Rattle.retire.specs.declared.taking.Again.{Again}
use Rattle.retire.specs.declared.taking.Taken.{Taken}
use Rattle.retire.proofs.Decisions.{else_in}
use Rattle.retire.proofs.Rechecks.{fault_in, fault_now, hit_no_run, hit_of_now, read_after}
use Rattle.retire.proofs.taking.taken_hit.Goals as goal

pub returns-in-Kept-clause-taken : goal.returns-in-Kept-clause-taken
returns-in-Kept-clause-taken g c = c.in_ok-again.ensures.taken c.in-Kept.is

pub returns-in-Kept-clause-now : goal.returns-in-Kept-clause-now
returns-in-Kept-clause-now g c =
    hit_of_now (process_in (slice_get c.args.frame.now.plan.now.pips c.args.pip)) c.args.frame.now.sources.now c.args.inputs.now c.args.frame.now.plan.now.tool_budget
    (sees c.args.frame.now.plan.now.pips c.args.frame.now.sources.now c.args.inputs.now c.args.pip) c.args.found (c.in_ok-again.ensures.now c.in-Kept.is)

pub returns-in-Kept-clause-reader : goal.returns-in-Kept-clause-reader
returns-in-Kept-clause-reader g c = subst
    (λ (a : Again). ReadsIfAny (option_map (λ r. reader_data (g.R.KeepReader.held r) (g.R.KeepReader.bound r) (g.R.KeepReader.faults r)) c.args.reader.now)
    (option_map (λ r. reader_data (g.R.KeepReader.held r) (g.R.KeepReader.bound r) (g.R.KeepReader.faults r)) c.found_again.new.reader) (again_fault a))
    c.in-Kept.is c.in_ok-again.ensures.reader

pub returns-in-Changed-clause-now : goal.returns-in-Changed-clause-now
returns-in-Changed-clause-now g c =
    let o = process_in (slice_get c.args.frame.now.plan.now.pips c.args.pip) in
    let see = sees c.args.frame.now.plan.now.pips c.args.frame.now.sources.now c.args.inputs.now c.args.pip in
    IfOk-weaker c.found_or_run.result _ _
    (λ taken now. else_in o c.args.frame.now.sources.now c.args.inputs.now c.args.frame.now.plan.now.tool_budget see _ taken
    (hit_no_run o c.args.frame.now.sources.now c.args.inputs.now c.args.frame.now.plan.now.tool_budget see c.args.found) now)
    c.found_or_run.ensures.now

pub returns-in-Changed-clause-reader : goal.returns-in-Changed-clause-reader
returns-in-Changed-clause-reader g c =
    let before = option_map (λ r. reader_data (g.R.KeepReader.held r) (g.R.KeepReader.bound r) (g.R.KeepReader.faults r)) c.args.reader.now in
    let between = option_map (λ r. reader_data (g.R.KeepReader.held r) (g.R.KeepReader.bound r) (g.R.KeepReader.faults r)) c.found_again.new.reader in
    let now = option_map (λ r. reader_data (g.R.KeepReader.held r) (g.R.KeepReader.bound r) (g.R.KeepReader.faults r)) c.found_or_run.new.reader in
    read_after before between now (λ (t : Taken). one_fault (way_of t)) c.found_or_run.result
    (subst (λ (a : Again). ReadsIfAny before between (again_fault a)) c.in-Changed.is c.in_ok-again.ensures.reader) c.found_or_run.ensures.reader

pub returns-in_ok-ran-in-Faulted-clause-taken : goal.returns-in_ok-ran-in-Faulted-clause-taken
returns-in_ok-ran-in-Faulted-clause-taken g c =
    let before = option_map (λ r. reader_data (g.R.KeepReader.held r) (g.R.KeepReader.bound r) (g.R.KeepReader.faults r)) c.args.reader.now in
    let now = option_map (λ r. reader_data (g.R.KeepReader.held r) (g.R.KeepReader.bound r) (g.R.KeepReader.faults r)) c.found_again.new.reader in
    fault_in (process_in (slice_get c.args.frame.now.plan.now.pips c.args.pip)) c.args.frame.now.sources.now c.args.inputs.now c.args.frame.now.plan.now.tool_budget
    (sees c.args.frame.now.plan.now.pips c.args.frame.now.sources.now c.args.inputs.now c.args.pip) before now c.in_ok-ran-in-Faulted.ran
    (subst (λ (a : Again). ReadsIfAny before now (again_fault a)) c.in-Faulted.is c.in_ok-again.ensures.reader)

pub returns-in_ok-ran-in-Faulted-clause-now : goal.returns-in_ok-ran-in-Faulted-clause-now
returns-in_ok-ran-in-Faulted-clause-now g c =
    fault_now (process_in (slice_get c.args.frame.now.plan.now.pips c.args.pip)) c.args.frame.now.sources.now c.args.inputs.now c.args.frame.now.plan.now.tool_budget
    (sees c.args.frame.now.plan.now.pips c.args.frame.now.sources.now c.args.inputs.now c.args.pip) c.args.found c.in_ok-ran-in-Faulted.ran
    c.in_ok-ran-in-Faulted.ensures.sound c.in_ok-ran-in-Faulted.ensures.ran

pub returns-in_ok-ran-in-Faulted-clause-reader : goal.returns-in_ok-ran-in-Faulted-clause-reader
returns-in_ok-ran-in-Faulted-clause-reader g c = subst
    (λ (a : Again). ReadsIfAny (option_map (λ r. reader_data (g.R.KeepReader.held r) (g.R.KeepReader.bound r) (g.R.KeepReader.faults r)) c.args.reader.now)
    (option_map (λ r. reader_data (g.R.KeepReader.held r) (g.R.KeepReader.bound r) (g.R.KeepReader.faults r)) c.found_again.new.reader) (again_fault a))
    c.in-Faulted.is c.in_ok-again.ensures.reader

use Rattle.std.proofs.Common.{◌∙◌, ◌&&◌, ap, map, subst, sym}
use Rattle.std.specs.Prelude.{is_some, option_map, slice_get}
use Rattle.pip_view_inputs.specs.Plain.{process_in}
use Rattle.violations.specs.Slots.{slot_files}
use Rattle.violations.specs.Verdicts.{is_success}
use Rattle.one_thread.specs.Views.{Agrees, ended_result, is_good_slot}
use Rattle.one_thread.specs.declared.ended.PipResult.{PipResult}
use Rattle.two_phase.specs.Reading.{ReadsIfAny, reader_data}
use Rattle.retire.specs.Counting.{one_fault}
use Rattle.retire.specs.Taking.{save_if, record_in}
use Rattle.retire.proofs.Decisions.{decided_by}
use Rattle.retire.proofs.Told.{some_mapped}
use Rattle.retire.proofs.deciding.decide_process.Goals as goal

pub returns-clause-decided : goal.returns-clause-decided
returns-clause-decided g c =
    let taken = c.in_ok-taken.taken in
    let ended = c.in_ok-ended.ended in
    let used = some_mapped (λ r. reader_data (g.R.KeepReader.held r) (g.R.KeepReader.bound r) (g.R.KeepReader.faults r)) c.taken_for.new.reader in
    decided_by c.args.frame.now.plan.now.pips c.args.frame.now.sources.now c.args.frame.now.plan.now.tool_budget _ c.args.slot
    (map slot_files c.args.slots.now) c.args.inputs.now c.args.pip (process_in (slice_get c.args.frame.now.plan.now.pips c.args.pip)) taken c.next_of.result
    c.in_ok-taken.ensures.taken c.in_ok-taken.ensures.now (ap ended_result c.next_of.ensures.ended ∙ c.in_ok-ended.ensures.result) c.next_of.ensures.way
    (c.next_of.ensures.saved ∙ ap (λ b. save_if (b && is_good_slot ended.slot) (record_in taken)) (c.is_some.ensures ∙ sym used)
    ∙ ap (λ b. save_if (is_some (option_map (λ r. reader_data (g.R.KeepReader.held r) (g.R.KeepReader.bound r) (g.R.KeepReader.faults r)) c.taken_for.new.reader) && b) (record_in taken)) (c.in_ok-ended.ensures.agrees ∙ ap (λ (e : PipResult). is_success e.verdict) (sym c.next_of.ensures.ended)))

pub returns-clause-agrees : goal.returns-clause-agrees
returns-clause-agrees g c = subst Agrees (sym c.next_of.ensures.ended) c.in_ok-ended.ensures.agrees

pub returns-clause-reader : goal.returns-clause-reader
returns-clause-reader g c = subst (ReadsIfAny _ _) (sym (ap one_fault c.next_of.ensures.way)) c.in_ok-taken.ensures.reader

use Rattle.std.proofs.Common.{◌<◌, ◌≤◌, List, ap, arith, length, map, subst, sym, take}
use Rattle.pip_model_types.specs.declared.made.Slot.{Slot}
use Rattle.pip_model_types.specs.declared.pip.Pip.{Pip}
use Rattle.std.specs.Prelude.{◌≡◌, Some, slice_get}
use Rattle.bx_io.specs.Holdings.{Holdings}
use Rattle.violations.specs.Slots.{slot_files}
use Rattle.one_thread.specs.Shared.{all_shared}
use Rattle.one_thread.specs.Views.{ended_result}
use Rattle.one_thread.proofs.SharedSets.{next_shared, none_shared}
use Rattle.two_phase.proofs.Used.{ok_no_err, reads_none, reads_on}
use Rattle.build_misses.specs.Going.{EndsAt}
use Rattle.build_misses.specs.Reasoned.{AreReasoned}
use Rattle.build_misses.proofs.Going.{all_gone, begins_as, one_more}
use Rattle.build_misses.proofs.finding.go_through.Goals as goal

pub pips-init : goal.pips-init
pips-init g c =
    let pips = c.args.frame.now.plan.now.pips in
    let gone = c.none-gone.result in
    record {
      goes = begins_as pips c.args.frame.now.sources.now c.args.frame.now.plan.now.tool_budget (g.R.KeepReader.held c.args.reader.now) gone.verdicts.items gone.slots.items
          gone.misses.items c.none-gone.ensures.verdicts c.none-gone.ensures.slots c.none-gone.ensures.misses;
      shared = none_shared gone.shared.files gone.shared.dirs pips gone.slots.items c.none-gone.ensures.shared c.none-gone.ensures.slots;
      reads = reads_none (g.R.KeepReader.held c.args.reader.now) (g.R.KeepReader.bound c.args.reader.now) (g.R.KeepReader.faults c.args.reader.now) ⊥ (λ e. e);
    }

pub go_on-requires-clause-slots : goal.go_on-requires-clause-slots
go_on-requires-clause-slots g c =
    let long = c.pips.invariant.goes.slots in
    let same = ap length c.as_slice-slots.ensures.value in
    omega (arith, long, same)

pub pips-preserved : goal.pips-preserved
pips-preserved g c =
    let plan = c.args.frame.now.plan.now in
    let pips = plan.pips in
    let tree = c.args.frame.now.sources.now in
    let n = c.pips.number in
    let inv = c.pips.invariant in
    let gone = c.pips.gone in
    let done = c.add.new.self in
    let add = c.in_ok-add.ensures in
    let next = c.in_ok-next.next in
    let within = subst (λ (ps : List Pip). n < length ps) c.pips-pips.ensures.pips c.pips-test.true in
    record {
      goes = one_more pips tree plan.tool_budget (g.R.KeepReader.held c.pips.reader) (g.R.KeepReader.held c.go_on.new.reader) n gone.verdicts.items done.verdicts.items gone.slots.items
          done.slots.items next.ended.verdict next.ended.slot next.reason gone.misses.items done.misses.items inv.goes within c.in_ok-next.ensures.reader.held_is
          (subst
          (λ (ts : List Slot). (S : Holdings) → g.R.KeepReader.held c.go_on.new.reader ≡ Some S → EndsAt pips tree plan.tool_budget S ts n (slice_get pips n) (ended_result next.ended) next.reason)
          c.as_slice-slots.ensures.value c.in_ok-next.ensures.went)
          c.in_ok-next.ensures.agrees add.verdicts add.slots add.misses;
      shared =
          next_shared done.shared.files done.shared.dirs pips gone.slots.items done.slots.items n next.ended.slot inv.goes.slots within add.slots
          (add.shared (all_shared (take n pips) (map slot_files gone.slots.items)) inv.shared);
      reads = reads_on _ _ _ _ _ _ _ _ _ _ (ok_no_err _ _) inv.reads c.in_ok-next.ensures.reader;
    }

pub returns-clause-reasoned : goal.returns-clause-reasoned
returns-clause-reasoned g c = λ S told.
    let past = subst (λ (ps : List Pip). length ps ≤ c.pips.number) c.pips-pips.ensures.pips c.pips-test.false in
    subst (AreReasoned c.args.frame.now.plan.now.pips c.args.frame.now.sources.now c.args.frame.now.plan.now.tool_budget S) (sym c.into_misses.ensures)
    (all_gone c.args.frame.now.plan.now.pips c.args.frame.now.sources.now c.args.frame.now.plan.now.tool_budget (g.R.KeepReader.held c.pips.reader) c.pips.number
    c.pips.gone.verdicts.items c.pips.gone.slots.items c.pips.gone.misses.items c.pips.invariant.goes past S told)

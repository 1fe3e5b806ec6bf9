use Rattle.std.proofs.Common.{◌≡◌, ◌+◌, ◌≤◌, Some, None, drop, length, map, take}
use Rattle.std.specs.Prelude.{IfSome, is_some, option_map}
use Rattle.std.specs.List.{AllByRecursion}
use Rattle.bx_io.specs.Holdings.{Holdings}
use Rattle.one_thread.specs.Keeping.{AreKept}
use Rattle.violations.specs.Slots.{slot_files}
use Rattle.one_thread.specs.OneThread.{run_count}
use Rattle.one_thread.specs.Shared.{KeepsShared, all_shared}
use Rattle.std.specs.Vec.Iter.{into_iter_items, into_iter_len}
use Rattle.two_phase.specs.Reading.{ReadsIfAny, reader_data}
use Rattle.retire.specs.Builds.{IsFair}
use Rattle.retire.specs.Saving.{IsSuccess}
use Rattle.retire.specs.Settled.{IsSettledOver}
use Rattle.retire.proofs.Following.{CountsTo, FollowsTo, KeepsTo}
use Rattle.retire.proofs.GoingOver.{GoesOver}
use Rattle.retire.proofs.Told.{IsRight, IsTold}
use Rattle.retire.proofs.deciding.decide_all.Given as goal

abbrev pub invariant-pips : goal.invariant-pips
invariant-pips g l = record {
  follows : IsRight l.fn.frame.plan.now.pips l.fn.frame.sources.now l.fn.frame.plan.now.tool_budget
      (option_map (λ r. reader_data (g.R.KeepReader.held r) (g.R.KeepReader.bound r) (g.R.KeepReader.faults r)) l.reader)
      → FollowsTo l.fn.frame.plan.now.pips l.fn.frame.sources.now l.fn.frame.plan.now.tool_budget l.fn.finished.items l.number l.decided.verdicts.items
      l.decided.slots.items l.decided.accepted.items;
  alone : option_map (λ r. reader_data (g.R.KeepReader.held r) (g.R.KeepReader.bound r) (g.R.KeepReader.faults r)) l.reader ≡ None
      → CountsTo l.fn.frame.plan.now.pips l.decided.verdicts.items l.decided.accepted.items l.decided.ways.hits l.decided.ways.missed l.decided.ways.faulted;
  keeps : (S : Holdings)
      → IsTold (option_map (λ r. reader_data (g.R.KeepReader.held r) (g.R.KeepReader.bound r) (g.R.KeepReader.faults r)) l.reader) S
      → IsFair l.fn.frame.plan.now.pips l.fn.frame.sources.now l.fn.frame.plan.now.tool_budget S
      → KeepsTo l.fn.frame.plan.now.pips l.fn.frame.sources.now l.fn.frame.plan.now.tool_budget l.fn.finished.items S l.number l.decided.verdicts.items l.decided.slots.items
      l.decided.accepted.items l.decided.records.items l.decided.ways.hits l.decided.ways.missed l.decided.ways.faulted;
  over : (S : Holdings)
      → IsTold (option_map (λ r. reader_data (g.R.KeepReader.held r) (g.R.KeepReader.bound r) (g.R.KeepReader.faults r)) l.reader) S
      → l.decided.ways.faulted ≡ 0
      → GoesOver l.fn.frame.plan.now.pips l.fn.frame.sources.now l.fn.frame.plan.now.tool_budget S l.fn.finished.items l.number l.decided.verdicts.items
      l.decided.slots.items (l.decided.ways.accepted + l.decided.ways.missed);
  settled : (S : Holdings) → IsSettledOver l.fn.frame.plan.now l.fn.frame.sources.now S (is_some l.reader) l.fn.finished.items
      → IfSome (option_map (λ r. reader_data (g.R.KeepReader.held r) (g.R.KeepReader.bound r) (g.R.KeepReader.faults r)) l.reader) (λ r. r.held ≡ Some S)
      → l.decided.ways.missed ≡ 0;
  verdicts_long : length l.decided.verdicts.items ≡ l.number;
  slots_long : length l.decided.slots.items ≡ l.number;
  counted : l.decided.ways.accepted + (l.decided.ways.hits + (l.decided.ways.missed + l.decided.ways.faulted))
      ≡ run_count l.fn.frame.plan.now.pips l.decided.verdicts.items;
  kept : AreKept l.fn.frame.plan.now.pips (map slot_files l.decided.slots.items);
  good : AllByRecursion IsSuccess l.decided.records.items;
  ran : length l.decided.records.items ≤ l.decided.ways.accepted + (l.decided.ways.missed + l.decided.ways.faulted);
  shared : KeepsShared l.shared.files l.shared.dirs (all_shared (take l.number l.fn.frame.plan.now.pips) (map slot_files l.decided.slots.items));
  left_items : into_iter_items l.left ≡ drop l.number l.fn.finished.items;
  left_len : into_iter_len l.left + l.number ≡ length l.fn.finished.items;
  reads : ReadsIfAny (option_map (λ r. reader_data (g.R.KeepReader.held r) (g.R.KeepReader.bound r) (g.R.KeepReader.faults r)) l.fn.reader)
      (option_map (λ r. reader_data (g.R.KeepReader.held r) (g.R.KeepReader.bound r) (g.R.KeepReader.faults r)) l.reader) l.decided.ways.faulted;
}

use Rattle.std.proofs.Common.{map, take}
use Rattle.two_phase.specs.Calls.{ReaderCall}
use Rattle.violations.specs.Slots.{slot_files}
use Rattle.one_thread.specs.Shared.{KeepsShared, all_shared}
use Rattle.build_misses.proofs.Going.{GoesTo}
use Rattle.build_misses.proofs.finding.go_through.Given as goal

abbrev pub invariant-pips : goal.invariant-pips
invariant-pips g l = record {
  goes : GoesTo l.fn.frame.plan.now.pips l.fn.frame.sources.now l.fn.frame.plan.now.tool_budget (g.R.KeepReader.held l.reader) l.number
      l.gone.verdicts.items l.gone.slots.items l.gone.misses.items;
  shared : KeepsShared l.gone.shared.files l.gone.shared.dirs (all_shared (take l.number l.fn.frame.plan.now.pips) (map slot_files l.gone.slots.items));
  reads : ReaderCall (g.R.KeepReader.held l.fn.reader) (g.R.KeepReader.held l.reader) (g.R.KeepReader.bound l.fn.reader) (g.R.KeepReader.bound l.reader)
      (g.R.KeepReader.faults l.fn.reader) (g.R.KeepReader.faults l.reader) ⊥;
}

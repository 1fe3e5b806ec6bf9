use Rattle.graph_memo.specs.Finding.{HoldsModule}
use Rattle.two_phase.specs.Calls.{ReaderCall}
use Rattle.graph_memo.proofs.Decided.{HoldsOfFirst}
use Rattle.graph_memo.proofs.finding.are_all_held.Given as goal

abbrev pub invariant-modules : goal.invariant-modules
invariant-modules g l = record {
  first : HoldsOfFirst (HoldsModule l.tree) (g.R.KeepReader.held l.reader) l.modules l.module-index;
  reads : ReaderCall (g.R.KeepReader.held l.fn.reader) (g.R.KeepReader.held l.reader) (g.R.KeepReader.bound l.fn.reader) (g.R.KeepReader.bound l.reader)
      (g.R.KeepReader.faults l.fn.reader) (g.R.KeepReader.faults l.reader) ⊥;
}

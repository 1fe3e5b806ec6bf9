use Rattle.graph_memo.specs.Finding.{HoldsSpec}
use Rattle.two_phase.specs.Calls.{ReaderCall}
use Rattle.graph_memo.proofs.Decided.{HoldsOfFirst}
use Rattle.graph_memo.proofs.finding.are_held.Given as goal

abbrev pub invariant-paths : goal.invariant-paths
invariant-paths g l = record {
  first : HoldsOfFirst (HoldsSpec l.tree) (g.R.KeepReader.held l.reader) l.paths l.path-index;
  reads : ReaderCall (g.R.KeepReader.held l.fn.reader) (g.R.KeepReader.held l.reader) (g.R.KeepReader.bound l.fn.reader) (g.R.KeepReader.bound l.reader)
      (g.R.KeepReader.faults l.fn.reader) (g.R.KeepReader.faults l.reader) ⊥;
}

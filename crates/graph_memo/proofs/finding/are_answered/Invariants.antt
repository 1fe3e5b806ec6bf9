use Rattle.dscript_sdk_calls.specs.Sources.{tree_answers}
use Rattle.graph_memo.specs.Finding.{IsAnswered}
use Rattle.two_phase.specs.Calls.{ReaderCall}
use Rattle.graph_memo.proofs.Decided.{HoldsOfFirst}
use Rattle.graph_memo.proofs.finding.are_answered.Given as goal

abbrev pub invariant-lines : goal.invariant-lines
invariant-lines g l = record {
  first : HoldsOfFirst (IsAnswered (tree_answers l.tree)) (g.R.KeepReader.held l.reader) l.lines l.line-index;
  reads : ReaderCall (g.R.KeepReader.held l.fn.reader) (g.R.KeepReader.held l.reader) (g.R.KeepReader.bound l.fn.reader) (g.R.KeepReader.bound l.reader)
      (g.R.KeepReader.faults l.fn.reader) (g.R.KeepReader.faults l.reader) ⊥;
}

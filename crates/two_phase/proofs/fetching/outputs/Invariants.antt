use Rattle.std.proofs.Common.{drop}
use Rattle.two_phase.specs.Calls.{ReaderCall}
use Rattle.two_phase.proofs.Outputs.{Gathered}
use Rattle.two_phase.proofs.fetching.outputs.Given as goal

abbrev pub invariant-outputs : goal.invariant-outputs
invariant-outputs g l = record {
  gathered : Gathered (g.R.KeepReader.held l.reader) l.outputs (drop l.output-index l.outputs) l.writes;
  reads : ReaderCall (g.R.KeepReader.held l.fn.reader) (g.R.KeepReader.held l.reader) (g.R.KeepReader.bound l.fn.reader) (g.R.KeepReader.bound l.reader)
      (g.R.KeepReader.faults l.fn.reader) (g.R.KeepReader.faults l.reader) ⊥;
}

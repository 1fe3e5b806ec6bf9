use Rattle.two_phase.specs.Calls.{ReaderCall}
use Rattle.miss_reasons.proofs.nearest.descriptions.Given as goal

abbrev pub invariant-names : goal.invariant-names
invariant-names g l =
    ReaderCall (g.R.KeepReader.held l.fn.reader) (g.R.KeepReader.held l.reader) (g.R.KeepReader.bound l.fn.reader) (g.R.KeepReader.bound l.reader)
    (g.R.KeepReader.faults l.fn.reader) (g.R.KeepReader.faults l.reader) ⊥

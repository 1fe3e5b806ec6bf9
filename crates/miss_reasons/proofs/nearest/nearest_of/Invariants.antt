use Rattle.two_phase.specs.Calls.{ReaderCall}
use Rattle.miss_reasons.specs.Finding.{IsHeldBest, Told}
use Rattle.miss_reasons.proofs.nearest.nearest_of.Given as goal

abbrev pub invariant-digests : goal.invariant-digests
invariant-digests g l = record {
  held : Told (g.R.KeepReader.held l.reader) (λ S b. IsHeldBest S b) l.best;
  reads : ReaderCall (g.R.KeepReader.held l.fn.reader) (g.R.KeepReader.held l.reader) (g.R.KeepReader.bound l.fn.reader) (g.R.KeepReader.bound l.reader)
      (g.R.KeepReader.faults l.fn.reader) (g.R.KeepReader.faults l.reader) ⊥;
}

use Rattle.std.proofs.Common.{◌≡◌, Some, take}
use Rattle.bx_io.specs.Holdings.{Holdings}
use Rattle.two_phase.specs.Calls.{ReaderCall}
use Rattle.miss_reasons.specs.Reasons.{AreNoFits}
use Rattle.miss_reasons.proofs.selectors.no_fits.Given as goal

abbrev pub invariant-selectors : goal.invariant-selectors
invariant-selectors g l = record {
  fits : (S : Holdings) → g.R.KeepReader.held l.reader ≡ Some S
      → AreNoFits S l.desc (g.V.View.answers l.fn.view) (take l.selector-index l.list) l.why.items;
  same : g.V.View.answers l.view ≡ g.V.View.answers l.fn.view;
  reads : ReaderCall (g.R.KeepReader.held l.fn.reader) (g.R.KeepReader.held l.reader) (g.R.KeepReader.bound l.fn.reader) (g.R.KeepReader.bound l.reader)
      (g.R.KeepReader.faults l.fn.reader) (g.R.KeepReader.faults l.reader) ⊥;
}

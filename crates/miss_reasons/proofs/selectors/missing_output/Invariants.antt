use Rattle.std.proofs.Common.{◌≡◌, Some, take}
use Rattle.std.specs.List.{AllByRecursion}
use Rattle.bx_io.specs.Holdings.{Holdings}
use Rattle.two_phase.specs.Calls.{ReaderCall}
use Rattle.miss_reasons.specs.Finding.{HasContent}
use Rattle.miss_reasons.proofs.selectors.missing_output.Given as goal

abbrev pub invariant-outputs : goal.invariant-outputs
invariant-outputs g l = record {
  held : (S : Holdings) → g.R.KeepReader.held l.reader ≡ Some S → AllByRecursion (HasContent S) (take l.output-index l.outputs);
  reads : ReaderCall (g.R.KeepReader.held l.fn.reader) (g.R.KeepReader.held l.reader) (g.R.KeepReader.bound l.fn.reader) (g.R.KeepReader.bound l.reader)
      (g.R.KeepReader.faults l.fn.reader) (g.R.KeepReader.faults l.reader) ⊥;
}

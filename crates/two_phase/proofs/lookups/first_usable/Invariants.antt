use Rattle.std.proofs.Common.{◌≡◌, drop}
use Rattle.two_phase.specs.Calls.{ReaderCall}
use Rattle.two_phase.specs.Lookups.{Onward}
use Rattle.two_phase.proofs.lookups.first_usable.Given as goal

abbrev pub invariant-selectors : goal.invariant-selectors
invariant-selectors g l = record {
  onward : Onward (g.R.KeepReader.held l.reader) l.desc (g.V.View.answers l.fn.view) l.list (drop l.selector-index l.list);
  same : g.V.View.answers l.view ≡ g.V.View.answers l.fn.view;
  reads : ReaderCall (g.R.KeepReader.held l.fn.reader) (g.R.KeepReader.held l.reader) (g.R.KeepReader.bound l.fn.reader) (g.R.KeepReader.bound l.reader)
      (g.R.KeepReader.faults l.fn.reader) (g.R.KeepReader.faults l.reader) ⊥;
}

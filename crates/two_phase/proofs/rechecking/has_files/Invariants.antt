use Rattle.std.proofs.Common.{drop}
use Rattle.two_phase.specs.Calls.{ReaderCall}
use Rattle.two_phase.proofs.Kept.{LeavesToFind}
use Rattle.two_phase.proofs.rechecking.has_files.Given as goal

abbrev pub invariant-files : goal.invariant-files
invariant-files g l = record {
  leaves : LeavesToFind (g.R.KeepReader.held l.reader) l.files (drop l.file-index l.files);
  reads : ReaderCall (g.R.KeepReader.held l.fn.reader) (g.R.KeepReader.held l.reader) (g.R.KeepReader.bound l.fn.reader) (g.R.KeepReader.bound l.reader)
      (g.R.KeepReader.faults l.fn.reader) (g.R.KeepReader.faults l.reader) ⊥;
}

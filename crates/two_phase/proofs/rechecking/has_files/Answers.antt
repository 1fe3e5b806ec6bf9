use Rattle.std.proofs.Common.{subst}
use Rattle.memo_format.specs.StoreNames.{HoldsBlob}
use Rattle.two_phase.proofs.Kept.{files_at, files_past, files_start}
use Rattle.two_phase.proofs.Used.{ok_no_err, reads_none, reads_on}
use Rattle.two_phase.proofs.rechecking.has_files.Goals as goal

pub files-init : goal.files-init
files-init g c = record {
  leaves = files_start (g.R.KeepReader.held c.args.reader.now) c.args.files.now;
  reads = reads_none (g.R.KeepReader.held c.args.reader.now) (g.R.KeepReader.bound c.args.reader.now) (g.R.KeepReader.faults c.args.reader.now) ⊥ (λ e. e);
}

pub files-preserved : goal.files-preserved
files-preserved g c = record {
  leaves = files_at (g.R.KeepReader.held c.files.reader) (g.R.KeepReader.held c.has_content.new.reader) c.args.files.now c.files.file-index c.file-item.result c.files-test.true
      c.file-item.is c.in_ok-held.ensures.reader.held_is (λ S told. subst (HoldsBlob S) c.bytes.ensures (c.in_ok-held.ensures.held c.if-not-held.false S told))
      c.files.invariant.leaves;
  reads = reads_on _ _ _ _ _ _ _ _ _ _ (ok_no_err _ _) c.files.invariant.reads c.in_ok-held.ensures.reader;
}

pub returns-clause-held : goal.returns-clause-held
returns-clause-held g c = λ yes. files_past (g.R.KeepReader.held c.files.reader) c.args.files.now c.files.file-index c.files-test.false c.files.invariant.leaves

use Rattle.std.proofs.Common.{refl}
use Rattle.two_phase.proofs.Recorded.{file_more}
use Rattle.two_phase.proofs.recording.add_files.Goals as goal

pub files-preserved : goal.files-preserved
files-preserved c =
    file_more c.args.contents.now.items c.files.contents.items c.add.new.contents.items c.args.files.now c.files.file-index c.file-item.result c.file-item.result.blob
    c.files-test.true c.file-item.is c.files.invariant refl c.in_ok-add.ensures

use Rattle.std.proofs.Common.{◌≡◌, ◌++◌, take}
use Rattle.pip_model_types.specs.Made.{made_files}
use Rattle.run_record.specs.Collisions.{contents_of}
use Rattle.two_phase.proofs.recording.add_files.Given as goal

abbrev pub invariant-files : goal.invariant-files
invariant-files l = l.contents.items ≡ l.fn.contents.items ++ contents_of (made_files (take l.file-index l.files))

use Rattle.std.proofs.Common.{◌≡◌, drop}
use Rattle.pip_model_types.specs.Made.{made_files}
use Rattle.one_thread.specs.OneThread.{put_all}
use Rattle.one_thread.proofs.gathering.put_files.Given as goal

abbrev pub invariant-made : goal.invariant-made
invariant-made l = put_all l.files.entries (made_files (drop l.file-index l.made)) ≡ put_all l.initial.files.entries (made_files l.made)

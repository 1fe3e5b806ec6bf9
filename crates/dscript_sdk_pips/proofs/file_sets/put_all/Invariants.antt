use Rattle.std.proofs.Common.{◌≡◌, [], drop}
use Rattle.std.specs.Prelude.{fold}
use Rattle.dscript_sdk_pips.specs.FileSets.{put_file}
use Rattle.dscript_sdk_pips.proofs.file_sets.put_all.Given as goal

abbrev pub invariant-files : goal.invariant-files
invariant-files l = fold put_file l.kept.entries (drop l.file-index l.files) ≡ fold put_file [] l.files

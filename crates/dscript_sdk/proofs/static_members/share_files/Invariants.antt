use Rattle.std.proofs.Common.{◌≡◌, ◌++◌, drop}
use Rattle.dscript_sdk.proofs.static_members.share_files.Given as goal

abbrev pub invariant-files : goal.invariant-files
invariant-files l = l.copy.items ++ drop l.file-index l.files ≡ l.files

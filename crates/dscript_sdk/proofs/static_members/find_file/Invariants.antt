use Rattle.std.proofs.Common.{◌≡◌, drop}
use Rattle.dscript_sdk.specs.StaticMembers.{file_with}
use Rattle.dscript_sdk.proofs.static_members.find_file.Given as goal

abbrev pub invariant-files : goal.invariant-files
invariant-files l = file_with l.path (drop l.file-index l.files) ≡ file_with l.path l.files

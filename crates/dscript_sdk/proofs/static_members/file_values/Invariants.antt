use Rattle.std.proofs.Common.{◌≡◌, ◌++◌, drop, map}
use Rattle.dscript_value.specs.Plain as plain
use Rattle.dscript_value.specs.Plain.{plain_of}
use Rattle.dscript_sdk.proofs.static_members.file_values.Given as goal

abbrev pub invariant-files : goal.invariant-files
invariant-files l =
    map plain_of l.values.items ++ map plain.File (drop l.file-index l.files) ≡ map plain.File l.files

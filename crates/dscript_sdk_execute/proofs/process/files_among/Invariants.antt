use Rattle.std.proofs.Common.{◌≡◌, ◌++◌, drop}
use Rattle.std.specs.List.{filter_map}
use Rattle.dscript_sdk_execute.specs.Execute.{taken_file}
use Rattle.dscript_sdk_execute.proofs.process.files_among.Given as goal

abbrev pub invariant-inputs : goal.invariant-inputs
invariant-inputs l = l.files.items ++ filter_map taken_file (drop l.input-index l.inputs) ≡ filter_map taken_file l.inputs

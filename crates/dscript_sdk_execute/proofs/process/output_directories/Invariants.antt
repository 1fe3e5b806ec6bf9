use Rattle.std.proofs.Common.{◌≡◌, ◌++◌, drop}
use Rattle.std.specs.List.{filter_map}
use Rattle.dscript_sdk_execute.specs.Execute.{directory_output}
use Rattle.dscript_sdk_execute.proofs.process.output_directories.Given as goal

abbrev pub invariant-outputs : goal.invariant-outputs
invariant-outputs l = l.dirs.items ++ filter_map directory_output (drop l.output-index l.outputs) ≡ filter_map directory_output l.outputs

use Rattle.std.proofs.Common.{◌≡◌, ◌++◌, drop}
use Rattle.std.specs.List.{filter_map}
use Rattle.dscript_sdk_execute.specs.Execute.{file_output}
use Rattle.dscript_sdk_execute.proofs.process.output_files.Given as goal

abbrev pub invariant-outputs : goal.invariant-outputs
invariant-outputs l = l.paths.items ++ filter_map file_output (drop l.output-index l.outputs) ≡ filter_map file_output l.outputs

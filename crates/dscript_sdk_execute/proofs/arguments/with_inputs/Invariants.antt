use Rattle.std.proofs.Common.{◌≡◌, ◌++◌, drop}
use Rattle.std.specs.List.{filter_map}
use Rattle.dscript_sdk_execute.specs.Execute.{artifacts_of, input_of}
use Rattle.dscript_sdk_execute.proofs.arguments.with_inputs.Given as goal

abbrev pub invariant-arguments : goal.invariant-arguments
invariant-arguments l =
    l.inputs.items ++ filter_map input_of (artifacts_of (drop l.argument-index l.arguments))
    ≡ l.fn.dependencies.items ++ filter_map input_of (artifacts_of l.arguments)

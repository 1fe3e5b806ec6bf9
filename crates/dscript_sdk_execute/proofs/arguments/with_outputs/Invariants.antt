use Rattle.std.proofs.Common.{◌≡◌, ◌++◌, drop}
use Rattle.std.specs.List.{filter_map}
use Rattle.dscript_sdk_execute.specs.Execute.{artifacts_of, made_output}
use Rattle.dscript_sdk_execute.proofs.arguments.with_outputs.Given as goal

abbrev pub invariant-arguments : goal.invariant-arguments
invariant-arguments l =
    l.all.items ++ filter_map made_output (artifacts_of (drop l.argument-index l.arguments))
    ≡ l.fn.outputs.items ++ filter_map made_output (artifacts_of l.arguments)

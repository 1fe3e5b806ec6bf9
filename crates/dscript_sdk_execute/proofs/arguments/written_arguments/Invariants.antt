use Rattle.std.proofs.Common.{◌≡◌, ◌++◌, drop}
use Rattle.std.specs.List.{filter_map}
use Rattle.dscript_sdk_execute.specs.Execute.{written}
use Rattle.dscript_sdk_execute.proofs.arguments.written_arguments.Given as goal

abbrev pub invariant-arguments : goal.invariant-arguments
invariant-arguments l =
    l.texts.items ++ filter_map written (drop l.argument-index l.arguments) ≡ filter_map written l.arguments

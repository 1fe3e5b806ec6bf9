use Rattle.std.proofs.Common.{◌≡◌, ◌++◌, drop, map, Ok}
use Rattle.dscript_value.specs.Plain.{plain_of}
use Rattle.dscript_sdk_values.specs.Kinds.{each_in}
use Rattle.dscript_sdk_values.specs.Outcomes.{◌>>=◌}
use Rattle.dscript_sdk_execute.specs.ExecuteObject.{variable_in}
use Rattle.dscript_sdk_execute.proofs.variables.read_each_variable.Given as goal

abbrev pub invariant-values : goal.invariant-values
invariant-values l =
    (each_in variable_in (map plain_of (drop l.value-index l.values)) >>= λ rest. Ok (l.pairs.items ++ rest))
    ≡ each_in variable_in (map plain_of l.values)

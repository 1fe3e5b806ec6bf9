use Rattle.std.proofs.Common.{◌≡◌, ◌++◌, drop, map, Ok}
use Rattle.dscript_value.specs.Plain.{plain_of}
use Rattle.dscript_sdk_values.specs.Kinds.{each_in}
use Rattle.dscript_sdk_values.specs.Outcomes.{◌>>=◌}
use Rattle.dscript_sdk_values.proofs.reading.read_each.Given as goal

abbrev pub invariant-values : goal.invariant-values
invariant-values g l =
    (each_in g.T.FromValue.reads (map plain_of (drop l.value-index l.values)) >>= λ rest. Ok (l.read.items ++ rest))
    ≡ each_in g.T.FromValue.reads (map plain_of l.values)

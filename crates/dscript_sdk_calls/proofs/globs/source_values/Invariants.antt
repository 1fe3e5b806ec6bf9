use Rattle.std.proofs.Common.{◌≡◌, ◌++◌, drop, map}
use Rattle.dscript_value.specs.Plain.{plain_of}
use Rattle.dscript_sdk_calls.specs.Globs.{source_values}
use Rattle.dscript_sdk_calls.proofs.globs.source_values.Given as goal

abbrev pub invariant-paths : goal.invariant-paths
invariant-paths l =
    map plain_of l.values.items ++ source_values (drop l.path-index l.paths) ≡ source_values l.paths

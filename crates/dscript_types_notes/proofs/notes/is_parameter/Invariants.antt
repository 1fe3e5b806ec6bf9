use Rattle.std.proofs.Common.{◌≡◌, drop}
use Rattle.std.specs.List.{list_any}
use Rattle.std.specs.Str.{bytes_eq}
use Rattle.dscript_types_notes.proofs.notes.is_parameter.Given as goal

abbrev pub invariant-parameters : goal.invariant-parameters
invariant-parameters l =
    list_any (bytes_eq l.first) (drop l.parameter-index l.parameters) ≡ list_any (bytes_eq l.first) l.parameters

use Rattle.std.proofs.Common.{◌≡◌, ◌+◌, ◌^◌, ◌<◌, drop, map}
use Rattle.dscript_types_data.specs.Views.{at_most, field_data}
use Rattle.dscript_types_meaning.specs.Sizes.{fields_nodes}
use Rattle.dscript_types_meaning.specs.Types.{to_fields}
use Rattle.dscript_types_data.proofs.types.nodes_of_fields.Given as goal

abbrev pub invariant-fields : goal.invariant-fields
invariant-fields l =
    (l.nodes < 2 ^ 32)
    × (at_most (l.nodes + fields_nodes (to_fields (map field_data (drop l.field-index l.fields))))
    ≡ at_most (fields_nodes (to_fields (map field_data l.fields))))

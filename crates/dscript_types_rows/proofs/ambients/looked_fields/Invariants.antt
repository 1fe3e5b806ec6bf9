use Rattle.std.proofs.Common.{◌≡◌, ◌++◌, drop, filter, map, not}
use Rattle.dscript_types_data.specs.Views.{field_data}
use Rattle.dscript_types_meaning.specs.Ambients.{is_free_field}
use Rattle.dscript_types_rows.proofs.ambients.looked_fields.Given as goal

abbrev pub invariant-fields : goal.invariant-fields
invariant-fields l =
    map field_data l.kept.items ++ filter (λ f. not (is_free_field f)) (map field_data (drop l.field-index l.fields))
    ≡ filter (λ f. not (is_free_field f)) (map field_data l.fields)

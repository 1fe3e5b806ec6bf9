use Rattle.std.proofs.Common.{◌≡◌, ◌++◌, drop, map}
use Rattle.dscript_types_data.specs.Views.{field_data}
use Rattle.dscript_types_meaning.specs.Types.{FieldData}
use Rattle.dscript_types_rows.proofs.access.types_of.Given as goal

abbrev pub invariant-fields : goal.invariant-fields
invariant-fields l =
    l.types.items ++ map (λ (f : FieldData). f.type_data) (map field_data (drop l.field-index l.fields))
    ≡ map (λ (f : FieldData). f.type_data) (map field_data l.fields)

use Rattle.std.proofs.Common.{◌≡◌, ◌++◌, drop, map}
use Rattle.dscript_types_data.specs.Views.{field_data}
use Rattle.dscript_types_notes.proofs.notes.shared_fields.Given as goal

abbrev pub invariant-fields : goal.invariant-fields
invariant-fields l =
    map field_data l.copy.items ++ map field_data (drop l.field-index l.fields) ≡ map field_data l.fields

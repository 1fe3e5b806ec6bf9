use Rattle.std.proofs.Common.{◌≡◌, drop, map}
use Rattle.dscript_types_data.specs.Views.{field_data}
use Rattle.dscript_types_meaning.specs.Fits.{field_named}
use Rattle.dscript_types_data.proofs.objects.field_named.Given as goal

abbrev pub invariant-fields : goal.invariant-fields
invariant-fields l =
    field_named (map field_data (drop l.field-index l.fields)) l.name ≡ field_named (map field_data l.fields) l.name

use Rattle.std.proofs.Common.{◌≡◌, map}
use Rattle.dscript_types_data.specs.Views.{field_data}
use Rattle.dscript_types_meaning.specs.Objects.{write_fields}
use Rattle.dscript_types_data.proofs.objects.write_fields.Given as goal

abbrev pub invariant-fields : goal.invariant-fields
invariant-fields l =
    write_fields (map field_data l.done.items) (map field_data l.field-iterator.rest.items)
    ≡ write_fields (map field_data l.fn.done.items) (map field_data l.initial.field-iterator.rest.items)

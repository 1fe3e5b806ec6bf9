-- Fields as the row of an object type.
use Rattle.std.specs.Prelude.{List, map}
use Rattle.dscript_types_data.specs.declared.types.Field.{Field}
use Rattle.dscript_types_data.specs.Views.{field_data}
use Rattle.dscript_types_meaning.specs.Types.{FieldRow, to_fields}

abbrev pub row_of : List Field → FieldRow
row_of fields = to_fields (map field_data fields)

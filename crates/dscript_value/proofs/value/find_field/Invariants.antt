use Rattle.std.proofs.Common.{◌≡◌, map, drop}
use Rattle.dscript_value.specs.Depths.{field_at}
use Rattle.dscript_value.specs.Plain.{plain_field}
use Rattle.dscript_value.proofs.value.find_field.Given as goal

abbrev pub invariant-fields : goal.invariant-fields
invariant-fields l = field_at (map plain_field (drop l.field-index l.fields)) l.name ≡ field_at (map plain_field l.fields) l.name

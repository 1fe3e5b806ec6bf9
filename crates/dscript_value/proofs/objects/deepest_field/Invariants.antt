use Rattle.std.proofs.Common.{◌≡◌, max, map, drop}
use Rattle.dscript_value.specs.Depths.{greatest_depth, values_of}
use Rattle.dscript_value.specs.Plain.{plain_field}
use Rattle.dscript_value.proofs.objects.deepest_field.Given as goal

abbrev pub invariant-fields : goal.invariant-fields
invariant-fields l =
    max l.depth (greatest_depth (values_of (map plain_field (drop l.field-index l.fields)))) ≡ greatest_depth (values_of (map plain_field l.fields))

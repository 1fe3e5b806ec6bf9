use Rattle.std.proofs.Common.{◌≡◌, drop, map}
use Rattle.dscript_value.specs.Plain.{plain_field}
use Rattle.dscript_sdk_values.specs.Objects.{has_only}
use Rattle.dscript_sdk_values.proofs.objects.has_only.Given as goal
use Rattle.bx_tree.specs.Lent.{texts_now}

abbrev pub invariant-fields : goal.invariant-fields
invariant-fields l =
    has_only (texts_now l.required) (texts_now l.optional) (map plain_field (drop l.field-index l.fields))
    ≡ has_only (texts_now l.required) (texts_now l.optional) (map plain_field l.fields)

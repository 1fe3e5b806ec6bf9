-- What `...` adds to a list or an object.
use Rattle.std.specs.Prelude.{nat_le, if◌then◌else◌, List, [], ◌++◌, length, Ok, Err}
use Rattle.dscript_value.specs.Plain as plain
use Rattle.dscript_value.specs.Plain.{Plain, PlainField}
use Rattle.dscript_sdk_values.specs.declared.fault.SdkFault.TheVariants.{Range}
use Rattle.dscript_sdk_values.specs.declared.limits.TheConstants.{MAX_LIST_ITEMS}
use Rattle.dscript_sdk_values.specs.Kinds.{items_in, object_in}
use Rattle.dscript_sdk_values.specs.Outcomes.{Outcome, ◌>>=◌}

abbrev pub within_limit : List Plain → Outcome (List Plain)
within_limit items = if nat_le (length items) MAX_LIST_ITEMS then Ok items else Err Range

-- these items and those of a list, which together must be few enough
unfoldable pub with_items_of : List Plain → Plain → Outcome (List Plain)
with_items_of done list = items_in list >>= λ items. within_limit (done ++ items)

-- the fields of an object; undefined has none
unfoldable pub spread_fields : Plain → Outcome (List PlainField)
spread_fields plain.Undefined = Ok []
spread_fields v = object_in v

-- these fields and those of an object
unfoldable pub with_fields_of : List PlainField → Plain → Outcome (List PlainField)
with_fields_of done v = spread_fields v >>= λ fields. Ok (done ++ fields)

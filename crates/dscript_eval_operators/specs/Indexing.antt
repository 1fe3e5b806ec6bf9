-- A value and an index in brackets.
use Rattle.std.specs.Prelude.{ℤ, pos, negsuc, slice_get, unwrap_or, List, Ok, Err}
use Rattle.dscript_value.specs.Depths.{field_at}
use Rattle.dscript_value.specs.Plain as plain
use Rattle.dscript_value.specs.Plain.{Plain, item_list, member_list}
use Rattle.dscript_sdk_values.specs.declared.fault.SdkFault.TheVariants.{Kind, Range}
use Rattle.dscript_sdk_values.specs.Outcomes.{Outcome, unless_none}

abbrev pub item_at : List Plain → ℤ → Outcome Plain
item_at items (pos n) = unless_none Range (slice_get items n)
item_at items (negsuc n) = Err Range

-- the item of a list at a number, or the field of an object with a name, undefined where there is none
unfoldable pub indexed : Plain → Plain → Outcome Plain
indexed (plain.Listed depth items) (plain.Number n) = item_at (item_list items) n
indexed (plain.Object depth members) (plain.Text name) =
    Ok (unwrap_or (field_at (member_list members) name) plain.Undefined)
indexed _ _ = Err Kind

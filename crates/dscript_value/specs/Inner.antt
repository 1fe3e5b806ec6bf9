-- What the parts of a list are seen as, and what holds of them.
use Rattle.std.specs.Prelude.{◌≡◌, ◌+◌, ◌<◌, ◌^◌, length, ◌++◌}
use Rattle.std.specs.Rc.{rc_value}
use Rattle.dscript_value.specs.declared.value.Parts.{Parts}
use Rattle.dscript_value.specs.declared.value.Parts.TheVariants.{Flat, Joined}
use Rattle.dscript_value.specs.declared.value.Join.{Join}
use Rattle.dscript_value.specs.Data.{PlainValues, item_list, to_items}
use Rattle.dscript_value.specs.Depths.{IsDeep}

-- two lists, one after another
abbrev pub joined_items : Join → PlainValues
joined_items j = record { depth = j.depth; items = to_items (item_list j.left.items ++ item_list j.right.items) }

abbrev pub values_of_parts : Parts → PlainValues
values_of_parts (Flat values) = values
values_of_parts (Joined j) = joined_items (rc_value j)

-- both lists have items, which are counted, and the depth is the greater one
pub record IsJoin (j : Join) : Type 0 where
  pub left_some : 0 < length (item_list j.left.items)
  pub right_some : 0 < length (item_list j.right.items)
  pub count : j.count ≡ length (item_list j.left.items) + length (item_list j.right.items)
  pub countable : j.count < 2 ^ 63
  pub deep : IsDeep (joined_items j)

abbrev pub IsWhole : Parts → Type 0
IsWhole (Flat values) = IsDeep values
IsWhole (Joined j) = IsJoin (rc_value j)

-- two lists with items that are a list one after another
pub record AreHalves (left right whole : PlainValues) : Type 0 where
  pub left_some : 0 < length (item_list left.items)
  pub right_some : 0 < length (item_list right.items)
  pub items : item_list whole.items ≡ item_list left.items ++ item_list right.items

-- The items of a list that is being made.
use Rattle.std.specs.Prelude.{List, [], ◌++◌, map, Option, Some, None}
use Rattle.dscript_value.specs.declared.growing.GrowingList.{GrowingList}
use Rattle.dscript_value.specs.Plain.{Plain, PlainValues, item_list, plain_of}

abbrev pub items_before : Option PlainValues → List Plain
items_before None = []
items_before (Some values) = item_list values.items

-- the items that were taken over, and those after them
abbrev pub grown_items : GrowingList → List Plain
grown_items list = items_before list.before ++ map plain_of list.last.items

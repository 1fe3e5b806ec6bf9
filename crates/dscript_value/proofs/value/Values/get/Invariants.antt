use Rattle.std.proofs.Common.{◌≡◌, length, slice_get}
use Rattle.dscript_value.specs.Plain.{item_list}
use Rattle.dscript_value.proofs.value.Values.get.Given as goal

abbrev pub invariant-down : goal.invariant-down
invariant-down l = slice_get (item_list l.here.items) l.at ≡ slice_get (item_list l.self.items) l.fn.at

abbrev pub decreases-down : goal.decreases-down
decreases-down l = length (item_list l.here.items)

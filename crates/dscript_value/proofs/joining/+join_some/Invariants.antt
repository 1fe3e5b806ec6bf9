use Rattle.std.proofs.Common.{◌+◌, length}
use Rattle.dscript_value.specs.Plain.{item_list}
use Rattle.dscript_value.proofs.joining.+join_some.Given as goal

abbrev pub decreases-join_some : goal.decreases-join_some
decreases-join_some l = length (item_list l.left.items) + length (item_list l.right.items)

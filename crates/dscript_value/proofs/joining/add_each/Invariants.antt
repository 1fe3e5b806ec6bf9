use Rattle.std.proofs.Common.{◌≡◌, ◌++◌, drop, map}
use Rattle.dscript_value.specs.Plain.{plain_of}
use Rattle.dscript_value.proofs.joining.add_each.Given as goal

abbrev pub invariant-items : goal.invariant-items
invariant-items l =
    map plain_of l.items.items ++ map plain_of (drop l.item-index l.more)
    ≡ map plain_of l.fn.items.items ++ map plain_of l.more

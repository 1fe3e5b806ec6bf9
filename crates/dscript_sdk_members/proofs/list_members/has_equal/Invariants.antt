use Rattle.std.proofs.Common.{◌≡◌, drop, map}
use Rattle.dscript_value.specs.Plain.{plain_of}
use Rattle.dscript_sdk_members.specs.ListMembers.{has_equal}
use Rattle.dscript_sdk_members.proofs.list_members.has_equal.Given as goal

abbrev pub invariant-items : goal.invariant-items
invariant-items l =
    has_equal (map plain_of (drop l.item-index l.items)) (plain_of l.value) ≡ has_equal (map plain_of l.items) (plain_of l.value)

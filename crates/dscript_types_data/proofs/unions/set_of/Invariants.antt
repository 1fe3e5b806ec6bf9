use Rattle.std.proofs.Common.{◌≡◌, length, map}
use Rattle.dscript_types_data.specs.Views.{member_data}
use Rattle.dscript_types_data.proofs.Sets.{set_over}
use Rattle.dscript_types_meaning.specs.Unions.{set_of}
use Rattle.dscript_types_data.proofs.unions.set_of.Given as goal

abbrev pub invariant-members : goal.invariant-members
invariant-members l =
    set_over (map member_data l.set.keys) (map member_data l.members.items) ≡ set_of (map member_data l.fn.members.items)

abbrev pub decreases-members : goal.decreases-members
decreases-members l = length l.members.items

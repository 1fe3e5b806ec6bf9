use Rattle.std.proofs.Common.{◌≡◌, length, map}
use Rattle.dscript_types_data.specs.Views.{member_data}
use Rattle.dscript_types_meaning.specs.Access.{accessed, property_of}
use Rattle.dscript_types_meaning.specs.Operators.{at_each}
use Rattle.dscript_types_rows.proofs.Over.{at_each_over}
use Rattle.dscript_types_rows.proofs.access.member_type.Given as goal

abbrev pub invariant-members : goal.invariant-members
invariant-members l = at_each_over (property_of l.name) (map member_data l.left) l.answer ≡ at_each (property_of l.name) (accessed l.t)

abbrev pub decreases-members : goal.decreases-members
decreases-members l = length l.left

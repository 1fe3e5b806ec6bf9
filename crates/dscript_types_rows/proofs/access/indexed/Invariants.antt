use Rattle.std.proofs.Common.{◌≡◌, length, map}
use Rattle.dscript_types_data.specs.Views.{member_data}
use Rattle.dscript_types_meaning.specs.Access.{at_index}
use Rattle.dscript_types_meaning.specs.Operators.{at_each}
use Rattle.dscript_types_meaning.specs.Types.{members_of}
use Rattle.dscript_types_rows.proofs.Over.{at_each_over}
use Rattle.dscript_types_rows.proofs.access.indexed.Given as goal

abbrev pub invariant-members : goal.invariant-members
invariant-members l = at_each_over (at_index l.index) (map member_data l.left) l.answer ≡ at_each (at_index l.index) (members_of l.t)

abbrev pub decreases-members : goal.decreases-members
decreases-members l = length l.left

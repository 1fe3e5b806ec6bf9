use Rattle.std.proofs.Common.{◌≡◌, length, map}
use Rattle.dscript_types_data.specs.Views.{member_data}
use Rattle.dscript_types_meaning.specs.Operators.{at_each, sum_of}
use Rattle.dscript_types_rows.proofs.Over.{at_each_over}
use Rattle.dscript_types_rows.proofs.operators.sums_of.Given as goal

abbrev pub invariant-members : goal.invariant-members
invariant-members l =
    at_each_over (sum_of (member_data l.a)) (map member_data l.left) l.answer
    ≡ at_each (sum_of (member_data l.a)) (map member_data l.members)

abbrev pub decreases-members : goal.decreases-members
decreases-members l = length l.left

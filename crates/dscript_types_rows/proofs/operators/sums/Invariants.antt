use Rattle.std.proofs.Common.{◌≡◌, length, map}
use Rattle.dscript_types_data.specs.Views.{member_data}
use Rattle.dscript_types_meaning.specs.Operators.{at_each, at_pairs, sum_of}
use Rattle.dscript_types_meaning.specs.Types.{members_of}
use Rattle.dscript_types_rows.proofs.Over.{at_each_over}
use Rattle.dscript_types_rows.proofs.operators.sums.Given as goal

abbrev pub invariant-members : goal.invariant-members
invariant-members l =
    at_each_over (λ m. at_each (sum_of m) (members_of l.u)) (map member_data l.left) l.answer ≡ at_pairs sum_of l.t l.u

abbrev pub decreases-members : goal.decreases-members
decreases-members l = length l.left

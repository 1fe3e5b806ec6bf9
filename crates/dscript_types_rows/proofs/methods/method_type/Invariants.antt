use Rattle.std.proofs.Common.{◌≡◌, length, map}
use Rattle.dscript_types_data.specs.Views.{member_data}
use Rattle.dscript_types_meaning.specs.Access.{accessed, method_named}
use Rattle.dscript_types_meaning.specs.Operators.{at_each}
use Rattle.dscript_types_rows.proofs.Over.{at_each_over}
use Rattle.dscript_types_rows.proofs.methods.method_type.Given as goal

abbrev pub invariant-members : goal.invariant-members
invariant-members l = at_each_over (method_named l.called l.given) (map member_data l.left) l.answer ≡ at_each (method_named l.called l.given) (accessed l.t)

abbrev pub decreases-members : goal.decreases-members
decreases-members l = length l.left

use Rattle.std.proofs.Common.{◌≡◌}
use Rattle.dscript_types_known.specs.Views.{branch_at}
use Rattle.dscript_types_known.proofs.locals.local_in.Given as goal

abbrev pub invariant-down : goal.invariant-down
invariant-down l = branch_at l.here l.left ≡ branch_at l.root l.number

abbrev pub decreases-down : goal.decreases-down
decreases-down l = l.left

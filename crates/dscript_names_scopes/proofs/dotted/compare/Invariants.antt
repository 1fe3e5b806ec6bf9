use Rattle.std.proofs.Common.{◌≡◌, length}
use Rattle.dscript_names_scopes.specs.Orders.{parts_cmp}
use Rattle.dscript_names_scopes.proofs.dotted.compare.Given as goal

abbrev pub invariant-parts : goal.invariant-parts
invariant-parts l = parts_cmp l.left l.right ≡ parts_cmp l.fn.names l.fn.others

abbrev pub decreases-parts : goal.decreases-parts
decreases-parts l = length l.left

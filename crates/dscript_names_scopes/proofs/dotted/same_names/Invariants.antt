use Rattle.std.proofs.Common.{◌≡◌, length}
use Rattle.bx_tree.specs.Paths.{same_path}
use Rattle.dscript_names_scopes.proofs.dotted.same_names.Given as goal

abbrev pub invariant-parts : goal.invariant-parts
invariant-parts l = same_path l.left l.right ≡ same_path l.fn.names l.fn.others

abbrev pub decreases-parts : goal.decreases-parts
decreases-parts l = length l.left

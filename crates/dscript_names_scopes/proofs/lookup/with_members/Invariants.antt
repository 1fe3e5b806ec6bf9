use Rattle.std.proofs.Common.{◌≡◌, ◌∷◌, ◌++◌, map, length}
use Rattle.dscript_ast.specs.ExprTree.{to_parts}
use Rattle.dscript_ast.specs.Views.{part_tree}
use Rattle.dscript_names_scopes.specs.Lookup.{members_at}
use Rattle.dscript_names_scopes.proofs.lookup.with_members.Given as goal

abbrev pub invariant-members : goal.invariant-members
invariant-members l =
    l.names.items ++ members_at (to_parts (map part_tree l.left))
    ≡ l.first ∷ members_at (to_parts (map part_tree l.fn.parts))

abbrev pub decreases-members : goal.decreases-members
decreases-members l = length l.left

use Rattle.std.proofs.Common.{◌≡◌, drop, map}
use Rattle.dscript_ast.specs.Views.{prop_tree}
use Rattle.dscript_names_workspace.specs.Objects.{are_once}
use Rattle.dscript_names_workspace.proofs.object.are_once.Given as goal
use Rattle.bx_tree.specs.Lent.{texts_now}

abbrev pub invariant-names : goal.invariant-names
invariant-names l =
    are_once (texts_now (drop l.name-index l.names)) (map prop_tree l.props)
    ≡ are_once (texts_now l.names) (map prop_tree l.props)

use Rattle.std.proofs.Common.{◌≡◌, drop, map}
use Rattle.dscript_ast.specs.Views.{prop_tree}
use Rattle.dscript_names_workspace.specs.Objects.{are_known}
use Rattle.dscript_names_workspace.proofs.object.are_known.Given as goal
use Rattle.bx_tree.specs.Lent.{texts_now}

abbrev pub invariant-props : goal.invariant-props
invariant-props l =
    are_known (texts_now l.names) (map prop_tree (drop l.prop-index l.props))
    ≡ are_known (texts_now l.names) (map prop_tree l.props)

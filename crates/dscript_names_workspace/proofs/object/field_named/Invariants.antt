use Rattle.std.proofs.Common.{◌≡◌, map, drop}
use Rattle.dscript_ast.specs.Views.{prop_tree}
use Rattle.dscript_names_workspace.specs.Objects.{field_named}
use Rattle.dscript_names_workspace.proofs.object.field_named.Given as goal

abbrev pub invariant-props : goal.invariant-props
invariant-props l =
    field_named l.name (map prop_tree (drop l.prop-index l.props))
    ≡ field_named l.name (map prop_tree l.props)

use Rattle.std.proofs.Common.{◌≡◌, drop}
use Rattle.std.specs.List.{list_any}
use Rattle.dscript_ast.specs.Views.{prop_tree}
use Rattle.dscript_names_workspace.specs.Objects.{has_name}
use Rattle.dscript_names_workspace.proofs.object.is_known.Given as goal
use Rattle.bx_tree.specs.Lent.{texts_now}

abbrev pub invariant-names : goal.invariant-names
invariant-names l =
    list_any (λ name. has_name name (prop_tree l.prop)) (texts_now (drop l.name-index l.names))
    ≡ list_any (λ name. has_name name (prop_tree l.prop)) (texts_now l.names)

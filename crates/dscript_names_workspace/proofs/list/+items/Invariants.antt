use Rattle.std.proofs.Common.{◌≡◌, ◌++◌, map, drop}
use Rattle.dscript_ast.specs.ExprTree.{to_elements}
use Rattle.dscript_ast.specs.Views.{element_tree}
use Rattle.dscript_names_workspace.specs.Lists.{items_in}
use Rattle.dscript_names_workspace.specs.ConfigViews.{item_trees}
use Rattle.dscript_names_workspace.proofs.list.+items.Given as goal

abbrev pub invariant-push_items-elements : goal.invariant-push_items-elements
invariant-push_items-elements l =
    item_trees l.items.items ++ items_in (to_elements (map element_tree (drop l.element-index l.element-items)))
    ≡ item_trees l.initial.items.items ++ items_in (to_elements (map element_tree l.element-items))

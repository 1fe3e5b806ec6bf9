use Rattle.std.proofs.Common.{◌≡◌, ◌++◌, map, take}
use Rattle.dscript_ast.specs.FileTree.{to_marked}
use Rattle.dscript_ast.specs.Views.{marked_tree}
use Rattle.dscript_names_scopes.specs.Declarations.{all_declared}
use Rattle.dscript_names.proofs.collecting.+decls.Given as goal

abbrev pub invariant-add_all-decls : goal.invariant-add_all-decls
invariant-add_all-decls l =
    l.decls.items ≡ l.initial.decls.items ++ all_declared l.around (to_marked (map marked_tree (take l.one-index l.marked)))

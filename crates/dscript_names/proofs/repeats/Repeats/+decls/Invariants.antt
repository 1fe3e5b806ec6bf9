use Rattle.std.proofs.Common.{◌≡◌, ◌||◌, map, take}
use Rattle.dscript_ast.specs.FileTree.{to_marked}
use Rattle.dscript_ast.specs.Views.{marked_tree}
use Rattle.dscript_names_scopes.specs.Duplicates.{all_marked_repeat}
use Rattle.dscript_names.proofs.repeats.Repeats.+decls.Given as goal

abbrev pub invariant-all_marked-decls : goal.invariant-all_marked-decls
invariant-all_marked-decls l =
    l.self.found ≡ (l.initial.self.found || all_marked_repeat (to_marked (map marked_tree (take l.marked-index l.decls))))

use Rattle.std.proofs.Common.{map}
use Rattle.std.specs.Vec.Iter.{into_iter_items}
use Rattle.dscript_ast.specs.FileTree.{to_marked}
use Rattle.dscript_ast.specs.Views.{marked_tree}
use Rattle.dscript_names_binding.specs.Binding.{bind_all_marked}
use Rattle.dscript_names_binding.specs.Declares.{Passed}
use Rattle.dscript_names_binding.specs.Scenes.{world_at}
use Rattle.dscript_names_binding.proofs.decls.Binder.+decls.Given as goal

abbrev pub invariant-all_marked-decls : goal.invariant-all_marked-decls
invariant-all_marked-decls l =
    (goal.iterator-all_marked-decls).can_next l.marked-iterator
    × (goal.iterator-all_marked-decls).is_finite l.marked-iterator
    × Passed
    (bind_all_marked (world_at l.scene) l.scene.site.number l.scene.site.file.now l.scene.site.around.now
    (to_marked (map marked_tree l.fn.decls.items)))
    (bind_all_marked (world_at l.scene) l.scene.site.number l.scene.site.file.now l.scene.site.around.now
    (to_marked (map marked_tree (into_iter_items l.marked-iterator))))
    l.fn.self l.self

use Rattle.std.proofs.Common.{map}
use Rattle.std.specs.Vec.Iter.{into_iter_items}
use Rattle.dscript_ast.specs.Views.{item_tree}
use Rattle.dscript_names_binding.specs.Binding.{bind_items}
use Rattle.dscript_names_binding.specs.Declares.{Passed}
use Rattle.dscript_names_binding.specs.Scenes.{world_at}
use Rattle.dscript_names_binding.proofs.decls.Binder.items.Given as goal

abbrev pub invariant-items : goal.invariant-items
invariant-items l =
    (goal.iterator-items).can_next l.item-iterator
    × (goal.iterator-items).is_finite l.item-iterator
    × Passed
    (bind_items (world_at l.scene) l.scene.site.number l.scene.site.file.now (map item_tree l.fn.items.items))
    (bind_items (world_at l.scene) l.scene.site.number l.scene.site.file.now
    (map item_tree (into_iter_items l.item-iterator)))
    l.fn.self l.self

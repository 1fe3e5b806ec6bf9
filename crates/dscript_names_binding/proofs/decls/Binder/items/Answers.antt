use Rattle.std.proofs.Common.{map, ap}
use Rattle.dscript_ast.specs.Views.{item_tree}
use Rattle.dscript_names_binding.specs.Binding.{bind_items}
use Rattle.dscript_names_binding.specs.Scenes.{world_at}
use Rattle.dscript_names_binding.proofs.Declaring.{passed_init, passed_next}
use Rattle.dscript_names_binding.proofs.decls.Binder.items.Goals as goal

pub items-init : goal.items-init
items-init c =
    (tt, tt, passed_init (ap (λ xs. bind_items (world_at c.args.scene.now) c.args.scene.now.site.number c.args.scene.now.site.file.now (map item_tree xs)) c.into_iter-item-iterator.ensures.into_iter_gives.0))

pub items-preserved : goal.items-preserved
items-preserved c =
    (tt, tt, passed_next c.items.invariant.2 (ap (λ xs. bind_items (world_at c.args.scene.now) c.args.scene.now.site.number c.args.scene.now.site.file.now (map item_tree xs)) c.in-Some.ensures.steps.0) c.in_ok-item.ensures)

use Rattle.std.proofs.Common.{map, ap}
use Rattle.dscript_ast.specs.FileTree.{to_marked}
use Rattle.dscript_ast.specs.Views.{marked_tree}
use Rattle.dscript_names_binding.specs.Binding.{bind_all_marked, bind_marked}
use Rattle.dscript_names_binding.specs.Scenes.{world_at}
use Rattle.dscript_names_binding.proofs.Declaring.{passed_init, passed_next}
use Rattle.dscript_names_binding.proofs.decls.Binder.+decls.Goals as goal

pub all_marked-decls-init : goal.all_marked-decls-init
all_marked-decls-init t c =
    (tt, tt, passed_init (ap (λ xs. bind_all_marked (world_at c.args.scene.now) c.args.scene.now.site.number c.args.scene.now.site.file.now c.args.scene.now.site.around.now (to_marked (map marked_tree xs))) c.into_iter-marked-iterator.ensures.into_iter_gives.0))

pub all_marked-decls-preserved : goal.all_marked-decls-preserved
unfolding bind_marked
all_marked-decls-preserved t c =
    (tt, tt, passed_next c.decls.invariant.2 (ap (λ xs. bind_all_marked (world_at c.args.scene.now) c.args.scene.now.site.number c.args.scene.now.site.file.now c.args.scene.now.site.around.now (to_marked (map marked_tree xs))) c.in-Some.ensures.steps.0) c.in_ok-marked.ensures)

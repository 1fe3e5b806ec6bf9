use Rattle.std.proofs.Common.{map, ap, sym, ◌∙◌, Ok}
use Rattle.dscript_ast.specs.FileTree as files
use Rattle.dscript_ast.specs.Views.{import_tree, item_tree}
use Rattle.dscript_ast.specs.declared.file.ImportedNames.{ImportedNames}
use Rattle.dscript_names_binding.specs.Binding.{bind_item}
use Rattle.dscript_names_binding.specs.Scenes.{world_at}
use Rattle.dscript_names_binding.proofs.Declaring.{gathers_at, import_gathers, none_gathered}
use Rattle.dscript_names_binding.proofs.decls.Binder.item.Goals as goal

pub returns-in-ImportAll : goal.returns-in-ImportAll
returns-in-ImportAll c =
    gathers_at c.args.self.now c.args.self.now c.check_imports.result (ap (λ i. bind_item (world_at c.args.scene.now) c.args.scene.now.site.number c.args.scene.now.site.file.now (item_tree i)) c.in-ImportAll.is)
    (import_gathers _ c.args.self.now c.check_imports.result c.check_imports.ensures)

pub returns-in-ImportNames : goal.returns-in-ImportNames
returns-in-ImportNames c =
    gathers_at c.args.self.now c.args.self.now c.check_imports-in-ImportNames.result
    (ap (λ i. bind_item (world_at c.args.scene.now) c.args.scene.now.site.number c.args.scene.now.site.file.now (item_tree i)) c.in-ImportNames.is
    ∙ ap (λ ns. bind_item (world_at c.args.scene.now) c.args.scene.now.site.number c.args.scene.now.site.file.now (files.ImportNames (map import_tree ns) c.in-ImportNames.imported.value.module))
    (sym (c.as_slice.ensures.value ∙ ap (λ (x : ImportedNames). x.names.items) c.deref.ensures))
    ∙ ap (λ (x : ImportedNames). bind_item (world_at c.args.scene.now) c.args.scene.now.site.number c.args.scene.now.site.file.now (files.ImportNames (map import_tree c.as_slice.result.now) x.module))
    (sym c.deref-in-ImportNames.ensures))
    (import_gathers _ c.args.self.now c.check_imports-in-ImportNames.result c.check_imports-in-ImportNames.ensures)

pub returns : goal.returns
returns c =
    gathers_at c.args.self.now c.args.self.now (Ok (tt {0})) (ap (λ i. bind_item (world_at c.args.scene.now) c.args.scene.now.site.number c.args.scene.now.site.file.now (item_tree i)) c.in-Empty.is) (none_gathered c.args.self.now)

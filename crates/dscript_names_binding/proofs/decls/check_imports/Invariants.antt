use Rattle.std.proofs.Common.{◌≡◌, length, map}
use Rattle.dscript_ast.specs.Views.{import_tree}
use Rattle.dscript_names_binding.specs.Binding.{imports_fault}
use Rattle.dscript_names_binding.specs.Scenes.{world_at}
use Rattle.dscript_names_binding.proofs.decls.check_imports.Given as goal

abbrev pub invariant-names : goal.invariant-names
invariant-names l =
    imports_fault (world_at l.scene) (map import_tree l.left) l.module_name
    ≡ imports_fault (world_at l.scene) (map import_tree l.fn.names) l.module_name

abbrev pub decreases-names : goal.decreases-names
decreases-names l = length l.left

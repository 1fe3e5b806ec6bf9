use Rattle.std.proofs.Common.{◌≡◌, ◌++◌, map, take}
use Rattle.dscript_ast.specs.Views.{import_tree}
use Rattle.dscript_names_scopes.specs.Declarations.{imported_name}
use Rattle.dscript_names.proofs.collecting.add_imports.Given as goal

abbrev pub invariant-names : goal.invariant-names
invariant-names l =
    l.imports.items ≡ l.initial.imports.items ++ map (imported_name l.module_name) (map import_tree (take l.import-index l.names))

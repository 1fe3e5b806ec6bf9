use Rattle.std.proofs.Common.{◌≡◌, take}
use Rattle.std.specs.List.{list_any}
use Rattle.bx_tree.specs.Paths.{Atoms}
use Rattle.dscript_names_workspace.specs.ModuleFiles.{files_data}
use Rattle.dscript_names_workspace.specs.PathSets.{has}
use Rattle.dscript_names_workspace.specs.Workspaces.{implies_file}
use Rattle.dscript_names_workspace.proofs.module_file.implied_by.Given as goal

abbrev pub invariant-files : goal.invariant-files
invariant-files l = (path : Atoms) →
    has l.taken path ≡ list_any (implies_file path) (files_data (take l.module_file-index l.all))

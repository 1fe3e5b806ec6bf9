use Rattle.std.proofs.Common.{◌≡◌, [], drop, take}
use Rattle.bx_tree.specs.Paths.{Atoms}
use Rattle.dscript_names_workspace.specs.ModuleFiles.{files_data}
use Rattle.dscript_names_workspace.specs.PathSets.{has}
use Rattle.dscript_names_workspace.specs.Workspaces.{file_fault, is_taken}
use Rattle.dscript_names_workspace.proofs.module_file.file_fault.Given as goal

abbrev pub invariant-files : goal.invariant-files
invariant-files l = record {
  taken : (path : Atoms) → has l.taken path ≡ is_taken (files_data l.all) (files_data (take l.module_file-index l.all)) path;
  rest : file_fault (files_data l.all) (files_data (take l.module_file-index l.all)) (files_data (drop l.module_file-index l.all))
      ≡ file_fault (files_data l.all) [] (files_data l.all);
}

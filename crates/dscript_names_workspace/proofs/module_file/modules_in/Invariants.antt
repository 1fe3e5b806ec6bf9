use Rattle.std.proofs.Common.{◌≡◌}
use Rattle.std.specs.List.{filter_map}
use Rattle.dscript_program.specs.Workspaces.{modules_data}
use Rattle.dscript_names_workspace.specs.ModuleFiles.{files_data}
use Rattle.dscript_names_workspace.specs.Workspaces.{module_in}
use Rattle.dscript_names_workspace.proofs.module_file.modules_in.Given as goal

abbrev pub invariant-files : goal.invariant-files
invariant-files l = modules_data l.found.items ≡ filter_map module_in (files_data l.yielded)

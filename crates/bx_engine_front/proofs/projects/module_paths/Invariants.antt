use Rattle.std.proofs.Common.{◌≡◌, ◌++◌, drop}
use Rattle.dscript_program.specs.Workspaces.{modules_data}
use Rattle.dscript_names.specs.ProjectFiles.{paths_of_modules}
use Rattle.bx_engine_front.proofs.projects.module_paths.Given as goal

abbrev pub invariant-modules : goal.invariant-modules
invariant-modules l =
    l.paths.items ++ paths_of_modules (modules_data (drop l.module-index l.modules))
    ≡ paths_of_modules (modules_data l.modules)

use Rattle.std.proofs.Common.{map, take}
use Rattle.std.specs.List.{AllZip}
use Rattle.dscript_names_workspace.specs.Finding.{IsModuleFile}
use Rattle.dscript_names_workspace.specs.Membership.{dir_of}
use Rattle.dscript_names_workspace.specs.ModuleFiles.{files_data}
use Rattle.dscript_names_workspace.proofs.module_reading.read_modules.Given as goal

abbrev pub invariant-files : goal.invariant-files
invariant-files l =
    AllZip (IsModuleFile l.tree (map dir_of l.listed)) (take l.path-index l.listed) (files_data l.found.items)

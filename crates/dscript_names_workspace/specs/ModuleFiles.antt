-- Module files as contracts see them.
use Rattle.std.specs.Prelude.{List, map}
use Rattle.dscript_program.specs.SpecFaults.{fault_data}
use Rattle.dscript_program.specs.Workspaces.{module_data}
use Rattle.dscript_names_workspace.specs.declared.module_file.ModuleFile as memory
use Rattle.dscript_names_workspace.specs.declared.module_file.ModuleFile.TheVariants as variants
use Rattle.dscript_names_workspace.specs.Workspaces.{ModuleFile, Described, Faulty}

-- what a module file comes to, without addresses
abbrev pub file_data : memory.ModuleFile → ModuleFile
file_data (variants.Described m lists) = Described (module_data m) lists
file_data (variants.Faulty fault) = Faulty (fault_data fault)

-- what module files come to, without addresses
abbrev pub files_data : List memory.ModuleFile → List ModuleFile
files_data = map file_data

-- Modules as contracts see them.
use Rattle.std.specs.Prelude.{ℕ, List, map, codes}
use Rattle.bx_tree.specs.Paths.{Atoms}
use Rattle.dscript_program.specs.declared.workspace.ModuleText.{ModuleText}
use Rattle.dscript_program.specs.declared.workspace.Workspace.{Workspace}

-- a module: its name, the file that describes it, and its files by path
pub record ModuleData : Type 0 where
  pub name : List ℕ
  pub config : Atoms
  pub files : List Atoms

abbrev pub module_data : ModuleText → ModuleData
module_data m = record { name = m.name; config = m.config; files = m.files.items }

abbrev pub modules_data : List ModuleText → List ModuleData
modules_data = map module_data

abbrev pub modules_of : Workspace → List ModuleData
modules_of w = modules_data w.modules.items

-- the name of the module that is always there
abbrev pub sdk_name : List ℕ
sdk_name = codes "Sdk.Transformers"

-- What a tree of source files comes to: its workspace, or the first fault.
use Rattle.std.specs.Prelude.{◌≡◌, ℕ, List, [], ◌∷◌, map, codes, Option, Some, None}
use Rattle.std.specs.List.{AllZip}
use Rattle.std.specs.Option.{is_some, option_map_or}
use Rattle.bx_tree.specs.Paths.{Atoms}
use Rattle.bx_tree.specs.Trees.{Files, file_at}
use Rattle.dscript_ast.specs.declared.file.Form.TheVariants as forms
use Rattle.dscript_ast.specs.FileTree as trees
use Rattle.dscript_program.specs.declared.spec_fault.SpecKind.{SpecKind}
use Rattle.dscript_program.specs.declared.spec_fault.SpecKind.TheVariants as kinds
use Rattle.dscript_program.specs.declared.place.Place.{Place}
use Rattle.dscript_program.specs.SpecFaults.{FaultData}
use Rattle.dscript_program.specs.Workspaces.{ModuleData}
use Rattle.dscript_parse.specs.Reading.{Reading, Read, NoTokens, NoFile, ReadsAs}
use Rattle.dscript_names_workspace.specs.Configs.{configured}
use Rattle.dscript_names_workspace.specs.Modules.{DescriptionData, described}
use Rattle.dscript_names_workspace.specs.Membership.{config_path, dir_of, files_of_module, implied_files}
use Rattle.dscript_names_workspace.specs.Workspaces.{Answer, Found, Refused, ModuleFile}
use Rattle.dscript_names_workspace.specs.Workspaces.{Described, Faulty, configuration_fault, answer_of}

-- the specification of a tree without a configuration
abbrev pub build_path : Atoms
build_path = codes "build.dsc" ∷ []

-- the one module of a tree without a configuration
abbrev pub main_module : ModuleData
main_module = record { name = codes "main"; config = build_path; files = build_path ∷ [] }

-- a fault with its place
abbrev pub fault_at : SpecKind → Atoms → Place → FaultData
fault_at kind file place = record { kind = kind; file = file; place = Some place }

-- ## Module files

-- the module of a description, where these are the files that belong to it if it lists none
abbrev pub module_described : Files → List Atoms → Atoms → DescriptionData → ModuleFile
module_described files implied path d =
    Described (record { name = d.name; config = path; files = files_of_module implied d.projects })
    (is_some d.projects)

-- what a module file comes to, once it was read
abbrev pub module_file : Files → List Atoms → Atoms → Reading → ModuleFile
module_file files implied path (NoTokens place) = Faulty (fault_at kinds.Lex path place)
module_file files implied path (NoFile place) = Faulty (fault_at kinds.Syntax path place)
module_file files implied path (Read (trees.Module e)) =
    option_map_or (module_described files implied path) (described files (dir_of path) e)
    (Faulty (configuration_fault path))
module_file files implied path (Read _) = Faulty (configuration_fault path)

-- the text is read as a module file, and comes to this
abbrev pub IsRead : Files → List Atoms → Atoms → List ℕ → ModuleFile → Type 0
IsRead files implied path text m =
    (reading : Reading) × ReadsAs forms.Module text reading × (m ≡ module_file files implied path reading)

-- the source file at this path is read as a module file, and comes to this
abbrev pub IsReadAt : Files → List Atoms → Atoms → ModuleFile → Type 0
IsReadAt files implied path m =
    (text : List ℕ) × (file_at files path ≡ Some text) × IsRead files implied path text m

-- the module file at this path comes to this, where these are the directories of all listed module files
abbrev pub IsModuleFile : Files → List Atoms → Atoms → ModuleFile → Type 0
IsModuleFile files dirs path m = IsReadAt files (implied_files files dirs (dir_of path)) path m

-- the module files at these paths, in the order of the tree, come to this answer
abbrev pub ComesTo : Files → List Atoms → Answer → Type 0
ComesTo files listed answer =
    (module_files : List ModuleFile) × AllZip (IsModuleFile files (map dir_of listed)) listed module_files
    × (answer ≡ answer_of module_files)

-- ## The configuration

-- the configuration lists these module files, or says something that is not allowed
abbrev pub Lists : Files → Option (List Atoms) → Answer → Type 0
Lists files None answer = answer ≡ Refused (configuration_fault config_path)
Lists files (Some listed) answer = ComesTo files listed answer

-- what the configuration leads to, once it was read
abbrev pub LeadsTo : Files → Reading → Answer → Type 0
LeadsTo files (NoTokens place) answer = answer ≡ Refused (fault_at kinds.Lex config_path place)
LeadsTo files (NoFile place) answer = answer ≡ Refused (fault_at kinds.Syntax config_path place)
LeadsTo files (Read (trees.Config e)) answer = Lists files (configured files e) answer
LeadsTo files (Read _) answer = answer ≡ Refused (configuration_fault config_path)

-- without a configuration the tree is one module of the one file `build.dsc`, if that is there
abbrev pub without_config : Option (List ℕ) → Answer
without_config (Some text) = Found (main_module ∷ [])
without_config None = Refused (configuration_fault config_path)

-- the text of the configuration leads to this answer, or there is none
abbrev pub Starts : Files → Option (List ℕ) → Answer → Type 0
Starts files None answer = answer ≡ without_config (file_at files build_path)
Starts files (Some text) answer =
    (reading : Reading) × ReadsAs forms.Config text reading × LeadsTo files reading answer

-- The source files come to this answer: their workspace, or the first fault.
abbrev pub Finds : Files → Answer → Type 0
Finds files answer = Starts files (file_at files config_path) answer

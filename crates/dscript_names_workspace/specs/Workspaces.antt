-- The workspace that module files describe, or the first fault in them.
use Rattle.std.specs.Prelude.{ℕ, Bool, true, false, ◌&&◌, ◌||◌, if◌then◌else◌, List, [], ◌∷◌, ◌++◌}
use Rattle.std.specs.Prelude.{Option, Some, None}
use Rattle.std.specs.List.{list_any, filter_map}
use Rattle.std.specs.Str.{bytes_eq}
use Rattle.bx_tree.specs.Paths.{Atoms, has_path}
use Rattle.dscript_program.specs.declared.spec_fault.SpecKind.{SpecKind}
use Rattle.dscript_program.specs.declared.spec_fault.SpecKind.TheVariants as kinds
use Rattle.dscript_program.specs.SpecFaults.{FaultData}
use Rattle.dscript_program.specs.Workspaces.{ModuleData, sdk_name}

-- what looking for a workspace comes to
pub data Answer : Type 0 where
  Found : List ModuleData → Answer
  Refused : FaultData → Answer

-- What a module file comes to: a module and whether it lists its files itself, or a fault of its own. A
-- module that lists its files implies none.
pub data ModuleFile : Type 0 where
  Described : ModuleData → Bool → ModuleFile
  Faulty : FaultData → ModuleFile

-- ## Files in two modules

-- the file is one of the module's
abbrev pub has_file : Atoms → ModuleFile → Bool
has_file path (Described m lists) = has_path m.files path
has_file path (Faulty fault) = false

-- the module lists no files itself, and the file is one of the module's
abbrev pub implies_file : Atoms → ModuleFile → Bool
implies_file path (Described m true) = false
implies_file path (Described m false) = has_path m.files path
implies_file path (Faulty fault) = false

-- the file is one of an earlier module's, or implied by any
abbrev pub is_taken : List ModuleFile → List ModuleFile → Atoms → Bool
is_taken all before path = list_any (has_file path) before || list_any (implies_file path) all

-- ## The first fault

-- a fault of this kind, which has no place
abbrev pub fault_in : SpecKind → Atoms → FaultData
fault_in kind file = record { kind = kind; file = file; place = None }

-- that a configuration is at fault
abbrev pub configuration_fault : Atoms → FaultData
configuration_fault path = fault_in kinds.ModuleConfig path

-- the fault of a module file: its own, or that it lists a file that is taken
abbrev pub module_file_fault : (Atoms → Bool) → ModuleFile → Option FaultData
module_file_fault taken (Faulty fault) = Some fault
module_file_fault taken (Described m lists) =
    if lists && list_any taken m.files then Some (configuration_fault m.config) else None

-- the first of two options that is there
abbrev pub option_or : {X : Type 0} → Option X → Option X → Option X
option_or (Some x) other = Some x
option_or None other = other

-- the first fault of the rest of these module files
abbrev pub file_fault : List ModuleFile → List ModuleFile → List ModuleFile → Option FaultData
file_fault all before [] = None
file_fault all before (m ∷ rest) =
    option_or (module_file_fault (is_taken all before) m) (file_fault all (before ++ m ∷ []) rest)

-- the module of a file that has no fault of its own
abbrev pub module_in : ModuleFile → Option ModuleData
module_in (Described m lists) = Some m
module_in (Faulty fault) = None

-- the modules of these module files
abbrev pub modules : List ModuleFile → List ModuleData
modules module_files = filter_map module_in module_files

-- whether a module that is always there, or one of these, has the name
abbrev pub is_used : List ModuleData → List ℕ → Bool
is_used before name = bytes_eq sdk_name name || list_any (λ m. bytes_eq m.name name) before

-- the first of the rest of these modules whose name is used before
abbrev pub repeated_module_name : List ModuleData → List ModuleData → Option FaultData
repeated_module_name before [] = None
repeated_module_name before (m ∷ rest) =
    if is_used before m.name then Some (fault_in kinds.DuplicateModule m.config)
    else repeated_module_name (before ++ m ∷ []) rest

-- ## The answer

-- this fault, or else the modules
abbrev pub refused_or : Option FaultData → List ModuleData → Answer
refused_or (Some fault) found = Refused fault
refused_or None found = Found found

-- What the listed module files come to: the first fault of a file, or else of a name, or else their modules.
abbrev pub answer_of : List ModuleFile → Answer
answer_of module_files =
    refused_or (option_or (file_fault module_files [] module_files) (repeated_module_name [] (modules module_files)))
    (modules module_files)

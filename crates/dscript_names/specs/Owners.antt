-- Which module has a file.
use Rattle.std.specs.Prelude.{◌≡◌, ℕ, Bool, List, Option}
use Rattle.std.specs.BTreeMap.{BTreeMap, get}
use Rattle.std.specs.List.{list_any}
use Rattle.std.specs.Option.{unwrap_or}
use Rattle.bx_tree.specs.Paths.{Atoms, path_cmp, same_path}
use Rattle.dscript_program.specs.Workspaces.{ModuleData, modules_data}
use Rattle.dscript_program.specs.declared.workspace.ModuleText.{ModuleText}
use Rattle.dscript_names_scopes.specs.Declarations.{module_of}
use Rattle.dscript_names.specs.declared.owners.Owners.{Owners}

abbrev pub owner_at : BTreeMap Atoms ℕ → Atoms → Option ℕ
owner_at numbers path = get path_cmp numbers path

abbrev pub owner_in : Owners → Atoms → ℕ
owner_in o path = unwrap_or (owner_at o.numbers path) o.modules

-- the number of the first of these modules that has the file, or how many there are
abbrev pub HasOwners : List ModuleText → Owners → Type 0
HasOwners modules o = (path : Atoms) → owner_in o path ≡ module_of (modules_data modules) path

-- the module has the file
abbrev pub has_file : Atoms → ModuleData → Bool
has_file path m = list_any (same_path path) m.files

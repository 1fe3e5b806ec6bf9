-- The names of all files, gathered one after the other.
use Rattle.std.specs.Prelude.{◌≡◌, ℕ, Bool, List, [], ◌∷◌, ◌++◌, Some, None, Result, Ok, Err}
use Rattle.std.specs.Bool.{⊤}
use Rattle.std.specs.List.{flat_map}
use Rattle.bx_tree.specs.Paths.{Atoms}
use Rattle.dscript_ast.specs.FileTree.{ItemTree}
use Rattle.dscript_program.specs.Workspaces.{ModuleData}
use Rattle.dscript_program.specs.declared.spec_fault.SpecFault.{SpecFault}
use Rattle.dscript_program.specs.declared.spec_fault.SpecFault.TheVariants as faults
use Rattle.dscript_program.specs.declared.spec_fault.SpecKind.TheVariants as fault_kinds
use Rattle.dscript_names_scopes.specs.Declarations.{ParsedData, item_declared, item_imports, item_opened}
use Rattle.dscript_names_scopes.specs.Duplicates.{first_duplicate, has_duplicate}
use Rattle.dscript_names_scopes.specs.Names.{FileNames}
use Rattle.dscript_names.specs.Exports.{HasExports}
use Rattle.dscript_names.specs.declared.gathering.Gathering.{Gathering}

-- the names of a file of the module of this number
abbrev pub file_names : ℕ → List ItemTree → FileNames
file_names owner items = record {
  module_number = owner;
  decls = flat_map item_declared items;
  opened = flat_map item_opened items;
  imports = flat_map item_imports items;
}

-- the tables have what the files export
abbrev pub IsTrueTo : Gathering → Type 0
IsTrueTo g = HasExports g.files.items g.exports

-- The file was added. The answer says whether it has a duplicate.
pub record Added (before after : Gathering) (owner : ℕ) (items : List ItemTree) (duplicate : Bool)
    : Type 0 where
  pub files : after.files.items ≡ before.files.items ++ file_names owner items ∷ []
  pub exports : IsTrueTo before → IsTrueTo after
  pub answers : IsTrueTo before
      → duplicate ≡ has_duplicate before.files.items (file_names owner items) items

abbrev pub Adds : {E : Type 0} → Gathering → Gathering → ℕ → List ItemTree → Result Bool E → Type 0
Adds before after owner items (Ok duplicate) = Added before after owner items duplicate
Adds before after owner items (Err e) = ⊤

-- the file has a duplicate; running out of memory has no cause that is stated
abbrev pub IsDuplicateIn : Atoms → SpecFault → Type 0
IsDuplicateIn path (faults.Fault kind file place) =
    (kind ≡ fault_kinds.DuplicateName) × (file ≡ path) × (place ≡ None)
IsDuplicateIn path faults.Memory = ⊤

-- the first file with a duplicate; running out of memory has no cause that is stated
abbrev pub IsDuplicate : List ModuleData → List ParsedData → SpecFault → Type 0
IsDuplicate modules files (faults.Fault kind path place) =
    (kind ≡ fault_kinds.DuplicateName) × (first_duplicate modules [] files ≡ Some path) × (place ≡ None)
IsDuplicate modules files faults.Memory = ⊤

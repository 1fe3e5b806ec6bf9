-- Tables of types by dotted name, in place of lists that are scanned.
use Rattle.std.specs.Prelude.{◌≡◌, ℕ, List, Option, Some, None, slice_get}
use Rattle.std.specs.BTreeMap.{BTreeMap, get}
use Rattle.std.specs.List.{AllZip}
use Rattle.std.specs.Ordering.{nat_cmp}
use Rattle.dscript_names_scopes.specs.Declarations.{is_any}
use Rattle.dscript_names_scopes.specs.Orders.{name_cmp}
use Rattle.dscript_program.specs.ProgramData.{DeclData, Dotted, FileData, ProgramData}
use Rattle.dscript_types_meaning.specs.Lookups.{in_module, type_in}
use Rattle.dscript_types_notes.specs.declared.names.TypeNames.{TypeNames}

-- what the table has at this name
abbrev pub at_name : {X : Type 0} → BTreeMap Dotted X → Dotted → Option X
at_name table name = get name_cmp table name

abbrev pub at_name_of : {X : Type 0} → Option (BTreeMap Dotted X) → Dotted → Option X
at_name_of None name = None
at_name_of (Some table) name = at_name table name

-- tables of types, by the number of a module
abbrev pub Modules : Type 0
Modules = BTreeMap ℕ (BTreeMap Dotted (ℕ × ℕ))

abbrev pub at_module : Modules → ℕ → Dotted → Option (ℕ × ℕ)
at_module modules m name = at_name_of (get nat_cmp modules m) name

-- the table of a file
abbrev pub at_file : TypeNames → ℕ → Dotted → Option ℕ
at_file names file name = at_name_of (slice_get names.files.items file) name

-- the table has the types among these declarations
abbrev pub HasTypesOf : List DeclData → BTreeMap Dotted ℕ → Type 0
HasTypesOf decls table = (name : Dotted) → at_name table name ≡ type_in is_any decls name

-- the tables have the types that the modules of these files export
abbrev pub HasExportedOf : List FileData → Modules → Type 0
HasExportedOf files modules = (m : ℕ) (name : Dotted) → at_module modules m name ≡ in_module m 0 files name

-- the tables are those of the program
pub record IsIndexOf (p : ProgramData) (names : TypeNames) : Type 0 where
  pub files : AllZip (λ (f : FileData) table. HasTypesOf f.decls table) p.files names.files.items
  pub modules : HasExportedOf p.files names.modules

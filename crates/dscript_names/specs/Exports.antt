-- The names that the files of modules export.
use Rattle.std.specs.Prelude.{◌≡◌, ◌&&◌, ◌==◌, ℕ, Bool, false, List, Option, Some, None}
use Rattle.std.specs.BTreeMap.{get}
use Rattle.std.specs.BTreeSet.{BTreeSet, contains}
use Rattle.std.specs.List.{list_any}
use Rattle.std.specs.Ordering.{nat_cmp}
use Rattle.bx_tree.specs.Paths.{same_path}
use Rattle.dscript_program.specs.ProgramData.{Dotted}
use Rattle.dscript_names_scopes.specs.Duplicates.{exported_names}
use Rattle.dscript_names_scopes.specs.Names.{FileNames}
use Rattle.dscript_names_scopes.specs.Orders.{name_cmp}
use Rattle.dscript_names.specs.declared.exported.Exports.{Exports}

abbrev pub seen_in : BTreeSet Dotted → Dotted → Bool
seen_in seen name = contains name_cmp seen name

abbrev pub seen_in_table : Option (BTreeSet Dotted) → Dotted → Bool
seen_in_table None name = false
seen_in_table (Some seen) name = seen_in seen name

abbrev pub exported_at : Exports → ℕ → Dotted → Bool
exported_at e m name = seen_in_table (get nat_cmp e.tables m) name

-- a file of the module exports the name
abbrev pub exports_name : ℕ → Dotted → FileNames → Bool
exports_name m name f = f.module_number == m && list_any (λ x. same_path x name) (exported_names f)

-- the tables have what these files export
abbrev pub HasExports : List FileNames → Exports → Type 0
HasExports files e = (m : ℕ) (name : Dotted) → exported_at e m name ≡ list_any (exports_name m name) files

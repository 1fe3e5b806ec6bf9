-- Tables by name, in place of lists that are scanned.
use Rattle.std.specs.Prelude.{◌≡◌, ◌≤◌, ℕ, All, Bool, List, length, Option, Some, None, is_some}
use Rattle.std.specs.BTreeMap.{BTreeMap, get}
use Rattle.std.specs.List.{list_any, position_from}
use Rattle.std.specs.Ordering.{nat_cmp}
use Rattle.std.specs.Str.{bytes_eq}
use Rattle.std.specs.declared.alloc.Global.{Global}
use Rattle.std.specs.declared.vec.Vec.{Vec}
use Rattle.dscript_ast.specs.declared.file.Mark.{Mark}
use Rattle.dscript_program.specs.ProgramData.{Dotted}
use Rattle.dscript_program.specs.declared.target.Target.{Target}
use Rattle.dscript_names_scopes.specs.Declarations.{is_any}
use Rattle.dscript_names_scopes.specs.Lookup.{is_value_of, opens, value_of_module}
use Rattle.dscript_names_scopes.specs.declared.names.Declared.{Declared}
use Rattle.dscript_names_scopes.specs.declared.places.Places.{Places}
use Rattle.dscript_names_scopes.specs.Names.{FileNames}
use Rattle.dscript_names_scopes.specs.Orders.{name_cmp}
use Rattle.bx_tree.specs.TextTables.{at_text}

-- what the table has at this name
abbrev pub at_name : {X : Type 0} → BTreeMap Dotted X → Dotted → Option X
at_name table name = get name_cmp table name

-- what a table that there may be has at this name
abbrev pub at_name_of : Option (BTreeMap Dotted Target) → Dotted → Option Target
at_name_of None name = None
at_name_of (Some table) name = at_name table name

-- tables of targets, by the number of a module
abbrev pub ByModule : Type 0
ByModule = BTreeMap ℕ (BTreeMap Dotted Target)

abbrev pub at_module : ByModule → ℕ → Dotted → Option Target
at_module tables m name = at_name_of (get nat_cmp tables m) name

-- the table has the numbers of the values among these declarations
abbrev pub HasValuesOf : List Declared → BTreeMap Dotted ℕ → Type 0
HasValuesOf decls table =
    (name : Dotted) → at_name table name ≡ position_from (is_value_of is_any name) 0 decls

-- no declared name has more parts
abbrev pub AreWithin : ℕ → List Declared → Type 0
AreWithin most decls = All (λ d. length d.name ≤ most) decls

-- the tables have the values with such marks of the modules of these files
abbrev pub HasModulesOf : (Mark → Bool) → List FileNames → ByModule → Type 0
HasModulesOf sees files tables =
    (m : ℕ) (name : Dotted) → at_module tables m name ≡ value_of_module sees m 0 files name

-- what such a table that there may be has at this text
abbrev pub place_in : Option Places → List ℕ → Option ℕ
place_in None x = None
place_in (Some places) x = at_text places.table x

-- what tables by text, by the number of a module, have at this text
abbrev pub place_at_module : BTreeMap ℕ Places → ℕ → List ℕ → Option ℕ
place_at_module tables m x = place_in (get nat_cmp tables m) x

-- the tables have the names of the namespaces that these files open
abbrev pub HasOpenedOf : List FileNames → BTreeMap ℕ Places → Type 0
HasOpenedOf files tables =
    (m : ℕ) (x : List ℕ) → is_some (place_at_module tables m x) ≡ list_any (opens x (Some m)) files

-- the table has the place of the first of these elements that has a name, for each name
abbrev pub HasPlacesOf : {X : Type 0} → (X → List ℕ) → List X → BTreeMap (Vec ℕ Global) ℕ → Type 0
HasPlacesOf name_of xs table =
    (x : List ℕ) → at_text table x ≡ position_from (λ y. bytes_eq (name_of y) x) 0 xs

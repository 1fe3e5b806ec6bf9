-- What the files of a program declare and import.
use Rattle.std.specs.Prelude.{ℕ, Bool, true, false, List, [], ◌∷◌, ◌++◌, map, Some, None}
use Rattle.std.specs.Option.{unwrap_or}
use Rattle.std.specs.List.{flat_map, list_any, position_or_len}
use Rattle.bx_tree.specs.Paths.{Atoms, same_path}
use Rattle.dscript_ast.specs.FileTree as tree
use Rattle.dscript_ast.specs.FileTree.{MarkedTree, DeclTree, MarkedTrees, ImportTree, ItemTree, FileTree}
use Rattle.dscript_ast.specs.FileTree.{Marked}
use Rattle.dscript_ast.specs.declared.file.Mark.{Mark}
use Rattle.dscript_ast.specs.declared.file.Mark.TheVariants as marks
use Rattle.dscript_program.specs.ProgramData.{Dotted}
use Rattle.dscript_program.specs.Workspaces.{ModuleData}
use Rattle.dscript_names_scopes.specs.declared.names.Declared.{Declared}
use Rattle.dscript_names_scopes.specs.declared.names.Imported.{Imported}
use Rattle.dscript_names_scopes.specs.declared.names.Viewer.{Viewer}
use Rattle.dscript_names_scopes.specs.declared.names.Viewer.TheVariants as viewers
use Rattle.dscript_names_scopes.specs.Names.{FileNames, World}

-- ## Declarations

-- the declaration of a name in these namespaces
abbrev pub declared : Dotted → Mark → Bool → List ℕ → List Declared
declared around mark is_value x = record { name = around ++ x ∷ []; mark = mark; is_value = is_value } ∷ []

-- What is declared, in the order of the text: a dotted name is the names of the namespaces around it and its
-- own. A namespace is no declaration, and its mark says nothing. Interfaces and types are no values.
unfoldable mutual
  pub declared_by : Dotted → MarkedTree → List Declared
  declared_by around (Marked mark decl) = declared_as around mark decl

  pub declared_as : Dotted → Mark → DeclTree → List Declared
  declared_as around mark (tree.Const x t e) = declared around mark true x
  declared_as around mark (tree.Function x ts ps t ss) = declared around mark true x
  declared_as around mark (tree.Namespace names ms) = all_declared (around ++ names) ms
  declared_as around mark (tree.Interface x ts es ms) = declared around mark false x
  declared_as around mark (tree.TypeAlias x ts t) = declared around mark false x

  pub all_declared : Dotted → MarkedTrees → List Declared
  all_declared around tree.no_marked = []
  all_declared around (tree.more_marked m ms) = declared_by around m ++ all_declared around ms

abbrev pub item_declared : ItemTree → List Declared
item_declared (tree.Declared m) = declared_by [] m
item_declared _ = []

-- the first name of a namespace that the declaration opens
abbrev pub first_opened : DeclTree → List (List ℕ)
first_opened (tree.Namespace (x ∷ names) ms) = x ∷ []
first_opened _ = []

abbrev pub item_opened : ItemTree → List (List ℕ)
item_opened (tree.Declared (Marked mark decl)) = first_opened decl
item_opened _ = []

-- ## Imports

-- a name in braces gets the name after `as`, where there is one
abbrev pub imported_name : List ℕ → ImportTree → Imported
imported_name module_name i = record {
  name = unwrap_or i.alias i.name;
  module_name = module_name;
  original = Some i.name;
}

abbrev pub item_imports : ItemTree → List Imported
item_imports (tree.ImportAll x module_name) =
    record { name = x; module_name = module_name; original = None } ∷ []
item_imports (tree.ImportNames names module_name) = map (imported_name module_name) names
item_imports _ = []

-- ## Files and modules

-- a file with its tree
pub record ParsedData : Type 0 where
  pub path : Atoms
  pub file : FileTree

-- the items of a project file
abbrev pub items_of : FileTree → List ItemTree
items_of (tree.Project items) = items
items_of _ = []

-- the number of the module that has the file
abbrev pub module_of : List ModuleData → Atoms → ℕ
module_of modules path = position_or_len (λ m. list_any (same_path path) m.files) modules

abbrev pub names_of : List ModuleData → ParsedData → FileNames
names_of modules p = record {
  module_number = module_of modules p.path;
  decls = flat_map item_declared (items_of p.file);
  opened = flat_map item_opened (items_of p.file);
  imports = flat_map item_imports (items_of p.file);
}

abbrev pub world_of : List ModuleData → List ParsedData → World
world_of modules files = record { modules = map (λ m. m.name) modules; files = map (names_of modules) files }

-- ## Who sees a value

-- whether other files of its module see a declaration with this mark
abbrev pub is_exported : Mark → Bool
is_exported marks.Plain = false
is_exported marks.Export = true
is_exported marks.Public = true

-- whether other modules see a declaration with this mark
abbrev pub is_public : Mark → Bool
is_public marks.Plain = false
is_public marks.Export = false
is_public marks.Public = true

-- its own file sees a declaration with any mark, and so does whoever asks whether it is there at all
abbrev pub is_any : Mark → Bool
is_any mark = true

-- one of these, by where it is seen from
abbrev pub sees_of : Viewer → Mark → Bool
sees_of viewers.Any = is_any
sees_of viewers.Module = is_exported
sees_of viewers.Other = is_public

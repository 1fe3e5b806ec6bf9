-- The names of the files of a workspace.
use Rattle.std.specs.Prelude.{ℕ, List}
use Rattle.dscript_names_scopes.specs.declared.names.Declared.{Declared}
use Rattle.dscript_names_scopes.specs.declared.names.Imported.{Imported}

-- the names of a file: the number of its module, its declarations, the first names of its namespaces, and its
-- imports
pub record FileNames : Type 0 where
  pub module_number : ℕ
  pub decls : List Declared
  pub opened : List (List ℕ)
  pub imports : List Imported

-- the names of a workspace: its modules, and its files by path
pub record World : Type 0 where
  pub modules : List (List ℕ)
  pub files : List FileNames

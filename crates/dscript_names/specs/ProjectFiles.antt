-- The project files of a workspace: which they are, and their syntax trees.
use Rattle.std.specs.Prelude.{◌≡◌, ℕ, Bool, List, filter, map}
use Rattle.std.specs.List.{AllZip, flat_map}
use Rattle.bx_tree.specs.Paths.{Atoms, has_path}
use Rattle.bx_tree.specs.Trees.{Files}
use Rattle.dscript_ast.specs.declared.file.Form.TheVariants as forms
use Rattle.dscript_program.specs.Workspaces.{ModuleData}
use Rattle.dscript_parse.specs.Reading.{IsFile}
use Rattle.dscript_names_scopes.specs.Declarations.{ParsedData}
use Rattle.dscript_names.specs.Views.{parsed_data}
use Rattle.dscript_names.specs.declared.parsed.Parsed.{Parsed}

-- ## Which they are

-- the paths of the files of all modules, one module after the other
abbrev pub paths_of_modules : List ModuleData → List Atoms
paths_of_modules modules = flat_map (λ m. m.files) modules

-- the file is at one of these paths
abbrev pub is_among : List Atoms → Atoms × List ℕ → Bool
is_among paths file = has_path paths file.0

-- the files at these paths, in the order of the tree
abbrev pub files_among : List Atoms → Files → Files
files_among paths sources = filter (is_among paths) sources

-- the files of all modules, in the order of the tree
abbrev pub project_files : Files → List ModuleData → Files
project_files sources modules = files_among (paths_of_modules modules) sources

-- ## Their trees

-- the path of the file with the syntax tree that its text is
pub record IsParsed (file : Atoms × List ℕ) (parsed : ParsedData) : Type 0 where
  pub path : parsed.path ≡ file.0
  pub tree : IsFile forms.Project file.1 parsed.file

-- The files with their syntax trees, in one order. Project files are in the order of a tree, which is that of
-- their paths.
abbrev pub AreParsed : Files → List ParsedData → Type 0
AreParsed files parsed = AllZip IsParsed files parsed

-- parsed files in memory, as contracts see them
abbrev pub all_parsed : List Parsed → List ParsedData
all_parsed parsed = map parsed_data parsed

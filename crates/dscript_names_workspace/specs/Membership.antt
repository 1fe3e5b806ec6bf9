-- Which files belong to a module.
use Rattle.std.specs.Prelude.{Bool, not, ◌&&◌, List, [], ◌∷◌, filter, codes, Option, Some, None, unwrap_or}
use Rattle.std.specs.List.{list_any}
use Rattle.std.specs.Str.{bytes_eq}
use Rattle.bx_tree.specs.Paths.{Atoms, path_text}
use Rattle.bx_tree.specs.Trees.{Files, paths_of}
use Rattle.bx_path.specs.Joining.{parent}
use Rattle.dscript_names_workspace.specs.Paths.{is_module_file, is_specification}
use Rattle.bx_tree.specs.Below.{is_below}

-- the path of the configuration of a workspace, which is at the root of its tree
abbrev pub config_path : Atoms
config_path = codes "config.dsc" ∷ []

-- the path's text is that of the configuration
abbrev pub is_config : Atoms → Bool
is_config path = bytes_eq (path_text path) (codes "config.dsc")

-- the directory of a file
abbrev pub dir_of : Atoms → Atoms
dir_of path = unwrap_or (parent path) []

-- the directory of another listed module file is below this one and above the path
abbrev pub is_between : Atoms → Atoms → Atoms → Bool
is_between dir path other = is_below other dir && is_below path other

-- the file is below a listed directory that is itself below this one
abbrev pub is_deeper : List Atoms → Atoms → Atoms → Bool
is_deeper dirs dir path = list_any (is_between dir path) dirs

-- A file that belongs to a module in this directory which lists no files itself: it is below the directory
-- and ends in `.dsc`, and is neither a configuration nor below the directory of a deeper listed module.
abbrev pub is_implied : List Atoms → Atoms → Atoms → Bool
is_implied dirs dir path =
    is_below path dir && is_specification path && not (is_config path) && not (is_module_file path)
    && not (is_deeper dirs dir path)

-- the files that belong to a module in this directory which lists no files itself, in the order of the tree
abbrev pub implied_files : Files → List Atoms → Atoms → List Atoms
implied_files files dirs dir = filter (is_implied dirs dir) (paths_of files)

-- the files of a module: those that it lists, or else the implied ones
abbrev pub files_of_module : List Atoms → Option (List Atoms) → List Atoms
files_of_module implied (Some projects) = projects
files_of_module implied None = implied

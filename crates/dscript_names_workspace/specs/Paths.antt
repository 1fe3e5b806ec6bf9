-- What configurations ask of paths.
use Rattle.std.specs.Prelude.{◌≡◌, ℕ, ◌<◌, Bool, true, false, ◌||◌, nat_eq}
use Rattle.std.specs.Prelude.{List, [], ◌∷◌, map, filter, length, codes, slice_index_or}
use Rattle.std.specs.List.{AllByRecursion, ends_with}
use Rattle.std.specs.Str.{bytes_eq}
use Rattle.bx_tree.specs.Paths.{Atoms, has_path, path_text}
use Rattle.bx_tree.specs.Trees.{Files, paths_of}

-- the path is that of a source file
abbrev pub is_source : Files → Atoms → Bool
is_source files path = has_path (paths_of files) path

-- these paths, so far as files are there, in the order of the tree and each once
abbrev pub in_tree : Files → List Atoms → List Atoms
in_tree files paths = filter (has_path paths) (paths_of files)

-- the list has no elements
abbrev pub is_empty : {X : Type 0} → List X → Bool
is_empty [] = true
is_empty (x ∷ xs) = false

-- the file is named `module.config.dsc`, whatever its directory
abbrev pub is_module_file : Atoms → Bool
is_module_file path =
    bytes_eq (path_text path) (codes "module.config.dsc")
    || ends_with nat_eq (path_text path) (codes "/module.config.dsc")

-- the path's text ends in `.dsc`
abbrev pub is_specification : Atoms → Bool
is_specification path = ends_with nat_eq (path_text path) (codes ".dsc")

-- ## Files by position

-- the paths of the files at these positions
abbrev pub paths_at : Files → List ℕ → List Atoms
paths_at files positions = map (λ position. slice_index_or (paths_of files) position []) positions

-- each of these is the position of a file
abbrev pub AreWithin : Files → List ℕ → Type 0
AreWithin files positions = AllByRecursion (λ position. position < length files) positions

-- the path of the file at this position
abbrev pub IsAt : Files → ℕ → Atoms → Type 0
IsAt files position path = (position < length files) × (slice_index_or (paths_of files) position [] ≡ path)

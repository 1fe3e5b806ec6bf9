-- Files as contracts see them.
use Rattle.std.specs.Prelude.{◌≡◌, ℕ, ◌<◌, List, map, length}
use Rattle.std.specs.List.{HoldsAt}
use Rattle.bx_tree.specs.Paths.{Atoms, path_text}
use Rattle.bx_tree.specs.Trees.{Files}
use Rattle.bx_tree.specs.declared.tree_file.TreeFile.{TreeFile}

-- the path and the bytes of a file, without their addresses
abbrev pub file_of : TreeFile → Atoms × List ℕ
file_of f = (f.path, f.bytes.items)

abbrev pub files_of : List TreeFile → Files
files_of = map file_of

-- the file at this position has the path with this text
abbrev pub IsPositionOf : List ℕ → ℕ → List TreeFile → Type 0
IsPositionOf text position files =
    (position < length files) × HoldsAt (λ f. path_text f.path ≡ text) files position

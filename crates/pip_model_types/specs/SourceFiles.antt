-- Source files, kept as their paths and, beside them, their bytes.
use Rattle.std.specs.Prelude.{◌≡◌, ℕ, List, length}
use Rattle.std.specs.List.{zip}
use Rattle.bx_tree.specs.Paths.{Atoms}
use Rattle.bx_tree.specs.Trees.{IsTree}

-- as many bytes as paths, and together they are a tree
pub record AreSources (paths : List Atoms) (bytes : List (List ℕ)) : Type 0 where
  pub size : length paths ≡ length bytes
  pub tree : IsTree (zip paths bytes)

-- Tables of paths, each once, by their texts.
use Rattle.std.specs.Prelude.{◌≡◌, ℕ, ◌<◌, ◌^◌, ◌++◌, ◌∷◌, [], List, length, map, if◌then◌else◌}
use Rattle.std.specs.List.{AllByRecursion, IsDistinct}
use Rattle.std.specs.declared.alloc.Global.{Global}
use Rattle.std.specs.declared.vec.Vec.{Vec}
use Rattle.bx_tree.specs.Paths.{Atoms, IsPath, has_path, path_text, same_path}

-- paths that are numbered: each stands once, and the numbers fit into 32 bits
pub record AreNumbered (paths : List Atoms) : Type 0 where
  pub are_paths : AllByRecursion IsPath paths
  pub distinct : IsDistinct same_path paths
  pub few : length paths < 2 ^ 32

-- the paths with one more: a path that is there stays where it is, another goes last
abbrev pub with_path : List Atoms → Atoms → List Atoms
with_path paths path = if has_path paths path then paths else paths ++ path ∷ []

-- ## The table

-- paths by their texts
abbrev pub Entries : Type 0
Entries = List (Vec ℕ Global × Atoms)

-- the paths, in the order of their numbers
abbrev pub paths_in : Entries → List Atoms
paths_in = map (λ e. e.1)

-- what a table keeps: each path by its text
pub record IsTable (entries : Entries) : Type 0 where
  pub keyed : AllByRecursion (λ (e : Vec ℕ Global × Atoms). e.0.items ≡ path_text e.1) entries
  pub numbered : AreNumbered (paths_in entries)

-- Where the paths below a directory are in a list that is sorted by path.
use Rattle.std.specs.Prelude.{Bool, List, [], codes, if◌then◌else◌, ℕ, ◌++◌, ◌∷◌, ◌≢◌}
use Rattle.std.specs.Cmp.Lexicographic.{slice_cmp}
use Rattle.std.specs.List.{AllByRecursion}
use Rattle.std.specs.List.Sorted.{IsStrictlySortedBy}
use Rattle.std.specs.Ordering.{is_lt, nat_cmp}
use Rattle.bx_tree.specs.Below.{is_below}
use Rattle.bx_tree.specs.Paths.{Atoms, IsPath, path_cmp, path_text}

-- paths of files, in order
pub record AreFilePaths (paths : List Atoms) : Type 0 where
  pub are_paths : AllByRecursion IsPath paths
  pub no_root : AllByRecursion (λ path. path ≢ []) paths
  pub rising : IsStrictlySortedBy path_cmp paths

-- the bytes with which the text of each path below a directory begins
abbrev pub prefix_below : Atoms → List ℕ
prefix_below [] = []
prefix_below (atom ∷ rest) = path_text (atom ∷ rest) ++ codes "/"

-- whether a path comes before all paths whose texts begin with these bytes
abbrev pub comes_before : List ℕ → Atoms → Bool
comes_before prefix path = is_lt (slice_cmp nat_cmp (path_text path) prefix)

-- the first paths of a list, up to one that does not lie below the directory
abbrev pub first_below : Atoms → List Atoms → List Atoms
first_below dir [] = []
first_below dir (path ∷ paths) = if is_below path dir then path ∷ first_below dir paths else []

-- Trees: files by path, in order, none a directory of another.
use Rattle.std.specs.Prelude.{◌≡◌, ◌≢◌, ℕ, List, [], ◌∷◌, map, Option, Some, None}
use Rattle.std.specs.Prelude.{if◌then◌else◌, codes, Contains, ◌⊎◌}
use Rattle.std.specs.List.{AllByRecursion}
use Rattle.std.specs.List.Sorted.{IsStrictlySortedBy}
use Rattle.bx_tree.specs.Paths.{Atoms, TextGoesOn, IsBelow, IsPath, path_cmp, same_path}

-- files: each a path with its bytes
abbrev pub Files : Type 0
Files = List (Atoms × List ℕ)

-- the paths of files, in order
abbrev pub paths_of : Files → List Atoms
paths_of files = map (λ f. f.0) files

-- no path of the list is a directory of another
abbrev pub NoneNested : List Atoms → Type 0
NoneNested paths =
    (dir path : Atoms) → Contains paths dir → Contains paths path → IsBelow path dir → ⊥

-- a tree: files in strictly ascending order of path texts, none of them the root or a directory of another
pub record IsTree (files : Files) : Type 0 where
  pub paths : AllByRecursion IsPath (paths_of files)
  pub no_root : AllByRecursion (λ path. path ≢ []) (paths_of files)
  pub rising : IsStrictlySortedBy path_cmp (paths_of files)
  pub unnested : NoneNested (paths_of files)

-- the bytes of the file at a path, if there is one
abbrev pub file_at : Files → Atoms → Option (List ℕ)
file_at [] path = None
file_at (f ∷ fs) path = if same_path f.0 path then Some f.1 else file_at fs path

-- the text is the atom, or starts with the atom and a `/`
abbrev pub IsFirstAtom : List ℕ → List ℕ → Type 0
IsFirstAtom atom text = (text ≡ atom) ⊎ TextGoesOn atom text

-- the path has `out` or `report.txt` as its first atom
abbrev pub IsReserved : Atoms → Type 0
IsReserved path =
    (rest : Atoms) × ((path ≡ codes "out" ∷ rest) ⊎ (path ≡ codes "report.txt" ∷ rest))

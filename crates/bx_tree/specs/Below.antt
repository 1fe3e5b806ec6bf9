-- What lies below a directory.
use Rattle.std.specs.Prelude.{Bool, List, None, Option, Some, [], false, if◌then◌else◌, option_and_then, true, ℕ, ◌≡◌, ◌⊎◌, ◌∷◌, ◌||◌}
use Rattle.std.specs.Option.{option_map_or}
use Rattle.std.specs.Str.{bytes_eq}
use Rattle.bx_tree.specs.Paths.{Atoms, IsBelow, same_path}

-- the atoms of a path after those of a directory, if the path starts with these
abbrev pub strip_dir : Atoms → Atoms → Option Atoms
strip_dir [] path = Some path
strip_dir (d ∷ ds) [] = None
strip_dir (d ∷ ds) (a ∷ as') = if bytes_eq d a then strip_dir ds as' else None

-- the first of the atoms
abbrev pub first_atom : Atoms → Option (List ℕ)
first_atom [] = None
first_atom (a ∷ as') = Some a

-- the atom of the path that comes next after the directory, if the path lies strictly below it
abbrev pub next_atom : Atoms → Atoms → Option (List ℕ)
next_atom dir path = option_and_then first_atom (strip_dir dir path)

-- whether the path lies strictly below the directory
abbrev pub is_below : Atoms → Atoms → Bool
is_below path dir = option_map_or (λ atom. true) (next_atom dir path) false

-- the path is the directory, or lies below it
abbrev pub IsAtOrBelow : Atoms → Atoms → Type 0
IsAtOrBelow path dir = (path ≡ dir) ⊎ IsBelow path dir

-- whether the path is the directory, or lies below it
abbrev pub is_at_or_below : Atoms → Atoms → Bool
is_at_or_below path dir = same_path path dir || is_below path dir

-- whether this is just one atom
abbrev pub is_one_atom : Atoms → Bool
is_one_atom [] = false
is_one_atom (atom ∷ []) = true
is_one_atom (atom ∷ next ∷ rest) = false

-- whether the path lies in the directory itself, and not in one below it
abbrev pub is_directly_in : Atoms → Atoms → Bool
is_directly_in path dir = option_map_or is_one_atom (strip_dir dir path) false

-- whether one of the two paths lies strictly below the other
abbrev pub is_nested : Atoms → Atoms → Bool
is_nested p q = is_below p q || is_below q p

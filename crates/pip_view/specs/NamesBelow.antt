-- Names of what lies below a directory.
use Rattle.std.specs.Prelude.{ℕ, List, filter}
use Rattle.std.specs.List.{filter_map}
use Rattle.bx_tree.specs.Below.{is_below, next_atom}
use Rattle.bx_tree.specs.Paths.{Atoms}

-- the names that those of the items which lie below one directory add to the listing of another
abbrev pub names_within : {X : Type 0} → (X → Atoms) → Atoms → Atoms → List X → List (List ℕ)
names_within path top dir items = filter_map (λ x. next_atom top (path x)) (filter (λ x. is_below (path x) dir) items)

-- The first place of a text in another.
use Rattle.std.specs.Prelude.{ℕ, suc, nat_eq, if◌then◌else◌, List, [], ◌∷◌}
use Rattle.std.specs.Prelude.{Option, Some, None, option_map}
use Rattle.std.specs.List.{starts_with}

abbrev pub first_place : List ℕ → List ℕ → Option ℕ
first_place other [] = if starts_with nat_eq [] other then Some 0 else None
first_place other (b ∷ bs) =
    if starts_with nat_eq (b ∷ bs) other then Some 0 else option_map suc (first_place other bs)

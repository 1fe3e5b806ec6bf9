-- Items of lists from a position on.
use Rattle.std.specs.Prelude.{◌≡◌, ℕ, ◌+◌, List, [], ◌∷◌, drop, Option, Some, None}
use Rattle.dscript_value.specs.Plain.{Plain, plain_of}
use Rattle.dscript_value.specs.declared.value.Value.{Value}

-- the item at a position with the position after it, or none where there are no more items
abbrev pub IsItemFrom : List Plain → ℕ → Option (Value × ℕ) → Type 0
IsItemFrom xs at None = drop at xs ≡ []
IsItemFrom xs at (Some it) = (it.1 ≡ at + 1) × (drop at xs ≡ plain_of it.0 ∷ drop it.1 xs)

-- The first number at which something holds.
use Rattle.std.specs.Prelude.{ℕ, ◌<◌, Option, Some, None}

-- the number is the first at which P holds; if there is none, P holds nowhere
abbrev pub IsFirst : (ℕ → Type 0) → Option ℕ → Type 0
IsFirst P None = (i : ℕ) → P i → ⊥
IsFirst P (Some i) = P i × ((j : ℕ) → j < i → P j → ⊥)

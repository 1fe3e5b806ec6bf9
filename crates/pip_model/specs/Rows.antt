-- Rows of bits that are made of the rows of smaller numbers.
use Rattle.std.specs.Prelude.{◌≡◌, ◌↔◌, ℕ, ◌<◌, List, [], length, Contains, ◌⊎◌, All}
use Rattle.std.specs.List.{HoldsAt, slice_index_or}
use Rattle.pip_model.specs.Bits.{HasBit}

-- each number of list i is below i
abbrev pub PointBack : List (List ℕ) → Type 0
PointBack lists = (i : ℕ) → i < length lists → HoldsAt (λ targets. All (λ target. target < i) targets) lists i

-- the numbers that the row of a target has, and the target itself
abbrev pub ByTarget : List (List ℕ) → List ℕ → ℕ → Type 0
ByTarget rows targets k =
    (target : ℕ) × Contains targets target × ((k ≡ target) ⊎ HasBit (slice_index_or rows target []) k)

-- the row has just the targets and what their rows have
abbrev pub IsRowOf : List (List ℕ) → List ℕ → List ℕ → Type 0
IsRowOf rows targets row = (k : ℕ) → HasBit row k ↔ ByTarget rows targets k

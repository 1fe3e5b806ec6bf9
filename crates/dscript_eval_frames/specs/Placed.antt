-- Where captured locals are.
use Rattle.std.specs.Prelude.{◌≡◌, ◌==◌, ℕ, List, Option}
use Rattle.std.specs.List.{position_from}
use Rattle.std.specs.BTreeMap.{BTreeMap, get}
use Rattle.std.specs.Ordering.{nat_cmp}

-- the place of the first of these locals that is this one, where places are counted from this number on
abbrev pub place_from : ℕ → List ℕ → ℕ → Option ℕ
place_from first locals n = position_from (λ m. m == n) first locals

-- the map has for each of these locals the place where it is first, counted from this number on, and nothing for others
abbrev pub KeepPlaces : BTreeMap ℕ ℕ → ℕ → List ℕ → Type 0
KeepPlaces places first locals = (n : ℕ) → get nat_cmp places n ≡ place_from first locals n

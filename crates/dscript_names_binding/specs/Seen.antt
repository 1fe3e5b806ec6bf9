-- Sets of the numbers of a list.
use Rattle.std.specs.Prelude.{◌≡◌, ℕ, ◌==◌, List}
use Rattle.std.specs.BTreeSet.{BTreeSet, contains}
use Rattle.std.specs.List.{list_any}
use Rattle.std.specs.Ordering.{nat_cmp}

-- the set has the numbers of the list and no others
abbrev pub HasNumbers : List ℕ → BTreeSet ℕ → Type 0
HasNumbers numbers set = (n : ℕ) → contains nat_cmp set n ≡ list_any (λ m. m == n) numbers

-- Names in the order of their bytes, each once.
use Rattle.std.specs.Prelude.{ℕ, List}
use Rattle.std.specs.Cmp.Lexicographic.{slice_cmp}
use Rattle.std.specs.List.Sorted.{IsStrictlySortedBy}
use Rattle.std.specs.Ordering.{nat_cmp}

-- each name comes before those after it
abbrev pub IsNameSet : List (List ℕ) → Type 0
IsNameSet = IsStrictlySortedBy (slice_cmp nat_cmp)

-- When an answer may say that the outside failed.
use Rattle.std.specs.Prelude.{ℕ, ◌+◌, ◌-◌, ◌^◌, ◌<◌, ◌≤◌, min, Option, IsSome}
use Rattle.std.specs.Option.{ForSome}

-- the last value of a counter of 64 bits, at which it stays
abbrev pub last_count : ℕ
last_count = 2 ^ 64 - 1

-- one more, where a counter of 64 bits stays at its last value
abbrev pub counted : ℕ → ℕ
counted n = min (n + 1) last_count

-- A count of faults rose, from what it was before to what it is now. It counts as risen, too, where it is now
-- at the last value.
abbrev pub Rose : ℕ → ℕ → Type 0
Rose before now = counted before ≤ now

-- The count of faults never falls, and the answer that reports a fault comes only where the count rose.
pub record HasCause (before now : ℕ) (answer : Type 0) : Type 0 where
  pub later : before ≤ now
  pub rose : answer → Rose before now

-- A count of faults is at most the bound, where there is one.
abbrev pub IsWithin : Option ℕ → ℕ → Type 0
IsWithin bound faults = ForSome bound (λ most. faults ≤ most)

-- A count of faults has not reached the last value, where there is a bound.
abbrev pub CanRise : Option ℕ → ℕ → Type 0
CanRise bound faults = IsSome bound → faults < last_count

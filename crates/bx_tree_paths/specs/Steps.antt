-- How many steps were taken.
use Rattle.std.specs.Prelude.{◌≡◌, ℕ, ◌+◌, ◌≤◌, ◌^◌}

-- k steps were taken, where 2 to the power of k is at most the bound
abbrev pub TookAtMost : ℕ → ℕ → ℕ → Type 0
TookAtMost old new bound = (k : ℕ) × (new ≡ old + k) × (2 ^ k ≤ bound)

-- Numbers in rising order, each once.
use Rattle.std.specs.Prelude.{◌↔◌, ℕ, List, Contains}
use Rattle.std.specs.List.Sorted.{IsStrictlyIncreasing}

-- the inputs are just the targets, rising, each once
pub record AreTargets (targets inputs : List ℕ) : Type 0 where
  pub rising : IsStrictlyIncreasing inputs
  pub members : (j : ℕ) → Contains inputs j ↔ Contains targets j

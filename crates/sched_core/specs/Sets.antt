-- Sets of numbers as flags, and the least number that passes a test.
use Rattle.std.specs.Prelude.{◌≡◌, ℕ, ◌<◌, ◌≤◌, ◌+◌, ◌*◌, ◌/◌, Bool, true, false, List, length}
use Rattle.std.specs.List.{slice_index_or}
use Rattle.sched_core.specs.declared.ready_set.TheConstants.{BLOCK}

abbrev pub flag_at : List Bool → ℕ → Bool
flag_at flags k = slice_index_or flags k false

-- the least number that passes a test
pub record IsLeast (p : ℕ → Bool) (n : ℕ) : Type 0 where
  pub passes : p n ≡ true
  pub least : (k : ℕ) → k < n → p k ≡ false

abbrev pub IsNever : (ℕ → Bool) → Type 0
IsNever p = (k : ℕ) → p k ≡ false

-- each member lies in a block that is marked
pub record IsCovered (flags blocks : List Bool) : Type 0 where
  pub covered : (k : ℕ) → flag_at flags k ≡ true → flag_at blocks (k / BLOCK) ≡ true
  pub enough : length flags ≤ length blocks * BLOCK
  pub few : length blocks ≤ length flags / BLOCK + 1

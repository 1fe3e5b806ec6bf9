-- A row of a table: which suffixes of a pattern match a name.
use Rattle.std.specs.Prelude.{◌≡◌, ℕ, ◌+◌, ◌≤◌, Bool, false, List, length, drop, slice_index_or}
use Rattle.bx_path.specs.Globbing.{is_match}

-- for each suffix of the pattern, from the longest to the empty one, whether it matches the name
pub record IsRow (pattern name : List ℕ) (row : List Bool) : Type 0 where
  pub size : length row ≡ length pattern + 1
  pub each : (j : ℕ) → j ≤ length pattern → slice_index_or row j false ≡ is_match (drop j pattern) name

-- Periods of texts: how far a text may be moved along itself so that it agrees with itself again.
use Rattle.std.specs.Prelude.{◌≡◌, ℕ, ◌+◌, ◌<◌, ◌≤◌, List, length}
use Rattle.std.proofs.Common.{get_or}

-- A prefix of a text, of this length, agrees with itself when it is moved by this distance.
pub record IsPeriod (text : List ℕ) (count shift : ℕ) : Type 0 where
  pub same : (j : ℕ) → shift + j < count → get_or text (shift + j) 0 ≡ get_or text j 0

-- the least period that is not 0
pub record IsLeastPeriod (text : List ℕ) (count shift : ℕ) : Type 0 where
  pub some : 0 < shift
  pub within : shift ≤ count
  pub period : IsPeriod text count shift
  pub least : (s : ℕ) → 0 < s → s < shift → IsPeriod text count s → ⊥

-- the least period of the first byte, of the first two bytes, and so on
pub record ArePeriods (text periods : List ℕ) : Type 0 where
  pub each : (n : ℕ) → n < length periods → IsLeastPeriod text (n + 1) (get_or periods n 0)

use Rattle.std.proofs.Common.{◌≡◌, ℕ, length, take}
use Rattle.std.specs.Prelude.{◌↔◌}
use Rattle.pip_model.specs.Bits.{HasBit}
use Rattle.pip_model.specs.Rows.{ByTarget}
use Rattle.pip_model.proofs.reach.row_of.Given as goal

abbrev pub invariant-targets : goal.invariant-targets
invariant-targets l = record {
  size : length l.row ≡ l.words;
  bits : (k : ℕ) → HasBit l.row k ↔ ByTarget l.rows (take l.target-index l.targets) k;
}

use Rattle.std.proofs.Common.{◌≡◌, ℕ, ◌<◌, length}
use Rattle.std.specs.List.{HoldsAt}
use Rattle.pip_model.specs.Plans.{AreInputs}
use Rattle.pip_model.proofs.edges.all_inputs.Given as goal

abbrev pub invariant-pips : goal.invariant-pips
invariant-pips l = record {
  size : length l.all.items ≡ l.pip-index;
  each : (i : ℕ) → i < length l.all.items → HoldsAt (AreInputs l.pips i) l.all.items i;
}

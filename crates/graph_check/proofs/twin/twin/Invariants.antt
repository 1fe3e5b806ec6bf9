use Rattle.std.proofs.Common.{ℕ, ◌<◌}
use Rattle.graph_check.specs.Described.{HasDescribed}
use Rattle.graph_check.specs.Twin.{TwinAt, descriptions}
use Rattle.graph_check_outputs.proofs.Repeats.{IsSoFar}
use Rattle.graph_check.proofs.twin.twin.Given as goal

abbrev pub invariant-pips : goal.invariant-pips
invariant-pips l = record {
  none : (j : ℕ) → j < l.number → TwinAt l.pips j → ⊥;
  seen : IsSoFar descriptions l.pips l.number (HasDescribed l.seen);
}

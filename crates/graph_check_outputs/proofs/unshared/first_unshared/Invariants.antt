use Rattle.std.proofs.Common.{ℕ, ◌<◌}
use Rattle.std.specs.List.{Contains}
use Rattle.graph_check_outputs.specs.Sharing.{declared_dir_paths, lone_paths}
use Rattle.graph_check_outputs.proofs.Repeats.{IsSoFar}
use Rattle.graph_check_outputs.proofs.Unsharing.{ClashAt}
use Rattle.graph_check_outputs.proofs.unshared.first_unshared.Given as goal

abbrev pub invariant-pips : goal.invariant-pips
invariant-pips l = record {
  none : (j : ℕ) → j < l.number → ClashAt l.pips j → ⊥;
  all : IsSoFar declared_dir_paths l.pips l.number (Contains l.seen.all);
  lone : IsSoFar lone_paths l.pips l.number (Contains l.seen.lone);
}

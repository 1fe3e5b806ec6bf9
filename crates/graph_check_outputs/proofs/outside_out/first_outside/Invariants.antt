use Rattle.std.proofs.Common.{ℕ, ◌<◌}
use Rattle.graph_check_outputs.specs.OutsideOut.{OutsideOutAt}
use Rattle.graph_check_outputs.proofs.outside_out.first_outside.Given as goal

abbrev pub invariant-pips : goal.invariant-pips
invariant-pips l = (j : ℕ) → j < l.number → OutsideOutAt l.pips j → ⊥

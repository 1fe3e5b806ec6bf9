use Rattle.std.proofs.Common.{ℕ, ◌<◌}
use Rattle.graph_check.specs.NoSuchSource.{NoSuchSourceAt}
use Rattle.graph_check.proofs.no_such_source.no_such_source.Given as goal

abbrev pub invariant-pips : goal.invariant-pips
invariant-pips l = (j : ℕ) → j < l.number → NoSuchSourceAt l.pips l.sources j → ⊥

use Rattle.std.proofs.Common.{ℕ, ◌<◌}
use Rattle.std.specs.Prelude.{◌↔◌}
use Rattle.std.specs.List.{Contains}
use Rattle.bx_tree.specs.Paths.{Atoms}
use Rattle.graph_check_outputs.specs.DoubleProducer.{DoubleProducerAt}
use Rattle.graph_check_outputs.specs.Outputs.{declared_files}
use Rattle.graph_check_outputs.proofs.Repeats.{IsBefore}
use Rattle.graph_check_outputs.proofs.double_producer.first_double_producer.Given as goal

abbrev pub invariant-pips : goal.invariant-pips
invariant-pips l = record {
  none : (j : ℕ) → j < l.number → DoubleProducerAt l.pips j → ⊥;
  seen : (p : Atoms) → Contains l.seen p ↔ IsBefore declared_files l.pips l.number p;
}

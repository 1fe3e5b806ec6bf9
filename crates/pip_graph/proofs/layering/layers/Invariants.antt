use Rattle.pip_graph.proofs.LayersOf.{LayersTo}
use Rattle.pip_graph.proofs.layering.layers.Given as goal

abbrev pub invariant-pips : goal.invariant-pips
invariant-pips l = LayersTo l.plan.pips l.number l.layers.items

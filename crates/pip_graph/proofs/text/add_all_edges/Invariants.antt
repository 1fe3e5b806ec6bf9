use Rattle.pip_graph.proofs.AllEdges.{EdgesTo}
use Rattle.pip_graph.proofs.text.add_all_edges.Given as goal

abbrev pub invariant-pips : goal.invariant-pips
invariant-pips l = EdgesTo l.plan.pips l.number l.fn.text.items l.text.items

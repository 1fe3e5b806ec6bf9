use Rattle.std.proofs.Common.{◌≡◌, ◌++◌, drop}
use Rattle.pip_graph.specs.GraphText.{node_lines}
use Rattle.pip_graph.proofs.text.add_nodes.Given as goal

abbrev pub invariant-pips : goal.invariant-pips
invariant-pips l = l.text.items ++ node_lines l.ends l.number (drop l.number l.pips) ≡ l.fn.text.items ++ node_lines l.ends 0 l.pips

use Rattle.std.proofs.Common.{◌≡◌, ◌++◌, drop}
use Rattle.std.specs.List.{flat_map}
use Rattle.pip_graph.specs.GraphText.{edge_line}
use Rattle.pip_graph.proofs.text.add_edges.Given as goal

abbrev pub invariant-inputs : goal.invariant-inputs
invariant-inputs l =
    l.text.items ++ flat_map (edge_line l.number) (drop l.input-index l.inputs) ≡ l.fn.text.items ++ flat_map (edge_line l.number) l.inputs

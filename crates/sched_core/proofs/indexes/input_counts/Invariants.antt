use Rattle.std.proofs.Common.{◌≡◌, length, map, take}
use Rattle.sched_core.specs.declared.graph.Node.{Node as AnyNode}
use Rattle.sched_core.proofs.indexes.input_counts.Given as goal

abbrev pub invariant-nodes : goal.invariant-nodes
invariant-nodes l = l.counts.items ≡ map (λ (node : AnyNode). length node.inputs) (take l.node-index l.nodes)

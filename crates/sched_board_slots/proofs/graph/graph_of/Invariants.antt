-- Each node so far is that of its pip.
use Rattle.std.proofs.Common.{◌≡◌, ℕ, ◌<◌, length}
use Rattle.sched_core.specs.Table.{node_at}
use Rattle.sched_board_slots.specs.Graphs.{IsNodeOf}
use Rattle.sched_board_slots.proofs.graph.graph_of.Given as goal

abbrev pub invariant-pips : goal.invariant-pips
invariant-pips l = (length l.graph ≡ l.pip) × ((k : ℕ) → k < l.pip → IsNodeOf l.plan k (node_at l.graph k))

use Rattle.std.proofs.Common.{◌≡◌, length}
use Rattle.sched_core.proofs.Dependents.{AreDependentsBelow}
use Rattle.sched_core.proofs.indexes.dependents_of.Given as goal

abbrev pub invariant-nodes : goal.invariant-nodes
invariant-nodes l = record {
  size : length l.dependents.items ≡ length l.nodes;
  below : AreDependentsBelow l.nodes l.dependents.items l.pip;
}

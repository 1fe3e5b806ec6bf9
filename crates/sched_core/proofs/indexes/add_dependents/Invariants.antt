use Rattle.std.proofs.Common.{◌≡◌, length, take}
use Rattle.sched_core.specs.Indexes.{AddsDependents}
use Rattle.sched_core.proofs.indexes.add_dependents.Given as goal

abbrev pub invariant-inputs : goal.invariant-inputs
invariant-inputs l = record {
  size : length l.dependents.items ≡ length l.initial.dependents.items;
  added : AddsDependents l.initial.dependents.items l.dependents.items (take l.input-index l.inputs) l.pip;
}

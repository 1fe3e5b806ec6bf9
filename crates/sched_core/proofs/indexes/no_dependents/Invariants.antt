use Rattle.std.proofs.Common.{◌≡◌, replicate, []}
use Rattle.sched_core.proofs.indexes.no_dependents.Given as goal

abbrev pub invariant-pips : goal.invariant-pips
invariant-pips l = l.dependents.items ≡ replicate l.counter []

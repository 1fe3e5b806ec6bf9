use Rattle.std.proofs.Common.{◌≡◌, ℕ, ◌<◌, ◌≤◌, false}
use Rattle.sched_core.specs.Sets.{flag_at}
use Rattle.sched_core.proofs.ready_set.first_between.Given as goal

abbrev pub invariant-numbers : goal.invariant-numbers
invariant-numbers l = (k : ℕ) → l.from ≤ k → k < l.number → flag_at l.flags k ≡ false

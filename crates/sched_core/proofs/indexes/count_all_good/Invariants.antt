use Rattle.std.proofs.Common.{◌≡◌, ℕ, ◌+◌, length, take}
use Rattle.sched_core.specs.Indexes.{AreFlagged, HasSize, missing_at, times}
use Rattle.sched_core.proofs.indexes.count_all_good.Given as goal

abbrev pub invariant-dependents : goal.invariant-dependents
invariant-dependents l = record {
  size : HasSize l.ready (length l.states);
  flagged : AreFlagged l.states l.ready;
  missing : (p : ℕ) → missing_at l.ready p + times p (take l.dependent-index l.dependents) ≡ missing_at l.initial.ready p;
  failed : l.ready.failed ≡ l.initial.ready.failed;
}

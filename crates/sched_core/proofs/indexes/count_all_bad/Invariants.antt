use Rattle.std.proofs.Common.{◌≡◌, ℕ, ◌==◌, ◌||◌, not, length, take}
use Rattle.sched_core.specs.Indexes.{AreFlagged, HasSize, times}
use Rattle.sched_core.specs.Sets.{flag_at}
use Rattle.sched_core.proofs.indexes.count_all_bad.Given as goal

abbrev pub invariant-dependents : goal.invariant-dependents
invariant-dependents l = record {
  size : HasSize l.ready (length l.states);
  flagged : AreFlagged l.states l.ready;
  missing : l.ready.missing ≡ l.initial.ready.missing;
  failed : (p : ℕ) → flag_at l.ready.failed p ≡ (flag_at l.initial.ready.failed p || not (times p (take l.dependent-index l.dependents) == 0));
}

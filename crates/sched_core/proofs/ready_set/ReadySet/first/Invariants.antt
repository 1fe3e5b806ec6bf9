use Rattle.std.proofs.Common.{◌≡◌, ℕ, ◌*◌, ◌<◌, false}
use Rattle.sched_core.specs.Sets.{IsCovered, flag_at}
use Rattle.sched_core.specs.declared.ready_set.TheConstants.{BLOCK}
use Rattle.sched_core.proofs.ready_set.ReadySet.first.Given as goal

abbrev pub invariant-marks : goal.invariant-marks
invariant-marks l = record {
  covered : IsCovered l.flags.items l.blocks.items;
  none : (k : ℕ) → k < l.block * BLOCK → flag_at l.flags.items k ≡ false;
}

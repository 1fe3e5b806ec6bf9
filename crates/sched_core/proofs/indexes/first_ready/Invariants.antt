use Rattle.std.proofs.Common.{◌≡◌, length}
use Rattle.sched_core.specs.Indexes.{HasSize}
use Rattle.sched_core.proofs.Flags.{AreFlaggedBelow}
use Rattle.sched_core.proofs.indexes.first_ready.Given as goal

abbrev pub invariant-pips : goal.invariant-pips
invariant-pips l = record {
  size : HasSize l.ready (length l.nodes);
  missing : l.ready.missing ≡ l.initial.ready.missing;
  failed : l.ready.failed ≡ l.initial.ready.failed;
  flagged : AreFlaggedBelow l.ready l.pip;
}

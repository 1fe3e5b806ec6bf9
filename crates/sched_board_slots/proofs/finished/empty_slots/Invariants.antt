use Rattle.std.proofs.Common.{◌≡◌, replicate}
use Rattle.sched_board_slots.specs.declared.held.Held.TheVariants as held
use Rattle.sched_board_slots.proofs.finished.empty_slots.Given as goal

abbrev pub invariant-pips : goal.invariant-pips
invariant-pips l = l.slots.items ≡ replicate l.counter held.Empty

use Rattle.std.proofs.Common.{◌≡◌, take}
use Rattle.sched_board_slots.proofs.holding.are_same_variables.Given as goal

abbrev pub invariant-pairs : goal.invariant-pairs
invariant-pairs l = take l.place l.a ≡ take l.place l.b

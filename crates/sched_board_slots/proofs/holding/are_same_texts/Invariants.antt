use Rattle.std.proofs.Common.{◌≡◌, take}
use Rattle.sched_board_slots.proofs.holding.are_same_texts.Given as goal

abbrev pub invariant-texts : goal.invariant-texts
invariant-texts l = take l.place l.a ≡ take l.place l.b

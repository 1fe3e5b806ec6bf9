use Rattle.std.proofs.Common.{◌≡◌, map, take}
use Rattle.prints.specs.Processes.{with_pip}
use Rattle.sched_board_slots.proofs.holding.are_same_dirs.Given as goal

abbrev pub invariant-dirs : goal.invariant-dirs
invariant-dirs l = map (with_pip 0) (take l.place l.a) ≡ map (with_pip 0) (take l.place l.b)

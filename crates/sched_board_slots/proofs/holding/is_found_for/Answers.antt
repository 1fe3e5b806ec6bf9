use Rattle.sched_board_slots.proofs.Tests.{found_for_same}
use Rattle.sched_board_slots.proofs.holding.is_found_for.Goals as goal

pub returns-in-Some : goal.returns-in-Some
returns-in-Some c = λ yes. found_for_same c.args.found.now c.in-Some.work.now _ c.in-Some.ensures (c.is_work_of.ensures.0 yes)

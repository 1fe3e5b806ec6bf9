-- By induction on the number of a pip, as its inputs have smaller ones.
use Rattle.sched_board_slots.proofs.Following.{follows}
use Rattle.sched_board_slots.proofs.laws.slots_follow_one_thread.Goals as goal

pub returns : goal.returns
returns c = follows

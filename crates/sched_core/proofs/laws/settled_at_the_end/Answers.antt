-- By induction on the number of a pip, as its inputs have smaller ones.
use Rattle.sched_core.proofs.Settled.{ends_settled}
use Rattle.sched_core.proofs.laws.settled_at_the_end.Goals as goal

pub returns : goal.returns
returns c = ends_settled

use Rattle.sched_board_slots.proofs.Tests.{path_test}
use Rattle.sched_board_slots.proofs.holding.is_same_path.Goals as goal

pub returns : goal.returns
returns c = path_test c.args.a.now c.args.b.now c.eq.result c.eq.ensures

use Rattle.std.proofs.lemmas.Slice.Eq.{slice_eq-Decides}
use Rattle.sched_board_slots.proofs.Tests.{outdir_decides}
use Rattle.sched_board_slots.proofs.holding.are_same_outdirs.Goals as goal

pub returns : goal.returns
returns c = slice_eq-Decides outdir_decides c.args.a.now c.args.b.now c.eq.result c.eq.ensures

use Rattle.std.proofs.lemmas.Slice.Eq.{slice_eq-Decides}
use Rattle.bx_tree.specs.Orders.{same_path_decides}
use Rattle.sched_board_slots.proofs.holding.are_same_paths.Goals as goal

pub returns : goal.returns
returns c = slice_eq-Decides same_path_decides c.args.a.now c.args.b.now c.eq.result c.eq.ensures

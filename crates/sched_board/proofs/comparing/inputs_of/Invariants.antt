-- The inputs so far, each with the files in its slot.
use Rattle.std.proofs.Common.{◌≡◌, map, take}
use Rattle.sched_board.proofs.GivenFiles.{pair_of}
use Rattle.sched_board.proofs.comparing.inputs_of.Given as goal

abbrev pub invariant-inputs : goal.invariant-inputs
invariant-inputs l = l.inputs ≡ map (pair_of l.slots) (take l.input-index l.input-items)

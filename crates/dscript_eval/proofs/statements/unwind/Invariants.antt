use Rattle.std.proofs.Common.{◌≡◌, length}
use Rattle.dscript_eval_frames.specs.Views.{seen}
use Rattle.dscript_eval_frames.specs.Works.{returned_by}
use Rattle.dscript_eval.proofs.statements.unwind.Given as goal

abbrev pub invariant-work : goal.invariant-work
invariant-work l = returned_by (seen l.fn.machine).given (seen l.fn.machine) ≡ returned_by (seen l.machine).given (seen l.machine)

abbrev pub decreases-work : goal.decreases-work
decreases-work l = length (seen l.machine).work

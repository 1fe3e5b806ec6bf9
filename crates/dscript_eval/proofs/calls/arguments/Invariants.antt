use Rattle.std.proofs.Common.{◌≡◌, length}
use Rattle.dscript_eval_frames.specs.Views.{seen}
use Rattle.dscript_eval_frames.specs.Works.{comes_with}
use Rattle.dscript_eval_frames.specs.declared.work.CallWork.TheVariants as call
use Rattle.dscript_eval_frames.specs.declared.work.Work.TheVariants as works
use Rattle.dscript_eval.proofs.calls.arguments.Given as goal

abbrev pub invariant-arguments : goal.invariant-arguments
invariant-arguments l =
    comes_with (works.Call (call.Arguments (record { ref_ptr = (0, 0); now = l.fn.es }) l.fn.done l.for_call)) (seen l.fn.machine)
    ≡ comes_with (works.Call (call.Arguments (record { ref_ptr = (0, 0); now = l.left }) l.made l.for_call)) (seen l.machine)

abbrev pub decreases-arguments : goal.decreases-arguments
decreases-arguments l = length l.left

use Rattle.std.proofs.Common.{◌≡◌}
use Rattle.dscript_eval_frames.specs.Views.{seen}
use Rattle.dscript_eval_frames.specs.Works.{comes_with}
use Rattle.dscript_eval_frames.specs.declared.work.CallWork.TheVariants as call
use Rattle.dscript_eval_frames.specs.declared.work.Work.TheVariants as works
use Rattle.dscript_eval.proofs.callbacks.calls_at_once.Given as goal

abbrev pub invariant-items : goal.invariant-items
invariant-items l =
    comes_with (works.Call (call.Loop l.fn.callbacks)) (seen l.fn.machine)
    ≡ comes_with (works.Call (call.Loop l.callbacks)) (seen l.machine)

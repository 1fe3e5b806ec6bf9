use Rattle.std.proofs.Common.{◌≡◌, length}
use Rattle.dscript_eval_frames.specs.Views.{seen}
use Rattle.dscript_eval_frames.specs.Works.{comes_with}
use Rattle.dscript_eval_frames.specs.declared.work.ExprWork.TheVariants as expr
use Rattle.dscript_eval_frames.specs.declared.work.Work.TheVariants as works
use Rattle.dscript_eval_exprs.proofs.collections.fields.Given as goal

abbrev pub invariant-properties : goal.invariant-properties
invariant-properties l =
    comes_with (works.Expr (expr.Fields (record { ref_ptr = (0, 0); now = l.fn.ps }) l.fn.done)) (seen l.fn.machine)
    ≡ comes_with (works.Expr (expr.Fields (record { ref_ptr = (0, 0); now = l.left }) l.made)) (seen l.machine)

abbrev pub decreases-properties : goal.decreases-properties
decreases-properties l = length l.left

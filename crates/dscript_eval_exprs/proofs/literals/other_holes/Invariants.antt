use Rattle.std.proofs.Common.{◌≡◌, length}
use Rattle.dscript_eval_frames.specs.Views.{seen}
use Rattle.dscript_eval_frames.specs.Works.{comes_with}
use Rattle.dscript_eval_frames.specs.declared.work.ExprWork.TheVariants as expr
use Rattle.dscript_eval_frames.specs.declared.work.Work.TheVariants as works
use Rattle.dscript_eval_exprs.proofs.literals.other_holes.Given as goal

abbrev pub invariant-holes : goal.invariant-holes
invariant-holes l =
    comes_with (works.Expr (expr.Holes (record { ref_ptr = (0, 0); now = l.fn.holes }) l.fn.text l.fn.literal)) (seen l.fn.machine)
    ≡ comes_with (works.Expr (expr.Holes (record { ref_ptr = (0, 0); now = l.left }) l.made l.literal)) (seen l.machine)

abbrev pub decreases-holes : goal.decreases-holes
decreases-holes l = length l.left

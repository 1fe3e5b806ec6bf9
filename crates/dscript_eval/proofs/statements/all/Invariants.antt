use Rattle.std.proofs.Common.{◌≡◌, length}
use Rattle.dscript_eval_frames.specs.Views.{seen}
use Rattle.dscript_eval_frames.specs.Works.{comes_with}
use Rattle.dscript_eval_frames.specs.declared.work.StmtWork.TheVariants as stmt
use Rattle.dscript_eval_frames.specs.declared.work.Work.TheVariants as works
use Rattle.dscript_eval.proofs.statements.all.Given as goal

abbrev pub invariant-statements : goal.invariant-statements
invariant-statements l =
    comes_with (works.Stmt (stmt.All (record { ref_ptr = (0, 0); now = l.fn.statements }))) (seen l.fn.machine)
    ≡ comes_with (works.Stmt (stmt.All (record { ref_ptr = (0, 0); now = l.left }))) (seen l.machine)

abbrev pub decreases-statements : goal.decreases-statements
decreases-statements l = length l.left

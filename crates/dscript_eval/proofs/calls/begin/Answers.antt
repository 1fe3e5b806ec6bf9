use Rattle.std.proofs.Common.{List, ap, map, sym, ◌∙◌}
use Rattle.dscript_program.specs.BoundTree as tree
use Rattle.dscript_program.specs.Views.{body_data, stmt_data}
use Rattle.dscript_program.specs.declared.bound.BoundStmt.{BoundStmt}
use Rattle.dscript_eval_frames.specs.Views.{seen}
use Rattle.dscript_eval.proofs.CallMoves.{begin_expr, begin_stmts}
use Rattle.dscript_eval_frames.proofs.Kept.{keeps_at, kept}
use Rattle.dscript_eval.proofs.calls.begin.Goals as goal

pub returns-in-Expr : goal.returns-in-Expr
returns-in-Expr c =
    keeps_at _ _ _ _
    (begin_expr (seen c.args.machine.now) _ _ _ (record { ref_ptr = (0, 0); now = c.in-Expr.e }) c.enter-before.result c.requires
    (ap body_data c.in-Expr.is) c.enter-before.ensures.before c.enter-before.ensures.entered)
    c.begin_value.ensures

pub returns-in-Block : goal.returns-in-Block
returns-in-Block c =
    kept _ _ _ _ c.push_two.ensures
    (begin_stmts (seen c.args.machine.now) _ _ _ c.as_slice.result c.enter-before.result c.requires
    (ap body_data c.in-Block.is ∙ ap (λ (ms : List BoundStmt). tree.Stmts (map stmt_data ms)) (sym c.as_slice.ensures.value))
    c.enter-before.ensures.before c.enter-before.ensures.entered)

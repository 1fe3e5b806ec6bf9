use Rattle.std.proofs.Common.{ap, sym, ◌∙◌}
use Rattle.dscript_eval_frames.specs.Views.{View, seen}
use Rattle.dscript_eval_frames.specs.Works.{comes_with}
use Rattle.dscript_eval_frames.specs.declared.work.StmtWork.TheVariants as stmt
use Rattle.dscript_eval_frames.specs.declared.work.Work.TheVariants as works
use Rattle.dscript_eval_frames.proofs.Kept.{keeps_at}
use Rattle.dscript_eval.proofs.StmtMoves.{all_end}
use Rattle.dscript_eval.proofs.StmtsNow.{passed_move}
use Rattle.dscript_eval.proofs.statements.all.Goals as goal

pub returns-then-not-statement_at_once : goal.returns-then-not-statement_at_once
returns-then-not-statement_at_once c =
    keeps_at _ _ _ _
    (c.statements.invariant
    ∙ ap (λ (z : View). comes_with (works.Stmt (stmt.All c.statements.left)) z)
    (sym (c.statement_at_once.ensures.none c.if-not-statement_at_once.true)))
    c.one_by_one.ensures

pub statements-preserved : goal.statements-preserved
statements-preserved c =
    c.statements.invariant
    ∙ passed_move (seen c.statements.machine) _ c.statements.left c.in-Some.others c.in-Some.first c.in-Some.ensures.cases.0
    (c.statement_at_once.ensures.given c.if-not-statement_at_once.false)

pub returns : goal.returns
returns c =
    keeps_at _ _ _ _ (c.statements.invariant ∙ all_end (seen c.statements.machine) c.statements.left c.in_default.ensures.cases)
    c.forget.ensures

use Rattle.std.proofs.Common.{sym, ◌∙◌}
use Rattle.dscript_eval_frames.specs.Views.{seen}
use Rattle.dscript_eval_frames.proofs.Kept.{keeps_at, kept}
use Rattle.dscript_eval.proofs.StmtMoves.{branch_none, branch_other, branch_true}
use Rattle.dscript_eval.proofs.statements.branch.Goals as goal

pub returns-then-is_true : goal.returns-then-is_true
returns-then-is_true c =
    kept _ _ _ _ c.push.ensures
    (branch_true (seen c.args.machine.now) c.args.then c.args.other (sym c.is_true.ensures ∙ c.if-is_true.true))

pub returns-in-Some : goal.returns-in-Some
returns-in-Some c =
    kept _ _ _ _ c.push-in-Some.ensures
    (branch_other (seen c.args.machine.now) c.args.then c.in-Some.other c.args.other c.in-Some.is (sym c.is_true.ensures ∙ c.if-is_true.false))

pub returns-in-None : goal.returns-in-None
returns-in-None c =
    keeps_at _ _ _ _
    (branch_none (seen c.args.machine.now) c.args.then c.args.other c.in-None.is (sym c.is_true.ensures ∙ c.if-is_true.false))
    c.forget.ensures

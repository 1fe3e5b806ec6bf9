use Rattle.std.proofs.Common.{sym, ◌∙◌}
use Rattle.dscript_eval_frames.specs.Views.{seen}
use Rattle.dscript_eval_exprs.proofs.ExprMoves.{choose_first, choose_second}
use Rattle.dscript_eval_frames.proofs.Kept.{keeps_at}
use Rattle.dscript_eval_exprs.proofs.exprs.choose.Goals as goal

pub returns-then-is_true : goal.returns-then-is_true
returns-then-is_true c =
    keeps_at _ _ _ _
    (choose_first (seen c.args.machine.now) c.args.then c.args.other (sym c.is_true.ensures ∙ c.if-is_true.true))
    c.next.ensures

pub returns-else-is_true : goal.returns-else-is_true
returns-else-is_true c =
    keeps_at _ _ _ _
    (choose_second (seen c.args.machine.now) c.args.then c.args.other (sym c.is_true.ensures ∙ c.if-is_true.false))
    c.next-else-is_true.ensures

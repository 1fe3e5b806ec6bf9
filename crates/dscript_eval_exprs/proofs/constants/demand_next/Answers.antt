use Rattle.std.proofs.Common.{sym, ◌∙◌}
use Rattle.dscript_eval_frames.specs.Views.{seen}
use Rattle.dscript_eval_exprs.proofs.ConstantMoves.{const_first, other_first}
use Rattle.dscript_eval_frames.proofs.Kept.{keeps_at}
use Rattle.dscript_eval_exprs.proofs.constants.demand_next.Goals as goal

pub returns-then-is_const : goal.returns-then-is_const
returns-then-is_const c there =
    keeps_at _ _ _ _
    (const_first (seen c.args.machine.now) _ c.args.file c.args.decl _ there (sym c.is_const.ensures ∙ c.if-is_const.true) c.in_ok-push.ensures)
    c.constant_value.ensures

pub returns-else-is_const : goal.returns-else-is_const
returns-else-is_const c there =
    other_first (seen c.args.machine.now) _ c.args.file c.args.decl _ there (sym c.is_const.ensures ∙ c.if-is_const.false) c.in_ok-push.ensures

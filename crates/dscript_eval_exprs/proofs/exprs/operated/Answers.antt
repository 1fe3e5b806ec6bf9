use Rattle.std.proofs.Common.{length, sym, ◌∙◌}
use Rattle.std.proofs.lemmas.Bool.{eqb-true}
use Rattle.dscript_eval_frames.specs.Views.{seen}
use Rattle.dscript_eval_exprs.proofs.ExprMoves.{operated_alone, operated_then}
use Rattle.dscript_eval_frames.proofs.Kept.{keeps_at}
use Rattle.dscript_eval_exprs.proofs.exprs.operated.Goals as goal

pub returns-then-is_empty : goal.returns-then-is_empty
returns-then-is_empty c =
    keeps_at _ _ _ _
    (operated_alone (seen c.args.machine.now) c.args.operator c.args.left.now c.args.others
    (eqb-true (length c.args.others.now) 0 (sym c.is_empty.ensures ∙ c.if-is_empty.true)))
    c.operated_last.ensures

pub returns : goal.returns
returns c =
    keeps_at _ _ _ _ (operated_then (seen c.args.machine.now) _ c.args.operator c.args.left.now c.args.others c.in_ok-push.ensures)
    (c.finish.ensures _ c.operate-outcome.ensures)

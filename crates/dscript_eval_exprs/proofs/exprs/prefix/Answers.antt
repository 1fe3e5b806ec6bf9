use Rattle.dscript_eval_frames.specs.Views.{seen}
use Rattle.dscript_eval_exprs.proofs.ExprMoves.{prefix_move}
use Rattle.dscript_eval_frames.proofs.Kept.{exact, keeps_at}
use Rattle.dscript_eval_exprs.proofs.exprs.prefix.Goals as goal

pub returns : goal.returns
returns c =
    keeps_at _ _ _ _
    (prefix_move (seen c.args.machine.now) _ c.args.operators c.take-operand.result c.take-operand.ensures.value
    c.take-operand.ensures.taken)
    (c.finish.ensures _ (exact _ _ c.with_prefixes-outcome.ensures))

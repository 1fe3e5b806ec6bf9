use Rattle.dscript_eval_frames.specs.Views.{seen}
use Rattle.dscript_eval_frames.proofs.Kept.{keeps_at}
use Rattle.dscript_eval_exprs.proofs.NameMoves.{arrow_move}
use Rattle.dscript_eval_exprs.proofs.names.arrow_value.Goals as goal

pub returns : goal.returns
returns c =
    keeps_at _ _ _ _ (arrow_move (seen c.args.machine.now) c.args.number _ c.in_ok-held.ensures) c.function_value.ensures

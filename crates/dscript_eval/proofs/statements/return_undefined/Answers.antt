use Rattle.dscript_eval_frames.specs.Views.{seen}
use Rattle.dscript_eval_frames.proofs.Kept.{keeps_at}
use Rattle.dscript_eval.proofs.StmtMoves.{no_value_move}
use Rattle.dscript_eval.proofs.statements.return_undefined.Goals as goal

pub returns : goal.returns
returns c = keeps_at _ _ _ _ (no_value_move (seen c.args.machine.now) _ c.give_undefined.ensures) c.unwind.ensures

use Rattle.dscript_eval_frames.specs.Views.{seen}
use Rattle.dscript_eval_frames.proofs.Kept.{keeps_at}
use Rattle.dscript_eval.proofs.StmtMoves.{unset_move}
use Rattle.dscript_eval.proofs.statements.bind_undefined.Goals as goal

pub returns : goal.returns
returns c = keeps_at _ _ _ _ (unset_move (seen c.args.machine.now) _ c.args.local c.give_undefined.ensures) c.bind.ensures

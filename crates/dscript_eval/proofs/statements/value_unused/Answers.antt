use Rattle.dscript_eval_frames.specs.Views.{seen}
use Rattle.dscript_eval_frames.proofs.Kept.{kept}
use Rattle.dscript_eval.proofs.StmtMoves.{value_move}
use Rattle.dscript_eval.proofs.statements.value_unused.Goals as goal

pub returns : goal.returns
returns c = kept _ _ _ _ c.push_two.ensures (value_move (seen c.args.machine.now) c.args.e)

use Rattle.dscript_eval_frames.specs.Views.{seen}
use Rattle.dscript_eval.proofs.StmtMoves.{bound_move}
use Rattle.dscript_eval.proofs.statements.bind.Goals as goal

pub returns : goal.returns
returns c =
    bound_move (seen c.args.machine.now) (seen c.take-value.new.self) c.args.local _ _ c.take-value.ensures.value c.take-value.ensures.taken
    c.in_ok-bind.ensures.bound

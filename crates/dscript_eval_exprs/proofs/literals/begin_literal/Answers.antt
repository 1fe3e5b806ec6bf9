use Rattle.dscript_eval_frames.specs.Views.{seen}
use Rattle.dscript_eval_frames.proofs.Kept.{keeps_at}
use Rattle.dscript_eval_exprs.proofs.LiteralMoves.{literal_move}
use Rattle.dscript_eval_exprs.proofs.literals.begin_literal.Goals as goal

pub returns : goal.returns
returns c =
    keeps_at _ _ _ _
    (literal_move (seen c.args.machine.now) c.args.literal c.args.text.now c.args.holes c.in_ok-bytes.bytes c.in_ok-bytes.ensures)
    c.other_holes.ensures

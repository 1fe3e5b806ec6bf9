use Rattle.std.proofs.Common.{◌∷◌, ap, sym, subst, ◌∙◌}
use Rattle.dscript_value.specs.Plain.{plain_of}
use Rattle.dscript_eval_frames.specs.Views.{View, seen}
use Rattle.dscript_eval_frames.specs.Works.{comes_with}
use Rattle.dscript_eval_frames.specs.declared.work.StmtWork.TheVariants as stmt
use Rattle.dscript_eval_frames.specs.declared.work.Work.TheVariants as works
use Rattle.dscript_eval_frames.proofs.Kept.{keeps_at, memory_stops}
use Rattle.dscript_eval.proofs.StmtMoves.{turn_move}
use Rattle.dscript_eval.proofs.statements.turn_with.Goals as goal

pub returns-in-Ok : goal.returns-in-Ok
returns-in-Ok c =
    keeps_at _ _ _ _
    (turn_move (seen c.args.machine.now) c.args.local c.args.body c.args.items c.args.next (plain_of c.args.item) _ c.in_ok-bind.ensures.bound
    ∙ ap (λ (z : View). comes_with (works.Stmt (stmt.Does c.args.body)) z) (sym c.in-Ok.ensures))
    c.does.ensures

pub returns-in-Err : goal.returns-in-Err
returns-in-Err c = memory_stops _ _ c.in-Err.ensures

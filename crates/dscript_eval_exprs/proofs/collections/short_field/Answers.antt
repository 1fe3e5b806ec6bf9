use Rattle.dscript_eval_frames.specs.Views.{seen}
use Rattle.dscript_eval_exprs.proofs.CollectionMoves.{name_next}
use Rattle.dscript_eval_frames.proofs.Kept.{keeps_at, memory_stops}
use Rattle.dscript_eval_exprs.proofs.collections.short_field.Goals as goal

pub returns-in-Ok : goal.returns-in-Ok
returns-in-Ok c =
    keeps_at _ _ _ _ (name_next (seen c.args.machine.now) _ c.args.name c.args.target c.args.others c.args.done c.in-Ok.ensures)
    c.name_value.ensures

pub returns-in-Err : goal.returns-in-Err
returns-in-Err c = memory_stops _ _ c.in-Err.ensures

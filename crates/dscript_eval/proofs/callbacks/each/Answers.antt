use Rattle.dscript_value.specs.Plain.{item_list, plain_of, plain_values}
use Rattle.std.proofs.Common.{map}
use Rattle.dscript_eval_frames.specs.Views.{seen}
use Rattle.dscript_eval.proofs.CallbackMoves.{each_begins, each_stops}
use Rattle.dscript_eval_frames.proofs.Kept.{keeps_at}
use Rattle.dscript_eval.proofs.callbacks.each.Goals as goal

pub returns-in-Ok : goal.returns-in-Ok
returns-in-Ok c never =
    keeps_at _ _ _ _
    (each_begins (seen c.args.machine.now) c.args.kind (item_list (plain_values c.args.items).items) (map plain_of c.args.args.now) _ never c.in-Ok.ensures)
    c.begin_callbacks.ensures

pub returns-in-Err : goal.returns-in-Err
returns-in-Err c never =
    each_stops (seen c.args.machine.now) c.args.kind (item_list (plain_values c.args.items).items) (map plain_of c.args.args.now) _ c.in-Err.fault never
    c.stop_of.ensures (λ n. c.in-Err.ensures)

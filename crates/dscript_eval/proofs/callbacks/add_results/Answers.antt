use Rattle.dscript_eval_frames.specs.Views.{seen}
use Rattle.dscript_eval.proofs.CallbackMoves.{came_many, many_stops}
use Rattle.dscript_eval.proofs.CallsNow.{left_after}
use Rattle.dscript_eval.proofs.callbacks.add_results.Goals as goal

pub returns-in-Ok : goal.returns-in-Ok
returns-in-Ok c kind =
    left_after _ _ _ _ (seen c.args.machine.now) c.go_on.ensures
    (came_many (seen c.args.machine.now) c.args.callbacks.now c.add_items.new.items kind c.in-Ok.ensures.adds)

pub returns-in-Err : goal.returns-in-Err
returns-in-Err c kind =
    many_stops (seen c.args.machine.now) c.args.callbacks.now _ c.in-Err.fault kind c.stop_of.ensures c.in-Err.ensures.adds

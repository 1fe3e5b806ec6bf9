use Rattle.dscript_eval_frames.specs.Views.{seen}
use Rattle.dscript_eval.proofs.CallbackMoves.{came_reduced}
use Rattle.dscript_eval.proofs.CallsNow.{left_after}
use Rattle.dscript_eval.proofs.callbacks.after_call.Goals as goal

pub returns-in-Map : goal.returns-in-Map
returns-in-Map c = c.add_result.ensures c.in-Map.is

pub returns-in-Filter : goal.returns-in-Filter
returns-in-Filter c = c.keep_item.ensures c.in-Filter.is

pub returns-in-MapMany : goal.returns-in-MapMany
returns-in-MapMany c = c.add_results.ensures c.in-MapMany.is

pub returns-in-Reduce : goal.returns-in-Reduce
returns-in-Reduce c =
    left_after _ _ _ _ (seen c.args.machine.now) c.go_on.ensures (came_reduced (seen c.args.machine.now) c.args.callbacks.now c.in-Reduce.is)

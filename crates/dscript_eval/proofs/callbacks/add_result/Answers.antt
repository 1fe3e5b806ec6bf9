use Rattle.dscript_eval_frames.specs.Views.{seen}
use Rattle.dscript_eval.proofs.CallbackMoves.{came_map}
use Rattle.dscript_eval.proofs.CallsNow.{left_after}
use Rattle.dscript_eval_frames.proofs.ItemLists.{ends_in}
use Rattle.dscript_eval.proofs.callbacks.add_result.Goals as goal

pub returns : goal.returns
returns c kind =
    left_after _ _ _ _ (seen c.take-value.new.self) c.go_on.ensures
    (came_map (seen c.args.machine.now) _ c.args.callbacks.now c.push_item.new.items kind (ends_in _ _ _ _ c.in_ok-push_item.ensures c.take-value.ensures.value)
    c.take-value.ensures.taken)

use Rattle.dscript_eval_frames.specs.Views.{seen}
use Rattle.dscript_eval_exprs.proofs.CollectionMoves.{item_move}
use Rattle.dscript_eval_frames.proofs.ItemLists.{ends_in}
use Rattle.dscript_eval_frames.proofs.Kept.{keeps_at}
use Rattle.dscript_eval_exprs.proofs.collections.item.Goals as goal

pub returns : goal.returns
returns c =
    keeps_at _ _ _ _
    (item_move (seen c.args.machine.now) _ c.args.others c.args.done c.push_item.new.items
    (ends_in _ _ _ _ c.in_ok-push_item.ensures c.take-item.ensures.value) c.take-item.ensures.taken)
    c.items.ensures

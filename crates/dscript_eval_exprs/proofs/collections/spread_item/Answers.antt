use Rattle.dscript_eval_frames.specs.Views.{seen}
use Rattle.dscript_eval_exprs.proofs.CollectionMoves.{spread_item_move}
use Rattle.dscript_eval_frames.proofs.Kept.{keeps_at}
use Rattle.dscript_eval_frames.proofs.Refused.{stops_first}
use Rattle.dscript_eval_exprs.proofs.collections.spread_item.Goals as goal

pub returns-in-Ok : goal.returns-in-Ok
returns-in-Ok c =
    keeps_at _ _ _ _ (spread_item_move (seen c.args.machine.now) c.args.others c.args.done c.add_items.new.items c.in-Ok.ensures.adds) c.items.ensures

pub returns-in-Err : goal.returns-in-Err
returns-in-Err c = stops_first _ _ c.in-Err.fault _ _ (seen c.args.machine.now).state c.stop_of.ensures c.in-Err.ensures.adds

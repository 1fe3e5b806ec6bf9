use Rattle.dscript_eval_frames.proofs.ItemLists.{item_where}
use Rattle.dscript_eval_frames.proofs.items.item_ref.Goals as goal

pub returns : goal.returns
returns c = item_where _ _ c.args.at c.get.ensures

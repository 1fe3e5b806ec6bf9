use Rattle.dscript_eval_frames.specs.Views.{seen}
use Rattle.dscript_eval_exprs.proofs.CollectionMoves.{list_move}
use Rattle.dscript_eval_frames.proofs.Kept.{keeps_at}
use Rattle.dscript_eval_exprs.proofs.collections.begin_list.Goals as goal

pub returns : goal.returns
returns c = keeps_at _ _ _ _ (list_move (seen c.args.machine.now) c.args.es c.new-none.result c.new-none.ensures) c.items.ensures

use Rattle.dscript_eval_frames.specs.Views.{seen}
use Rattle.dscript_eval_exprs.proofs.CollectionMoves.{object_move}
use Rattle.dscript_eval_frames.proofs.Kept.{keeps_at}
use Rattle.dscript_eval_exprs.proofs.collections.begin_object.Goals as goal

pub returns : goal.returns
returns c = keeps_at _ _ _ _ (object_move (seen c.args.machine.now) c.args.ps c.new-none.result c.new-none.ensures.items) c.fields.ensures

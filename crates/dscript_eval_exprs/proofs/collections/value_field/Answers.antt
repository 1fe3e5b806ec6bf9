use Rattle.dscript_eval_frames.specs.Views.{seen}
use Rattle.dscript_eval_exprs.proofs.CollectionMoves.{value_next}
use Rattle.dscript_eval_frames.proofs.Kept.{kept}
use Rattle.dscript_eval_exprs.proofs.collections.value_field.Goals as goal

pub returns : goal.returns
returns c =
    kept _ _ _ _ c.push_two.ensures (value_next (seen c.args.machine.now) c.args.name c.args.others c.args.e c.args.done)

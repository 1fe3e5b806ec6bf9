use Rattle.std.proofs.Common.{refl}
use Rattle.dscript_eval_frames.specs.Views.{seen}
use Rattle.dscript_eval_exprs.proofs.ConstantMoves.{kept_constant}
use Rattle.dscript_eval_exprs.proofs.constants.keep.Goals as goal

pub returns : goal.returns
returns c =
    kept_constant (seen c.args.machine.now) _ _ _ c.args.file c.args.decl c.args.frame _ _ c.in_ok-end_call.ensures c.restore.ensures
    c.mark.ensures refl c.in_ok-value.ensures

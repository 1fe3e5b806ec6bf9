use Rattle.std.proofs.Common.{refl}
use Rattle.dscript_eval_frames.specs.Views.{seen}
use Rattle.dscript_eval_exprs.proofs.ConstantMoves.{constant_opened}
use Rattle.dscript_eval_frames.proofs.Kept.{kept}
use Rattle.dscript_eval_exprs.proofs.constants.evaluate_constant.Goals as goal

pub returns : goal.returns
returns c is =
    kept _ _ _ _ c.push_two.ensures
    (constant_opened (seen c.args.machine.now) _ _ c.args.file c.args.decl c.args.e c.enter-before.result _ _ c.requires is
    c.enter-before.ensures.before c.enter-before.ensures.entered c.of_constant.ensures c.mark.ensures refl)

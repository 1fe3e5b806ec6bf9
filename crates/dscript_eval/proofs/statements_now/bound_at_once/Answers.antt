use Rattle.std.proofs.Common.{refl}
use Rattle.dscript_program.specs.Views.{expr_data}
use Rattle.dscript_eval_frames.specs.Views.{seen}
use Rattle.dscript_eval.proofs.StmtsNow.{bound_passes}
use Rattle.dscript_eval.proofs.statements_now.bound_at_once.Goals as goal

pub returns-in-Ok-clause-given : goal.returns-in-Ok-clause-given
returns-in-Ok-clause-given c holds =
    bound_passes (seen c.args.machine.now) _ c.args.local (expr_data c.args.e.now) _ _ _ _ _ c.in-Some.ensures.0
    c.in-Some.ensures.1 c.in-Some-value_now.ensures c.of-known.ensures c.in-Ok.ensures.bound refl

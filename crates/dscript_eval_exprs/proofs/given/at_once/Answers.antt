use Rattle.std.proofs.Common.{refl}
use Rattle.dscript_program.specs.Views.{expr_data}
use Rattle.dscript_eval_frames.specs.Views.{seen}
use Rattle.dscript_eval_exprs.proofs.AtOnce.{given_by}
use Rattle.dscript_eval_exprs.proofs.given.at_once.Goals as goal

pub returns-in-Some-clause-given : goal.returns-in-Some-clause-given
returns-in-Some-clause-given c holds =
    given_by (seen c.args.machine.now) _ (expr_data c.args.e.now) _ _ _ _ c.in-Some.ensures c.of-known.ensures refl
    c.give.ensures

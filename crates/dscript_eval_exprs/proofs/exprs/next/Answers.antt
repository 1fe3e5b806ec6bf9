use Rattle.std.proofs.Common.{◌∷◌, refl, ap, sym}
use Rattle.dscript_program.specs.Views.{expr_data}
use Rattle.dscript_eval_frames.specs.Forms.{value_at}
use Rattle.dscript_eval_frames.specs.Views.{View, seen}
use Rattle.dscript_eval_frames.specs.Works.{comes_by}
use Rattle.dscript_eval_frames.proofs.Kept.{kept}
use Rattle.dscript_eval_exprs.proofs.AtOnce.{given_alone}
use Rattle.dscript_eval_exprs.proofs.exprs.next.Goals as goal

pub returns-then-at_once : goal.returns-then-at_once
returns-then-at_once c = given_alone (seen c.args.machine.now) _ (expr_data c.args.e.now) (c.at_once.ensures.given c.if-at_once.true)

pub returns : goal.returns
returns c =
    kept _ _ _ _ c.push.ensures
    (ap (λ (z : View). comes_by (value_at z (expr_data c.args.e.now)) z) (sym (c.at_once.ensures.none c.if-at_once.false)))

use Rattle.std.proofs.Common.{refl}
use Rattle.dscript_eval_frames.specs.Views.{seen}
use Rattle.dscript_eval_frames.specs.declared.work.Work.TheVariants as works
use Rattle.dscript_eval_exprs.proofs.AtOnce.{now_then, unless_now}
use Rattle.dscript_eval.proofs.calls.begin_value.Goals as goal

pub returns-then-at_once : goal.returns-then-at_once
returns-then-at_once c =
    now_then _ (seen c.args.machine.now) _ _ c.args.e (works.Leave c.args.before) _ refl (c.at_once.ensures.given c.if-at_once.true)
    c.leave.ensures

pub returns : goal.returns
returns c =
    unless_now _ (seen c.args.machine.now) _ _ c.args.e (works.Leave c.args.before) _ refl (c.at_once.ensures.none c.if-at_once.false)
    c.push_two.ensures

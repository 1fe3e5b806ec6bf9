use Rattle.std.proofs.Common.{ap, sym, ◌∙◌}
use Rattle.dscript_eval_frames.specs.Views.{View, seen}
use Rattle.dscript_eval_frames.specs.Works.{comes_with}
use Rattle.dscript_eval_frames.specs.declared.work.CallWork.TheVariants as call
use Rattle.dscript_eval_frames.specs.declared.work.Work.TheVariants as works
use Rattle.dscript_eval_frames.proofs.ItemLists.{ends_in}
use Rattle.dscript_eval_frames.proofs.Kept.{keeps_at}
use Rattle.dscript_eval_exprs.proofs.AtOnce.{given_then}
use Rattle.dscript_eval.proofs.CallMoves.{argument_move, arguments_move}
use Rattle.dscript_eval.proofs.calls.arguments.Goals as goal

pub returns-then-not-at_once : goal.returns-then-not-at_once
returns-then-not-at_once c =
    keeps_at _ _ _ _
    (c.arguments.invariant
    ∙ ap (λ (z : View). comes_with (works.Call (call.Arguments c.arguments.left c.arguments.made c.args.for_call)) z)
    (sym (c.at_once.ensures.none c.if-not-at_once.true)))
    c.arguments_by_work.ensures

pub arguments-preserved : goal.arguments-preserved
arguments-preserved c =
    c.arguments.invariant
    ∙ arguments_move (seen c.arguments.machine) c.arguments.left c.in-Some.others c.in-Some.e c.arguments.made c.args.for_call
    c.in-Some.ensures.cases.0
    ∙ given_then (seen c.arguments.machine) _ c.in-Some.e
    (works.Call (call.Argument c.in-Some.others c.arguments.made c.args.for_call))
    (c.at_once.ensures.given c.if-not-at_once.false)
    ∙ argument_move _ _ c.in-Some.others c.arguments.made c.add_value.new.values c.args.for_call
    (ends_in _ _ _ _ c.in-Ok.ensures c.take-argument.ensures.value) c.take-argument.ensures.taken

pub returns : goal.returns
returns c = keeps_at _ _ _ _ c.arguments.invariant c.arguments_by_work-2.ensures

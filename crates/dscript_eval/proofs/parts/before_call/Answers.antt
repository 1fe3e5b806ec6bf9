use Rattle.std.proofs.Common.{ap, length, sym, ◌∙◌}
use Rattle.std.proofs.lemmas.Bool.{eqb-true}
use Rattle.dscript_eval_frames.specs.Views.{View, seen}
use Rattle.dscript_eval_frames.specs.Works.{comes_with}
use Rattle.dscript_eval_frames.specs.declared.work.CallWork.TheVariants as call
use Rattle.dscript_eval_frames.specs.declared.work.Work.TheVariants as works
use Rattle.dscript_eval_frames.proofs.Kept.{keeps_at, memory_stops}
use Rattle.dscript_eval.proofs.PartMoves.{call_alone, call_move}
use Rattle.dscript_eval.proofs.parts.before_call.Goals as goal

pub returns-then-is_empty : goal.returns-then-is_empty
returns-then-is_empty c =
    keeps_at _ _ _ _
    (call_alone (seen c.args.machine.now) c.args.args c.new-done.result c.args.for_call c.args.others c.new-done.ensures.items
    (eqb-true (length c.args.others.now) 0 (sym c.is_empty.ensures ∙ c.if-is_empty.true)))
    c.arguments.ensures

pub returns-in-Ok : goal.returns-in-Ok
returns-in-Ok c =
    keeps_at _ _ _ _
    (call_move (seen c.args.machine.now) c.args.args c.new-done.result c.args.for_call c.args.others c.new-done.ensures.items
    ∙ ap (λ (z : View). comes_with (works.Call (call.Arguments c.args.args c.new-done.result c.args.for_call)) z) (sym c.in-Ok.ensures))
    c.arguments-in-Ok.ensures

pub returns-in-Err : goal.returns-in-Err
returns-in-Err c = memory_stops _ _ c.in-Err.ensures

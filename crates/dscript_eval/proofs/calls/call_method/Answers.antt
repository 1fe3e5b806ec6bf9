use Rattle.std.proofs.Common.{refl, sym, ◌∙◌}
use Rattle.dscript_eval_frames.specs.Views.{seen}
use Rattle.dscript_eval.proofs.CallMoves.{callback_method_move, method_move, method_stops}
use Rattle.dscript_eval_frames.proofs.Kept.{keeps_at}
use Rattle.dscript_eval.proofs.calls.call_method.Goals as goal

pub returns-then-is_callback : goal.returns-then-is_callback
returns-then-is_callback c =
    keeps_at _ _ _ _
    (callback_method_move (seen c.args.machine.now) _ _ _ (sym c.is_callback.ensures ∙ c.if-is_callback.true))
    c.callbacks.ensures

pub returns-in-Ok : goal.returns-in-Ok
returns-in-Ok c =
    keeps_at _ _ _ _
    (method_move (seen c.args.machine.now) _ _ _ _ _ _ (sym c.is_callback.ensures ∙ c.if-is_callback.false)
    c.in-Ok.ensures.answer refl)
    c.answer.ensures

pub returns-in-Err : goal.returns-in-Err
returns-in-Err c =
    method_stops _ (seen c.args.machine.now) _ _ _ c.in-Err.fault (sym c.is_callback.ensures ∙ c.if-is_callback.false)
    c.in-Err.ensures.fault c.stop_of.ensures

use Rattle.std.proofs.Common.{Ok, ap, map, sym, ◌∙◌}
use Rattle.dscript_value.specs.Plain.{Plain, item_list, plain_of, plain_values}
use Rattle.dscript_eval_frames.specs.Views.{seen}
use Rattle.dscript_eval_frames.specs.Works.{function_of}
use Rattle.dscript_eval.proofs.CallbackMoves.{reduce_begins, reduce_stops}
use Rattle.dscript_eval_frames.proofs.Kept.{keeps_at}
use Rattle.dscript_eval.proofs.callbacks.reduce.Goals as goal

pub returns-in_ok-first-in-Ok : goal.returns-in_ok-first-in-Ok
returns-in_ok-first-in-Ok c =
    keeps_at _ _ _ _
    (reduce_begins (seen c.args.machine.now) _ (item_list (plain_values c.args.items).items) (map plain_of c.args.args.now)
    (function_of c.in-Ok.function.now) _
    (c.in-Ok.ensures ∙ ap (λ (x : Plain). Ok (function_of c.in-Ok.function.now, x)) (sym c.in_ok-first-in-Ok.ensures)) c.give.ensures)
    c.begin_callbacks.ensures

pub returns-in-Err : goal.returns-in-Err
returns-in-Err c =
    reduce_stops (seen c.args.machine.now) (item_list (plain_values c.args.items).items) (map plain_of c.args.args.now) _ c.in-Err.fault
    c.stop_of.ensures (λ n. c.in-Err.ensures)

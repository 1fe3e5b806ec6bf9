use Rattle.std.proofs.Common.{map, sym, ◌∙◌}
use Rattle.dscript_value.specs.Plain.{item_list, plain_of, plain_values}
use Rattle.dscript_eval_frames.specs.Views.{seen}
use Rattle.dscript_eval.proofs.CallbackMoves.{callbacks_are}
use Rattle.dscript_eval_frames.proofs.Kept.{keeps_at}
use Rattle.dscript_eval_frames.proofs.Refused.{faulted}
use Rattle.dscript_eval.proofs.callbacks.callbacks_on.Goals as goal

pub returns-in-Some : goal.returns-in-Some
returns-in-Some c =
    keeps_at _ _ _ _
    (callbacks_are (seen c.args.machine.now) c.args.member _ (item_list (plain_values c.args.items).items) (map plain_of c.args.args.now)
    (sym c.in-Some.is ∙ c.kind_of.ensures))
    c.callbacks_of.ensures

pub returns-in-None : goal.returns-in-None
returns-in-None c =
    faulted _ _ _ _ c.fault.ensures
    (callbacks_are (seen c.args.machine.now) c.args.member _ (item_list (plain_values c.args.items).items) (map plain_of c.args.args.now)
    (sym c.in-None.is ∙ c.kind_of.ensures))

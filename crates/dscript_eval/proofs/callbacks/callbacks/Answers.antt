use Rattle.std.proofs.Common.{ap, map, ◌∙◌}
use Rattle.dscript_sdk_members.specs.Names.{member_named}
use Rattle.dscript_value.specs.Plain.{plain_of}
use Rattle.dscript_eval_frames.specs.Views.{seen}
use Rattle.dscript_eval.proofs.CallbackMoves.{callbacks_with, no_callbacks}
use Rattle.dscript_eval_frames.proofs.Kept.{keeps_at}
use Rattle.dscript_eval.proofs.callbacks.callbacks.Goals as goal

pub returns-in-Ok : goal.returns-in-Ok
returns-in-Ok c =
    keeps_at _ _ _ _
    (callbacks_with (seen c.args.machine.now) _ _ (plain_of c.args.x.now) _ (map plain_of c.args.args.now)
    (c.named.ensures.value ∙ ap member_named c.bytes.ensures) c.in-Ok.ensures)
    c.callbacks_on.ensures

pub returns-in-Err : goal.returns-in-Err
returns-in-Err c =
    no_callbacks c.args.name.now (plain_of c.args.x.now) _ c.in-Err.fault _ _ c.requires c.stop_of.ensures c.in-Err.ensures

use Rattle.std.proofs.Common.{arith, map}
use Rattle.dscript_value.specs.Plain.{item_list, plain_function, plain_of}
use Rattle.dscript_eval_frames.specs.Views.{seen}
use Rattle.dscript_eval.proofs.CallbackMoves.{called_ambient}
use Rattle.dscript_eval_frames.proofs.Opening.{none_openable}
use Rattle.dscript_eval_frames.proofs.Kept.{keeps_at}
use Rattle.dscript_eval_frames.proofs.Refused.{faulted}
use Rattle.dscript_eval.proofs.callbacks.call_ambient_back.Goals as goal

pub returns : goal.returns
returns c =
    keeps_at _ _ _ _
    (called_ambient (seen c.args.machine.now) c.args.name (item_list (plain_function c.args.function.now).held.items)
    (map plain_of c.args.args.now) (omega arith))
    c.ambient.ensures

pub returns-then-machine-eq0 : goal.returns-then-machine-eq0
returns-then-machine-eq0 c =
    faulted _ _ _ _ c.fault.ensures (none_openable (seen c.args.machine.now) _ c.if-machine-eq0.true)

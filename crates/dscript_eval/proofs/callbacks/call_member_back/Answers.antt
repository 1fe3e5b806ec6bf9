use Rattle.std.proofs.Common.{arith, map}
use Rattle.dscript_value.specs.Plain.{plain_of}
use Rattle.dscript_eval_frames.specs.Views.{seen}
use Rattle.dscript_eval.proofs.CallbackMoves.{called_member}
use Rattle.dscript_eval_frames.proofs.Opening.{none_openable}
use Rattle.dscript_eval_frames.proofs.Kept.{keeps_at}
use Rattle.dscript_eval_frames.proofs.Refused.{faulted}
use Rattle.dscript_eval.proofs.callbacks.call_member_back.Goals as goal

pub returns : goal.returns
returns c =
    keeps_at _ _ _ _
    (called_member (seen c.args.machine.now) _ c.args.name.now (map plain_of c.args.held.now) (map plain_of c.args.args.now)
    (omega arith) c.in_ok-push.ensures)
    c.held_method.ensures

pub returns-then-machine-eq0 : goal.returns-then-machine-eq0
returns-then-machine-eq0 c =
    faulted _ _ _ _ c.fault.ensures (none_openable (seen c.args.machine.now) _ c.if-machine-eq0.true)

use Rattle.dscript_value.specs.Plain.{plain_of}
use Rattle.dscript_eval_frames.specs.Views.{seen}
use Rattle.dscript_eval.proofs.CallMoves.{applied_function, applied_none}
use Rattle.dscript_eval_frames.proofs.Kept.{keeps_at}
use Rattle.dscript_eval_frames.proofs.Refused.{faulted}
use Rattle.dscript_eval.proofs.calls.apply.Goals as goal

pub returns-in-Some : goal.returns-in-Some
returns-in-Some c =
    keeps_at _ _ _ _ (applied_function (seen c.args.machine.now) (plain_of c.args.f.now) _ _ c.in-Some.ensures) c.call_function.ensures

pub returns-in-None : goal.returns-in-None
returns-in-None c =
    faulted _ _ _ _ c.fault.ensures (applied_none (seen c.args.machine.now) (plain_of c.args.f.now) _ c.in-None.ensures)

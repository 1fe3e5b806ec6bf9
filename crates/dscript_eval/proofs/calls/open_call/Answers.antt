use Rattle.std.proofs.Common.{ap, arith, map, ◌∙◌}
use Rattle.dscript_value.specs.Plain.{PlainFunction, item_list, plain_of}
use Rattle.dscript_eval_meaning.specs.Frames.{function_frame}
use Rattle.dscript_eval_frames.specs.Codes.{code_data}
use Rattle.dscript_eval_frames.specs.Views.{seen}
use Rattle.dscript_eval_frames.proofs.Opening.{none_openable}
use Rattle.dscript_eval.proofs.CallMoves.{no_code, opened_body}
use Rattle.dscript_eval_frames.proofs.Kept.{keeps_at}
use Rattle.dscript_eval_frames.proofs.Refused.{faulted}
use Rattle.dscript_eval.proofs.calls.open_call.Goals as goal

pub returns-then-machine-eq0 : goal.returns-then-machine-eq0
returns-then-machine-eq0 c =
    faulted _ _ _ _ c.fault.ensures (none_openable (seen c.args.machine.now) _ c.if-machine-eq0.true)

pub returns-in_default : goal.returns-in_default
returns-in_default c =
    faulted _ _ _ _ c.fault-in_default.ensures
    (no_code (seen c.args.machine.now) c.args.number _ _ (omega (arith, c.if-machine-eq0.false)) c.in_default.ensures)

pub returns : goal.returns
returns c =
    keeps_at _ _ _ _
    (opened_body (seen c.args.machine.now) c.args.number _ _ _ _ (omega (arith, c.if-machine-eq0.false)) c.in-Some.ensures
    (c.in_ok-frame.ensures
    ∙ ap (λ (g : PlainFunction). function_frame (code_data c.in-Some.code.now) (item_list g.held.items) (map plain_of c.args.args.now)) c.in_ok-held.ensures))
    c.begin.ensures

use Rattle.std.proofs.Common.{Result, subst}
use Rattle.dscript_value.specs.declared.value.Value.{Value}
use Rattle.dscript_sdk_values.specs.declared.fault.SdkFault.{SdkFault}
use Rattle.dscript_eval_frames.specs.Made.{Answers}
use Rattle.dscript_eval_frames.specs.Views.{seen}
use Rattle.dscript_eval_frames.proofs.Kept.{finished, unfinished}
use Rattle.dscript_eval_frames.proofs.machine.Machine.finish.Goals as goal

pub returns-in-Ok : goal.returns-in-Ok
returns-in-Ok c o h =
    let P : Result Value SdkFault → Type 0 = λ r. Answers r o in
    finished _ o _ (seen c.args.self.now) _ (subst P c.in-Ok.is h) c.answer.ensures

pub returns-in-Err : goal.returns-in-Err
returns-in-Err c o h =
    let P : Result Value SdkFault → Type 0 = λ r. Answers r o in
    unfinished _ o c.in-Err.fault (seen c.args.self.now) (subst P c.in-Err.is h) c.stop_of.ensures

use Rattle.std.proofs.Common.{ap, map}
use Rattle.dscript_value.specs.Plain.{plain_of}
use Rattle.dscript_eval_frames.specs.Forms.{acts_at}
use Rattle.dscript_eval_frames.specs.Views.{seen}
use Rattle.dscript_eval_frames.specs.Works.{comes_by, used}
use Rattle.dscript_eval_frames.specs.declared.work.Use.{Use}
use Rattle.dscript_eval_frames.proofs.Kept.{keeps_at}
use Rattle.dscript_eval.proofs.calls.use_arguments.Goals as goal

pub returns-in-Apply : goal.returns-in-Apply
returns-in-Apply c =
    let v = seen c.args.machine.now in
    keeps_at _ _ _ _
    (ap (λ (u : Use). comes_by (used v.program (acts_at v) u (map plain_of c.args.args.now)) v) c.in-Apply.is)
    c.apply.ensures

pub returns-in-Method : goal.returns-in-Method
returns-in-Method c =
    let v = seen c.args.machine.now in
    keeps_at _ _ _ _
    (ap (λ (u : Use). comes_by (used v.program (acts_at v) u (map plain_of c.args.args.now)) v) c.in-Method.is)
    c.call_method.ensures

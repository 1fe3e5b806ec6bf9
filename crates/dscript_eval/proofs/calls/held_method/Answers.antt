use Rattle.std.proofs.Common.{List, ap, map}
use Rattle.bx_tree.proofs.Lists.{none_left}
use Rattle.dscript_value.specs.Plain.{plain_of}
use Rattle.dscript_value.specs.declared.value.Value.{Value}
use Rattle.dscript_eval_meaning.specs.Calls.{held_method}
use Rattle.dscript_eval_frames.specs.Forms.{acts_at}
use Rattle.dscript_eval_frames.specs.Views.{seen}
use Rattle.dscript_eval_frames.specs.Works.{comes_by}
use Rattle.dscript_eval_frames.proofs.Kept.{keeps_at}
use Rattle.dscript_eval_frames.proofs.Refused.{faulted}
use Rattle.dscript_eval.proofs.calls.held_method.Goals as goal

pub returns-in-Some : goal.returns-in-Some
returns-in-Some c =
    let v = seen c.args.machine.now in
    keeps_at _ _ _ _
    (ap (λ (xs : List Value). comes_by (held_method (acts_at v) (map plain_of xs) c.args.name.now (map plain_of c.args.args.now)) v)
    c.in-Some.ensures.cases.0)
    c.call_method.ensures

pub returns-in-None : goal.returns-in-None
returns-in-None c =
    let v = seen c.args.machine.now in
    faulted _ _ _ _ c.fault.ensures
    (ap (λ (xs : List Value). comes_by (held_method (acts_at v) (map plain_of xs) c.args.name.now (map plain_of c.args.args.now)) v)
    (none_left c.args.held.now c.in-None.ensures.cases))

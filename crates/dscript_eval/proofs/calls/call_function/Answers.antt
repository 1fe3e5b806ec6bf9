use Rattle.std.proofs.Common.{ap, map, sym}
use Rattle.dscript_value.specs.Plain.{item_list, plain_function, plain_of}
use Rattle.dscript_value.specs.declared.parts.Callee.{Callee}
use Rattle.dscript_eval_meaning.specs.Calls.{call_of_function}
use Rattle.dscript_eval_frames.specs.Forms.{acts_at}
use Rattle.dscript_eval_frames.specs.Views.{seen}
use Rattle.dscript_eval_frames.specs.Works.{comes_by}
use Rattle.dscript_eval_frames.proofs.Kept.{keeps_at}
use Rattle.dscript_eval.proofs.calls.call_function.Goals as goal

pub returns : goal.returns
returns c =
    let v = seen c.args.machine.now in
    let held = item_list (plain_function c.args.function.now).held.items in
    keeps_at _ _ _ _
    (ap (λ (k : Callee). comes_by (call_of_function v.program (acts_at v) k held (map plain_of c.args.args.now)) v) (sym c.callee.ensures))
    c.call_of.ensures

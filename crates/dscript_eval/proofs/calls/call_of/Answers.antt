use Rattle.std.proofs.Common.{List, ap, map, sym, ◌∙◌}
use Rattle.dscript_value.specs.Plain.{Plain, item_list, plain_function, plain_of}
use Rattle.dscript_value.specs.declared.parts.Callee.{Callee}
use Rattle.dscript_eval_meaning.specs.Calls.{call_of_function, held_method}
use Rattle.dscript_eval_frames.specs.Forms.{acts_at}
use Rattle.dscript_eval_frames.specs.Views.{seen}
use Rattle.dscript_eval_frames.specs.Works.{comes_by}
use Rattle.dscript_eval_frames.proofs.Kept.{keeps_at}
use Rattle.dscript_eval.proofs.calls.call_of.Goals as goal

pub returns-in-Place : goal.returns-in-Place
returns-in-Place c =
    let v = seen c.args.machine.now in
    let held = item_list (plain_function c.args.function.now).held.items in
    keeps_at _ _ _ _
    (ap (λ (k : Callee). comes_by (call_of_function v.program (acts_at v) k held (map plain_of c.args.args.now)) v) c.in-Place.is)
    c.open_call.ensures

pub returns-in-Ambient : goal.returns-in-Ambient
returns-in-Ambient c =
    let v = seen c.args.machine.now in
    let held = item_list (plain_function c.args.function.now).held.items in
    keeps_at _ _ _ _
    (ap (λ (k : Callee). comes_by (call_of_function v.program (acts_at v) k held (map plain_of c.args.args.now)) v) c.in-Ambient.is)
    c.ambient.ensures

pub returns-in-Member : goal.returns-in-Member
returns-in-Member c =
    let v = seen c.args.machine.now in
    let held = item_list (plain_function c.args.function.now).held.items in
    keeps_at _ _ _ _
    (ap (λ (k : Callee). comes_by (call_of_function v.program (acts_at v) k held (map plain_of c.args.args.now)) v) c.in-Member.is
    ∙ ap (λ (xs : List Plain). comes_by (held_method (acts_at v) xs c.in-Member.name (map plain_of c.args.args.now)) v)
    (sym c.held.ensures))
    c.held_method.ensures

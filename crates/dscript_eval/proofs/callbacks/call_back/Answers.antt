use Rattle.std.proofs.Common.{List, ap, map, sym, ◌∙◌}
use Rattle.dscript_value.specs.Plain.{Plain, plain_of}
use Rattle.dscript_value.specs.declared.parts.Callee.TheVariants as callees
use Rattle.dscript_eval_meaning.specs.Acts.{Call}
use Rattle.dscript_eval_frames.specs.Forms.{acts_at}
use Rattle.dscript_eval_frames.specs.Views.{seen}
use Rattle.dscript_eval_frames.specs.Works.{comes_by, function_of}
use Rattle.dscript_eval.proofs.CallbackMoves.{called_at}
use Rattle.dscript_eval_frames.proofs.Kept.{keeps_at}
use Rattle.dscript_eval.proofs.callbacks.call_back.Goals as goal

pub returns-in-Place : goal.returns-in-Place
returns-in-Place c =
    keeps_at _ _ _ _
    (called_at (seen c.args.machine.now) (function_of c.args.function.now) _ (map plain_of c.args.args.now) (sym c.callee.ensures ∙ c.in-Place.is))
    c.open_call.ensures

pub returns-in-Ambient : goal.returns-in-Ambient
returns-in-Ambient c =
    keeps_at _ _ _ _
    (called_at (seen c.args.machine.now) (function_of c.args.function.now) _ (map plain_of c.args.args.now) (sym c.callee.ensures ∙ c.in-Ambient.is))
    c.call_ambient_back.ensures

pub returns-in-Member : goal.returns-in-Member
returns-in-Member c =
    let v = seen c.args.machine.now in
    keeps_at _ _ _ _
    (called_at v (function_of c.args.function.now) _ (map plain_of c.args.args.now) (sym c.callee.ensures ∙ c.in-Member.is)
    ∙ ap (λ (xs : List Plain). comes_by (acts_at v (Call (callees.Member c.in-Member.name) xs (map plain_of c.args.args.now))) v)
    (sym c.held.ensures))
    c.call_member_back.ensures

use Rattle.std.proofs.Common.{◌≡◌, map, IfOk, subst, sym, ◌∙◌}
use Rattle.dscript_value.specs.Plain.{Plain, plain_of}
use Rattle.dscript_sdk_values.proofs.Views.{plain-Undefined}
use Rattle.dscript_eval_frames.proofs.Placings.{not_placed, placed}
use Rattle.dscript_eval_frames.proofs.captured.placed.Goals as goal

pub returns-in-Some : goal.returns-in-Some
returns-in-Some c =
    let P : Plain → Type 0 = λ x. IfOk c.value_at.result (λ value. plain_of value ≡ x) in
    subst P
    (sym (placed c.args.places.now c.args.captured.now (map plain_of c.args.held.now) c.args.local c.in-Some.place c.requires
    (sym c.place_of.ensures ∙ c.in-Some.is)))
    c.value_at.ensures

pub returns-in-None : goal.returns-in-None
returns-in-None c =
    plain-Undefined
    ∙ sym (not_placed c.args.places.now c.args.captured.now (map plain_of c.args.held.now) c.args.local c.requires
    (sym c.place_of.ensures ∙ c.in-None.is))

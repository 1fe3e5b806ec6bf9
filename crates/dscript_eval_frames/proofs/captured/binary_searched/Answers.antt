use Rattle.std.proofs.Common.{◌≡◌, map, IfOk, Err, Ok, subst, sym, ◌∙◌}
use Rattle.dscript_value.specs.Plain.{Plain, plain_of}
use Rattle.dscript_sdk_values.proofs.Views.{plain-Undefined}
use Rattle.dscript_eval_frames.proofs.Ascents.{binary_found}
use Rattle.dscript_eval_frames.proofs.captured.binary_searched.Goals as goal

pub returns-in-Ok : goal.returns-in-Ok
returns-in-Ok c =
    let P : Plain → Type 0 = λ x. IfOk c.value_at.result (λ value. plain_of value ≡ x) in
    subst P
    (sym (binary_found c.args.captured.now (map plain_of c.args.held.now) c.args.local (Ok c.in-Ok.place) c.requires c.in-Ok.ensures.position))
    c.value_at.ensures

pub returns-in-Err : goal.returns-in-Err
returns-in-Err c =
    plain-Undefined
    ∙ sym (binary_found c.args.captured.now (map plain_of c.args.held.now) c.args.local (Err _) c.requires c.in-Err.ensures.position)

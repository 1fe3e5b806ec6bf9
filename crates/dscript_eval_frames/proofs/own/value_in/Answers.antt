use Rattle.std.proofs.Common.{◌≡◌, IfOk, Option, ap, option_map, subst, sym, unwrap_or, ◌∙◌}
use Rattle.dscript_value.specs.Plain.{Plain, Undefined, plain_of}
use Rattle.dscript_sdk_values.proofs.Views.{plain-Undefined}
use Rattle.dscript_eval_frames.proofs.OwnLocals.{far_value, listed_value, no_local}
use Rattle.dscript_eval_frames.proofs.own.value_in.Goals as goal

pub returns-then-place-own : goal.returns-then-place-own
returns-then-place-own c =
    let P : Option Plain → Type 0 = λ o. IfOk c.value_at.result (λ value. plain_of value ≡ unwrap_or o Undefined) in
    subst P (sym (listed_value c.args.own.now c.args.far.now c.args.count c.args.place c.if-place-own.true))
    c.value_at.ensures

pub returns-then-place-count : goal.returns-then-place-count
returns-then-place-count c =
    let P : Plain → Type 0 = λ x. IfOk c.shared.result (λ value. plain_of value ≡ x) in
    subst P
    (ap (λ o. unwrap_or (option_map plain_of o) Undefined) c.get.ensures.value
    ∙ ap (λ o. unwrap_or o Undefined)
    (sym (far_value c.args.own.now c.args.far.now c.args.count c.args.place c.if-place-own.false c.if-place-count.true)))
    c.shared.ensures

pub returns-else-place-count : goal.returns-else-place-count
returns-else-place-count c =
    plain-Undefined
    ∙ ap (λ o. unwrap_or o Undefined)
    (sym (no_local c.args.own.now c.args.far.now c.args.count c.args.place c.if-place-own.false c.if-place-count.false))

use Rattle.std.proofs.Common.{List, ap, map, sym, ◌∙◌}
use Rattle.dscript_value.specs.declared.value.Field.{Field}
use Rattle.dscript_value.specs.Places.{first_place}
use Rattle.dscript_value.specs.Plain.{plain_field}
use Rattle.dscript_value.proofs.Putting.{at_end, at_place}
use Rattle.dscript_value.proofs.objects.put_in_few.Goals as goal

pub put_at-requires : goal.put_at-requires
put_at-requires c =
    let first = ap (λ (fs : List Field). first_place (map plain_field fs) c.field_name.result.now) (sym c.as_slice.ensures.value)
    ∙ sym c.place_in.ensures ∙ c.in-Some.is in
    (at_place plain_field c.args.fields.now.items c.args.field c.field_name.result.now c.in-Some.place c.field_name.ensures first).0

pub returns-in-Some : goal.returns-in-Some
returns-in-Some c =
    let first = ap (λ (fs : List Field). first_place (map plain_field fs) c.field_name.result.now) (sym c.as_slice.ensures.value)
    ∙ sym c.place_in.ensures ∙ c.in-Some.is in
    ap (map plain_field) c.put_at.ensures
    ∙ (at_place plain_field c.args.fields.now.items c.args.field c.field_name.result.now c.in-Some.place c.field_name.ensures first).1

pub returns-in_ok-push-in-None : goal.returns-in_ok-push-in-None
returns-in_ok-push-in-None c =
    let first = ap (λ (fs : List Field). first_place (map plain_field fs) c.field_name.result.now) (sym c.as_slice.ensures.value)
    ∙ sym c.place_in.ensures ∙ c.in-None.is in
    ap (map plain_field) c.in_ok-push-in-None.ensures.items
    ∙ at_end plain_field c.args.fields.now.items c.args.field c.field_name.result.now c.field_name.ensures first

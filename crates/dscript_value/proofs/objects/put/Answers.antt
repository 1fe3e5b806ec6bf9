use Rattle.std.proofs.Common.{◌≡◌, ℕ, List, length, ap, map, rules, subst, sym, ◌∙◌}
use Rattle.dscript_value.specs.declared.value.Field.{Field}
use Rattle.dscript_value.specs.Places.{KeepPlaces, KeepsToo}
use Rattle.dscript_value.specs.Plain.{plain_field}
use Rattle.dscript_value.proofs.Putting.{at_end, at_place, kept_after, kept_with}
use Rattle.dscript_value.proofs.objects.put.Goals as goal

pub put_at-requires : goal.put_at-requires
put_at-requires c =
    let first = sym (c.requires c.field_name.result.now) ∙ sym c.place_of.ensures ∙ c.in-Some.is in
    (at_place plain_field c.args.fields.now.items c.args.field c.field_name.result.now c.in-Some.place c.field_name.ensures first).0

pub returns-in-Some-clause-fields : goal.returns-in-Some-clause-fields
returns-in-Some-clause-fields c =
    let first = sym (c.requires c.field_name.result.now) ∙ sym c.place_of.ensures ∙ c.in-Some.is in
    ap (map plain_field) c.put_at.ensures
    ∙ (at_place plain_field c.args.fields.now.items c.args.field c.field_name.result.now c.in-Some.place c.field_name.ensures first).1

pub returns-in-Some-clause-places : goal.returns-in-Some-clause-places
returns-in-Some-clause-places c =
    let first = sym (c.requires c.field_name.result.now) ∙ sym c.place_of.ensures ∙ c.in-Some.is in
    let put = ap (map plain_field) c.put_at.ensures
    ∙ (at_place plain_field c.args.fields.now.items c.args.field c.field_name.result.now c.in-Some.place c.field_name.ensures first).1 in
    subst (KeepPlaces c.args.places.now) (sym put)
    (kept_after plain_field c.args.fields.now.items c.args.field c.args.places.now c.field_name.result.now c.in-Some.place c.field_name.ensures first c.requires)

pub returns-in_ok-push-in-None-clause-fields : goal.returns-in_ok-push-in-None-clause-fields
returns-in_ok-push-in-None-clause-fields c =
    let first = sym (c.requires c.field_name.result.now) ∙ sym c.place_of.ensures ∙ c.in-None.is in
    ap (map plain_field) c.in_ok-push-in-None.ensures.items
    ∙ at_end plain_field c.args.fields.now.items c.args.field c.field_name.result.now c.field_name.ensures first

pub returns-in_ok-push-in-None-clause-places : goal.returns-in_ok-push-in-None-clause-places
returns-in_ok-push-in-None-clause-places c =
    let first = sym (c.requires c.field_name.result.now) ∙ sym c.place_of.ensures ∙ c.in-None.is in
    let last : c.len.result ≡ length c.args.fields.now.items = search rules in
    let name = c.in_ok-copy_name-in-None.ensures ∙ sym c.field_name.ensures in
    subst (λ (fs : List Field). KeepPlaces c.keep.new.places (map plain_field fs)) (sym c.in_ok-push-in-None.ensures.items)
    (kept_with plain_field c.args.fields.now.items c.args.field c.args.places.now c.keep.new.places c.field_name.result.now c.field_name.ensures first
    (subst (λ (n : List ℕ). KeepsToo c.args.places.now c.keep.new.places n (length c.args.fields.now.items)) name
    (subst (λ (n : ℕ). KeepsToo c.args.places.now c.keep.new.places c.in_ok-copy_name-in-None.field-0.items n) last c.in_ok-keep-in-None.ensures)) c.requires)

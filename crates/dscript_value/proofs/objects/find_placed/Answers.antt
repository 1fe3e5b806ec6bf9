use Rattle.std.proofs.Common.{Some, ap, rules, sym, ◌∙◌}
use Rattle.dscript_value.specs.declared.value.Field.{Field}
use Rattle.dscript_value.specs.Plain.{plain_field}
use Rattle.dscript_value.proofs.Finding.{no_value, placed_within, value_at_place}
use Rattle.dscript_value.proofs.objects.find_placed.Goals as goal

pub bounds-fields-place : goal.bounds-fields-place
bounds-fields-place c =
    placed_within plain_field c.args.fields.now c.args.name.now c.in-Some.place
    (sym (c.requires c.args.name.now) ∙ sym c.place_of.ensures ∙ c.in-Some.is)

pub offset_bounds-fields-place : goal.offset_bounds-fields-place
offset_bounds-fields-place c =
    let within = placed_within plain_field c.args.fields.now c.args.name.now c.in-Some.place
    (sym (c.requires c.args.name.now) ∙ sym c.place_of.ensures ∙ c.in-Some.is) in
    search rules

pub returns-in-Some : goal.returns-in-Some
returns-in-Some c =
    value_at_place plain_field c.args.fields.now c.args.name.now c.in-Some.place c.index-fields-place.result
    (sym (c.requires c.args.name.now) ∙ sym c.place_of.ensures ∙ c.in-Some.is)
    ∙ ap Some (ap (λ (f : Field). (plain_field f).1) (sym c.index-fields-place.is) ∙ sym c.value_of.ensures)

pub returns-in-None : goal.returns-in-None
returns-in-None c =
    no_value plain_field c.args.fields.now c.args.name.now 0 (sym (c.requires c.args.name.now) ∙ sym c.place_of.ensures ∙ c.in-None.is)

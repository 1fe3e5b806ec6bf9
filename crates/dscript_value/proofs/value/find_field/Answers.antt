use Rattle.std.proofs.Common.{Some, ap, sym, ◌∙◌}
use Rattle.std.specs.Str.{bytes_eq}
use Rattle.dscript_value.specs.declared.value.Field.{Field}
use Rattle.dscript_value.specs.Plain.{plain_field}
use Rattle.dscript_value.proofs.Deeper.{look_here, look_on}
use Rattle.dscript_value.proofs.value.find_field.Goals as goal

pub fields-preserved : goal.fields-preserved
fields-preserved c =
    look_on plain_field c.args.fields.now c.fields.field-index c.field-item.result c.args.name.now _ c.fields-test.true
    (ap (λ (f : Field). bytes_eq (plain_field f).0 c.args.name.now) (sym c.field-item.is) ∙ sym c.has_name.ensures ∙ c.if-has_name.false)
    c.fields.invariant

pub returns-then-has_name : goal.returns-then-has_name
returns-then-has_name c =
    look_here plain_field c.args.fields.now c.fields.field-index c.field-item.result c.args.name.now _ c.fields-test.true
    (ap (λ (f : Field). bytes_eq (plain_field f).0 c.args.name.now) (sym c.field-item.is) ∙ sym c.has_name.ensures ∙ c.if-has_name.true)
    c.fields.invariant
    ∙ ap Some (ap (λ (f : Field). (plain_field f).1) (sym c.field-item.is) ∙ sym c.value_of.ensures)

use Rattle.std.proofs.Common.{List, ap, map, max, refl, ◌∙◌}
use Rattle.dscript_value.specs.declared.value.Field.{Field}
use Rattle.dscript_value.specs.Depths.{depth_of, values_of}
use Rattle.dscript_value.specs.Plain.{plain_field}
use Rattle.dscript_value.proofs.Deeper.{deeper}
use Rattle.dscript_value.proofs.objects.deepest_field.Goals as goal

pub fields-preserved : goal.fields-preserved
fields-preserved c =
    deeper (λ (fs : List Field). values_of (map plain_field fs)) (λ (f : Field). (plain_field f).1)
    c.args.fields.now c.fields.field-index c.field-item.result c.fields.depth c.larger-depth.result _ (λ x ys. refl) c.fields-test.true
    (c.larger-depth.ensures
    ∙ ap (λ n. max c.fields.depth n) (c.depth.ensures ∙ ap depth_of (c.value_of.ensures ∙ ap (λ (f : Field). (plain_field f).1) c.field-item.is)))
    c.fields.invariant

use Rattle.std.proofs.Common.{◌∙◌, ap}
use Rattle.std.specs.Cmp.Lexicographic.{slice_cmp}
use Rattle.std.specs.Ordering.{nat_cmp}
use Rattle.dscript_types_data.specs.Views.{field_data}
use Rattle.dscript_types_data.proofs.Placing.{at_it, before_it, behind_it}
use Rattle.dscript_types_data.proofs.objects.place_of.Goals as goal

pub returns-in-Less : goal.returns-in-Less
returns-in-Less c =
    before_it c.args.fields.now (field_data c.args.field.now) c.fields.place c.index-fields-place.result c.cmp.result
    c.fields-test.true c.index-fields-place.is c.in-Less.is
    (c.cmp.ensures ∙ ap (λ xs. slice_cmp nat_cmp xs c.bytes-in-fields.result.now) c.bytes.ensures
    ∙ ap (λ ys. slice_cmp nat_cmp c.args.field.now.name ys) c.bytes-in-fields.ensures)
    c.fields.invariant

pub returns-in-Equal : goal.returns-in-Equal
returns-in-Equal c =
    at_it c.args.fields.now (field_data c.args.field.now) c.fields.place c.index-fields-place.result c.cmp.result
    c.fields-test.true c.index-fields-place.is c.in-Equal.is
    (c.cmp.ensures ∙ ap (λ xs. slice_cmp nat_cmp xs c.bytes-in-fields.result.now) c.bytes.ensures
    ∙ ap (λ ys. slice_cmp nat_cmp c.args.field.now.name ys) c.bytes-in-fields.ensures)
    c.fields.invariant

pub fields-preserved : goal.fields-preserved
fields-preserved c =
    behind_it c.args.fields.now (field_data c.args.field.now) c.fields.place c.index-fields-place.result c.cmp.result
    c.fields-test.true c.index-fields-place.is c.in-Greater.is
    (c.cmp.ensures ∙ ap (λ xs. slice_cmp nat_cmp xs c.bytes-in-fields.result.now) c.bytes.ensures
    ∙ ap (λ ys. slice_cmp nat_cmp c.args.field.now.name ys) c.bytes-in-fields.ensures)
    c.fields.invariant

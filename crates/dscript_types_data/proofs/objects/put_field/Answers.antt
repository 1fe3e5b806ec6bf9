use Rattle.std.proofs.Common.{refl, map, subst}
use Rattle.dscript_types_data.specs.Places.{IsNewAt, ReplacesAt}
use Rattle.dscript_types_data.specs.Views.{field_data}
use Rattle.dscript_types_data.proofs.Placing.{inserted, replaced}
use Rattle.dscript_types_data.proofs.objects.put_field.Goals as goal

pub returns-in-Ok : goal.returns-in-Ok
returns-in-Ok c =
    replaced c.args.fields.now.items _ c.args.field c.in-Ok.place
    (subst (λ xs. ReplacesAt (map field_data xs) (field_data c.args.field) c.in-Ok.place) c.as_slice.ensures.value c.in-Ok.ensures)
    refl

pub returns-in_ok-insert-in-Err : goal.returns-in_ok-insert-in-Err
returns-in_ok-insert-in-Err c =
    inserted c.args.fields.now.items _ c.args.field c.in-Err.place
    (subst (λ xs. IsNewAt (map field_data xs) (field_data c.args.field) c.in-Err.place) c.as_slice.ensures.value c.in-Err.ensures)
    c.in_ok-insert-in-Err.ensures.items

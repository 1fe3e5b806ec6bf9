use Rattle.std.proofs.Common.{◌≡◌, IfOk, subst}
use Rattle.dscript_types_meaning.specs.Types.{TypeData}
use Rattle.dscript_types_rows.proofs.Held.{all_held}
use Rattle.dscript_types_rows.proofs.access.any_field.Goals as goal

pub returns : goal.returns
returns c =
    subst (λ (u : TypeData). IfOk c.with_undefined.result (λ t. t ≡ u))
    (all_held c.args.fields.now _ _ _ c.in_ok-types.ensures c.as_slice.ensures.value c.in_ok-all.ensures)
    c.with_undefined.ensures

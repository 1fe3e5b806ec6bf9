use Rattle.std.proofs.Common.{ap, sym, ◌∙◌}
use Rattle.dscript_types_data.specs.Views.{member_data}
use Rattle.dscript_types_meaning.specs.Ambients.{without_free}
use Rattle.dscript_types_rows.proofs.Held.{kept_object}
use Rattle.dscript_types_rows.proofs.ambients.without_free.Goals as goal

pub returns-in_ok-new-in-Objects : goal.returns-in_ok-new-in-Objects
returns-in_ok-new-in-Objects c =
    kept_object c.in-Objects.fields _ _ _ c.in_ok-new-in-Objects.ensures c.in_ok-kept-in-Objects.ensures c.items.ensures
    ∙ sym (ap (λ m. without_free (member_data m)) c.in-Objects.is)

use Rattle.std.proofs.Common.{ap, sym, ◌∙◌}
use Rattle.dscript_types_data.specs.Views.{member_data}
use Rattle.dscript_types_meaning.specs.Access.{property_of}
use Rattle.dscript_types_rows.proofs.Held.{property_held}
use Rattle.dscript_types_rows.proofs.access.property_of.Goals as goal

pub returns-in_ok-held_by-in-Objects : goal.returns-in_ok-held_by-in-Objects
returns-in_ok-held_by-in-Objects c =
    property_held c.in-Objects.fields _ c.args.name.now _ _ c.items.ensures c.field_named.ensures
    c.in_ok-held_by-in-Objects.ensures
    ∙ sym (ap (λ m. property_of c.args.name.now (member_data m)) c.in-Objects.is)

use Rattle.std.proofs.Common.{map, ap, ◌∙◌}
use Rattle.dscript_types_data.specs.Views.{field_data}
use Rattle.dscript_types_data.proofs.types.Fields.items.Goals as goal

pub returns : goal.returns
returns c = ap (map field_data) (c.as_slice.ensures.value ∙ ap (λ w. w.items) c.deref.ensures) ∙ c.self.view_is

use Rattle.std.proofs.Common.{map, ap, sym, ◌∙◌}
use Rattle.dscript_value.specs.Data.{PlainFields, member_list, member_list-to_members}
use Rattle.dscript_value.specs.Plain.{plain_field}
use Rattle.dscript_value.proofs.value.Fields.fields.Goals as goal

pub returns : goal.returns
returns c =
    ap (map plain_field) (c.as_slice.ensures.value ∙ ap (λ w. w.items) c.deref.ensures)
    ∙ sym (member_list-to_members _) ∙ ap (λ (f : PlainFields). member_list f.members) c.self.view_is

use Rattle.std.proofs.Common.{◌≡◌, List, MatchOption, None, Some, ap, map, subst, sym, ◌∙◌}
use Rattle.dscript_value.specs.Data.{PlainField, PlainFields, member_list, member_list-to_members}
use Rattle.dscript_value.specs.Depths.{field_at}
use Rattle.dscript_value.specs.Plain.{plain_field, plain_of}
use Rattle.dscript_value.proofs.value.Fields.find.Goals as goal

pub returns-in-None : goal.returns-in-None
returns-in-None c =
    let same = ap (map plain_field) (c.as_slice.ensures.value ∙ ap (λ w. w.items) c.deref.ensures)
    ∙ sym (member_list-to_members _) ∙ ap (λ (f : PlainFields). member_list f.members) c.self.view_is in
    subst (λ (fs : List PlainField). MatchOption c.find_field.result (field_at fs c.args.name.now ≡ None)
    (λ value. field_at fs c.args.name.now ≡ Some (plain_of value.now))) same c.find_field.ensures

pub returns-in-Some : goal.returns-in-Some
returns-in-Some c =
    let same = ap (map plain_field) (c.as_slice-in-Some.ensures.value ∙ ap (λ w. w.items) c.deref-in-Some.ensures)
    ∙ sym (member_list-to_members _) ∙ ap (λ (f : PlainFields). member_list f.members) c.self.view_is in
    subst (λ (fs : List PlainField). MatchOption c.find_placed.result (field_at fs c.args.name.now ≡ None)
    (λ value. field_at fs c.args.name.now ≡ Some (plain_of value.now))) same c.find_placed.ensures

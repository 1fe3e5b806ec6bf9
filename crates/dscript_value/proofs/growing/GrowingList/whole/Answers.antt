use Rattle.std.proofs.Common.{◌≡◌, List, ◌++◌, IfOk, ap, map, subst, ◌∙◌}
use Rattle.dscript_value.specs.declared.value.Value.{Value}
use Rattle.dscript_value.specs.Data.{Plain, PlainValues, item_list, item_list-to_items}
use Rattle.dscript_value.specs.Grown.{items_before}
use Rattle.dscript_value.specs.Plain.{plain_of}
use Rattle.dscript_value.proofs.growing.GrowingList.whole.Goals as goal

pub returns : goal.returns
returns c =
    let copied = c.in_ok-add_each.ensures
    ∙ ap (λ (vs : List Value). map plain_of vs ++ map plain_of c.as_slice.result.now) c.new-items.ensures.items
    ∙ ap (map plain_of) c.as_slice.ensures.value in
    let last = ap (λ (v : PlainValues). item_list v.items) (c.of-last.ensures ∙ c.in_ok-new.ensures)
    ∙ item_list-to_items _ ∙ copied in
    subst (λ (xs : List Plain). IfOk c.after.result (λ values. item_list values.items ≡ items_before c.args.self.now.before ++ xs))
    last c.after.ensures

use Rattle.std.proofs.Common.{map, ap, sym, ◌∙◌}
use Rattle.dscript_value.specs.Data.{PlainValues, item_list, item_list-to_items}
use Rattle.dscript_value.specs.Plain.{plain_of}
use Rattle.dscript_value.proofs.value.FlatValues.items.Goals as goal

pub returns : goal.returns
returns c =
    ap (map plain_of) (c.as_slice.ensures.value ∙ ap (λ w. w.items) c.deref.ensures)
    ∙ sym (item_list-to_items _) ∙ ap (λ (v : PlainValues). item_list v.items) c.self.view_is

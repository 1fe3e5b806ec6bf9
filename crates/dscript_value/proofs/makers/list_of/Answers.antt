use Rattle.std.proofs.Common.{sym, ap, ◌∙◌}
use Rattle.dscript_value.specs.Data.{PlainValues, item_list, item_list-to_items}
use Rattle.dscript_value.specs.Depths.{list_value}
use Rattle.dscript_value.proofs.makers.list_of.Goals as goal

pub returns : goal.returns
returns c =
    ap list_value (sym (ap (λ (v : PlainValues). item_list v.items) (c.of.ensures ∙ c.in_ok-new.ensures) ∙ item_list-to_items _))
    ∙ c.list.ensures

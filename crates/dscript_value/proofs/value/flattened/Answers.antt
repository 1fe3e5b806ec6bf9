use Rattle.std.proofs.Common.{◌≡◌, List, ◌++◌, ◌+◌, ◌-◌, IfOk, map, ap, subst, arith, ◌∙◌}
use Rattle.dscript_value.specs.declared.value.Value.{Value}
use Rattle.dscript_value.specs.Data.{PlainValues, item_list}
use Rattle.dscript_value.specs.Plain.{plain_of}
use Rattle.dscript_value.proofs.Deep.{values_of_items}
use Rattle.dscript_value.proofs.value.flattened.Goals as goal

pub returns : goal.returns
returns c =
    let shares = c.in_ok-add_shares.ensures
    ∙ ap (λ (vs : List Value). map plain_of vs ++ item_list c.args.values.now.items) c.new-items.ensures.items in
    let same = values_of_items c.args.values.now (c.depth.result - 1 + 1) (map plain_of c.add_shares.new.items.items) shares
    (omega (arith, c.depth.ensures.depth, c.depth.ensures.deep.one_more)) in
    subst (λ (w : PlainValues). IfOk c.new.result (λ flat. flat ≡ w)) same c.new.ensures

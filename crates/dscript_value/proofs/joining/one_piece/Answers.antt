use Rattle.std.proofs.Common.{List, ◌++◌, map, ap, arith, ◌∙◌}
use Rattle.dscript_value.specs.declared.value.Value.{Value}
use Rattle.dscript_value.specs.Data.{PlainValues, item_list, item_list-to_items}
use Rattle.dscript_value.specs.Plain.{plain_of}
use Rattle.dscript_value.proofs.Deep.{deepest_joined}
use Rattle.dscript_value.proofs.joining.one_piece.Goals as goal

pub new-requires-clause-deepest : goal.new-requires-clause-deepest
new-requires-clause-deepest c =
    let first = c.in_ok-add_shares.ensures
    ∙ ap (λ (vs : List Value). map plain_of vs ++ item_list c.args.left.now.items) c.new-items.ensures.items in
    deepest_joined c.args.left.now c.args.right.now c.larger-depth.result (map plain_of c.add_shares-2.new.items.items)
    c.depth.ensures.deep c.depth-2.ensures.deep (omega (arith, c.larger-depth.ensures, c.depth.ensures.depth, c.depth-2.ensures.depth))
    (c.in_ok-add_shares-2.ensures ∙ ap (λ ys. ys ++ item_list c.args.right.now.items) first)

pub returns : goal.returns
returns c =
    let first = c.in_ok-add_shares.ensures
    ∙ ap (λ (vs : List Value). map plain_of vs ++ item_list c.args.left.now.items) c.new-items.ensures.items in
    ap (λ (v : PlainValues). item_list v.items) (c.of.ensures ∙ c.in_ok-new.ensures)
    ∙ item_list-to_items _ ∙ c.in_ok-add_shares-2.ensures ∙ ap (λ ys. ys ++ item_list c.args.right.now.items) first

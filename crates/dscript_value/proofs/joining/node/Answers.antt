use Rattle.std.proofs.Common.{◌++◌, ◌+◌, ap, arith, ◌∙◌}
use Rattle.dscript_value.specs.declared.value.Join.{Join}
use Rattle.dscript_value.specs.Data.{item_list, item_list-to_items}
use Rattle.dscript_value.proofs.Inside.{join_of}
use Rattle.dscript_value.proofs.joining.node.Goals as goal

pub invariant_of-result : goal.invariant_of-result
invariant_of-result c =
    join_of _ c.args.left c.args.right (c.len.result + c.len-2.result) c.larger-depth.result c.saturating_add-height.result c.in_ok-new.ensures.ok
    c.requires.left c.requires.right (omega (arith, c.len.ensures.len, c.len-2.ensures.len)) (omega (arith, c.if-count-gt-MAX_COUNT.false))
    c.depth.ensures.deep c.depth-2.ensures.deep (omega (arith, c.larger-depth.ensures, c.depth.ensures.depth, c.depth-2.ensures.depth))

pub returns : goal.returns
returns c =
    item_list-to_items _ ∙ ap (λ (j : Join). item_list j.left.items ++ item_list j.right.items) c.in_ok-new.ensures.ok

use Rattle.std.proofs.Common.{rules}
use Rattle.dscript_names.proofs.Collected.{names_more}
use Rattle.dscript_names.proofs.collecting.names_of.Goals as goal

pub items-preserved : goal.items-preserved
items-preserved c =
    names_more c.args.items.now c.items.item-index _ _ _ c.items.invariant c.in_ok-add_item.ensures (search rules) c.item-item.is

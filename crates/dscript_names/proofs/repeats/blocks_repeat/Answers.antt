use Rattle.std.proofs.Common.{false, map, rules}
use Rattle.std.specs.List.{list_any}
use Rattle.dscript_ast.specs.Views.{item_tree}
use Rattle.dscript_names_scopes.specs.Duplicates.{item_repeats}
use Rattle.dscript_names.proofs.Found.{found_more, items_listed}
use Rattle.dscript_names.proofs.repeats.blocks_repeat.Goals as goal

pub items-preserved : goal.items-preserved
items-preserved c =
    found_more (λ xs. list_any item_repeats (map item_tree xs)) (λ x. item_repeats (item_tree x)) items_listed
    c.args.items.now c.items.item-index _ false _ _ c.items.invariant c.in_ok-item.ensures (search rules) c.item-item.is

use Rattle.std.proofs.Common.{◌≡◌, map, take}
use Rattle.std.specs.List.{list_any}
use Rattle.dscript_ast.specs.Views.{item_tree}
use Rattle.dscript_names_scopes.specs.Duplicates.{item_repeats}
use Rattle.dscript_names.proofs.repeats.blocks_repeat.Given as goal

abbrev pub invariant-items : goal.invariant-items
invariant-items l = l.repeats.found ≡ list_any item_repeats (map item_tree (take l.item-index l.items))

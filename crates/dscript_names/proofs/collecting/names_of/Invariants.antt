use Rattle.std.proofs.Common.{map, take}
use Rattle.dscript_ast.specs.Views.{item_tree}
use Rattle.dscript_names.specs.Gathered.{NamesOf}
use Rattle.dscript_names.proofs.collecting.names_of.Given as goal

abbrev pub invariant-items : goal.invariant-items
invariant-items l = NamesOf l.names (map item_tree (take l.item-index l.items))

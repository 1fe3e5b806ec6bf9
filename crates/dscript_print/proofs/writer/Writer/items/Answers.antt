use Rattle.std.proofs.Common.{rules, map}
use Rattle.dscript_ast.specs.Views.{item_tree}
use Rattle.dscript_print.specs.FileKinds.{item_kinds}
use Rattle.dscript_print.proofs.Steps.{joined_turn, maps_listed}
use Rattle.dscript_print.proofs.writer.Writer.items.Goals as goal

pub loop-item-preserved : goal.loop-item-preserved
loop-item-preserved c =
    joined_turn (λ xs. map item_kinds (map item_tree xs)) (λ x. item_kinds (item_tree x)) (maps_listed item_kinds item_tree) c.args.items.now c.loop-item.item-index _ _ _ _
    c.loop-item.invariant (search rules) (search rules) c.item-item.is

use Rattle.std.proofs.Common.{rules, map}
use Rattle.dscript_ast.specs.Views.{import_tree}
use Rattle.dscript_print.specs.FileKinds.{import_kinds}
use Rattle.dscript_print.proofs.Steps.{led_turn, maps_listed}
use Rattle.dscript_print.proofs.writer.Writer.imported.Goals as goal

pub loop-import-preserved : goal.loop-import-preserved
loop-import-preserved c =
    led_turn (λ xs. map import_kinds (map import_tree xs)) (λ x. import_kinds (import_tree x)) (maps_listed import_kinds import_tree) "," c.in-Some.others.now c.loop-import.import-index _ _ _ _ _
    c.loop-import.invariant c.in_ok-comma.ensures c.in_ok-import_name-2.ensures (search rules) c.import-item.is

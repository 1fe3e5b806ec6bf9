use Rattle.std.proofs.Common.{rules, map}
use Rattle.dscript_ast.specs.Views.{param_tree}
use Rattle.dscript_print.specs.ExprKinds.{param_kinds}
use Rattle.dscript_print.proofs.Steps.{led_turn, maps_listed}
use Rattle.dscript_print.proofs.writer.Writer.params.Goals as goal

pub loop-param-preserved : goal.loop-param-preserved
loop-param-preserved c =
    led_turn (λ xs. map param_kinds (map param_tree xs)) (λ x. param_kinds (param_tree x)) (maps_listed param_kinds param_tree) "," c.in-Some.others.now c.loop-param.param-index _ _ _ _ _
    c.loop-param.invariant c.in_ok-comma.ensures c.in_ok-param-2.ensures (search rules) c.param-item.is

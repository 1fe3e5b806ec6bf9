use Rattle.std.proofs.Common.{rules}
use Rattle.dscript_print.specs.Runs.{word_run}
use Rattle.dscript_print.proofs.Steps.{led_step}
use Rattle.dscript_print.proofs.writer.Writer.more_names.Goals as goal

pub loop-name-preserved : goal.loop-name-preserved
loop-name-preserved c =
    led_step "," word_run c.args.names.now c.loop-name.name-index c.name-item.result _ _ _ _
    c.loop-name.invariant c.in_ok-comma.ensures c.in_ok-name.ensures (search rules) c.name-item.is

use Rattle.dscript_print.proofs.Steps.{repeated_step}
use Rattle.dscript_print.proofs.writer.Writer.brackets.Goals as goal

pub loop-level-preserved : goal.loop-level-preserved
loop-level-preserved c =
    repeated_step (c.loop-level._level) _ _ _ _ _ _ c.loop-level.invariant c.in_ok-punctuator.ensures c.in_ok-punctuator-2.ensures

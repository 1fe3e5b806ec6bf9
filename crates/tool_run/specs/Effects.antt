-- What an end of an instruction comes to.
use Rattle.std.specs.Prelude.{Option, Some, None}
use Rattle.observed.specs.declared.access.End.{End}
use Rattle.tool_run.specs.declared.effect.Effect.{Effect}
use Rattle.tool_run.specs.declared.effect.Effect.TheVariants as effects

-- the run goes on, or ends so
abbrev pub effect_for : Option End → Effect
effect_for None = effects.Goes
effect_for (Some end) = effects.Stops end

-- `Cmd.argument`: a value as an argument, and none where it is undefined.
use Rattle.std.specs.Prelude.{List, []}
use Rattle.dscript_value.specs.Plain.{Plain}
use Rattle.dscript_sdk_values.specs.Arguments.{one_of}
use Rattle.dscript_sdk_values.specs.Outcomes.{Outcome, ◌>>=◌}
use Rattle.dscript_sdk_calls.specs.ArgumentTexts.{argument_after}

unfoldable pub cmd_argument : List Plain → Outcome Plain
cmd_argument args = one_of args >>= argument_after []

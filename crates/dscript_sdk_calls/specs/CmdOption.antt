-- `Cmd.option`: a value after a text as one argument, and none where it is undefined.
use Rattle.std.specs.Prelude.{List}
use Rattle.dscript_value.specs.Plain.{Plain}
use Rattle.dscript_sdk_values.specs.Arguments.{two_of}
use Rattle.dscript_sdk_values.specs.Kinds.{text_in}
use Rattle.dscript_sdk_values.specs.Outcomes.{Outcome, ◌>>=◌}
use Rattle.dscript_sdk_calls.specs.ArgumentTexts.{argument_after}

unfoldable pub cmd_option : List Plain → Outcome Plain
cmd_option args = two_of args >>= λ two. text_in two.0 >>= λ before. argument_after before two.1

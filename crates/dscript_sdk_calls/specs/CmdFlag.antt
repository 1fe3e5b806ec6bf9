-- `Cmd.flag`: a text as an argument where a flag is true, and otherwise none.
use Rattle.std.specs.Prelude.{ℕ, true, false, List, [], Ok, Err}
use Rattle.dscript_value.specs.Plain as plain
use Rattle.dscript_value.specs.Plain.{Plain}
use Rattle.dscript_sdk_values.specs.declared.fault.SdkFault.TheVariants.{Kind}
use Rattle.dscript_sdk_values.specs.Arguments.{two_of}
use Rattle.dscript_sdk_values.specs.Kinds.{text_in}
use Rattle.dscript_sdk_values.specs.Outcomes.{Outcome, ◌>>=◌}
use Rattle.dscript_sdk_calls.specs.ArgumentTexts.{no_argument, text_argument}

abbrev pub flagged : List ℕ → Plain → Outcome Plain
flagged text plain.Undefined = Ok no_argument
flagged text (plain.Flag true) = text_argument [] text
flagged text (plain.Flag false) = Ok no_argument
flagged text _ = Err Kind

unfoldable pub cmd_flag : List Plain → Outcome Plain
cmd_flag args = two_of args >>= λ two. text_in two.0 >>= λ text. flagged text two.1

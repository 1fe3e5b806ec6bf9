-- `Contract.assert` and `Contract.requires`, which are one call: a refusal unless a flag is true.
use Rattle.std.specs.Prelude.{ℕ, Bool, true, false, List, Ok, Err}
use Rattle.dscript_value.specs.Plain as plain
use Rattle.dscript_value.specs.Plain.{Plain}
use Rattle.dscript_sdk_values.specs.declared.fault.SdkFault.TheVariants.{User}
use Rattle.dscript_sdk_values.specs.Arguments.{two_of}
use Rattle.dscript_sdk_values.specs.Kinds.{flag_in, text_in}
use Rattle.dscript_sdk_values.specs.Outcomes.{Outcome, ◌>>=◌}

abbrev pub unless_true : Bool → List ℕ → Outcome Plain
unless_true true message = Ok plain.Undefined
unless_true false message = Err (User message)

unfoldable pub contract_assert : List Plain → Outcome Plain
contract_assert args =
    two_of args >>= λ two.
    flag_in two.0 >>= λ holds.
    text_in two.1 >>= λ message.
    unless_true holds message

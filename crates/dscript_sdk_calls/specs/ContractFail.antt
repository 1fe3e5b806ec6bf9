-- `Contract.fail`: a refusal that a specification asks for.
use Rattle.std.specs.Prelude.{List, Err}
use Rattle.dscript_value.specs.Plain.{Plain}
use Rattle.dscript_sdk_values.specs.declared.fault.SdkFault.TheVariants.{User}
use Rattle.dscript_sdk_values.specs.Arguments.{one_of}
use Rattle.dscript_sdk_values.specs.Kinds.{text_in}
use Rattle.dscript_sdk_values.specs.Outcomes.{Outcome, ◌>>=◌}

unfoldable pub contract_fail : List Plain → Outcome Plain
contract_fail args = one_of args >>= text_in >>= λ message. Err (User message)

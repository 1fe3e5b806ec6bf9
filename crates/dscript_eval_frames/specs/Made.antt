-- What calls that make values answer.
use Rattle.std.specs.Prelude.{◌≡◌, List, Result, Ok, MatchResult}
use Rattle.dscript_value.specs.Depths.{object_value}
use Rattle.dscript_value.specs.Plain.{Plain, PlainField, plain_of}
use Rattle.dscript_value.specs.declared.value.Value.{Value}
use Rattle.dscript_sdk_values.specs.declared.fault.SdkFault.{SdkFault}
use Rattle.dscript_sdk_values.specs.declared.fault.SdkFault.TheVariants.{Range}
use Rattle.dscript_sdk_values.specs.Outcomes.{Outcome, Refuses, unless_none}

abbrev pub object_answer : List PlainField → Outcome Plain
object_answer found = unless_none Range (object_value found)

-- the outcome is this value, or this fault unless that is want of memory
abbrev pub Answers : Result Value SdkFault → Outcome Plain → Type 0
Answers result outcome =
    MatchResult result (λ value. outcome ≡ Ok (plain_of value)) (λ fault. Refuses fault outcome)

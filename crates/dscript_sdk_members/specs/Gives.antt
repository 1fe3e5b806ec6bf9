-- What a member of some kind of value came to, which may be missing there.
use Rattle.std.specs.Prelude.{◌≡◌, ◌≢◌, List, Option, Some, None, Result, Ok, Err}
use Rattle.std.specs.Prelude.{MatchOption, MatchResult}
use Rattle.dscript_value.specs.declared.value.Value.{Value}
use Rattle.dscript_value.specs.Plain.{Plain, plain_of}
use Rattle.dscript_sdk_values.specs.declared.fault.SdkFault.{SdkFault}
use Rattle.dscript_sdk_values.specs.declared.fault.SdkFault.TheVariants.{Memory}
use Rattle.dscript_sdk_values.specs.Outcomes.{Outcome}
use Rattle.dscript_sdk_members.specs.Functions.{MemberFunction}

-- a member function that may be missing, at its arguments
abbrev pub applied : Option MemberFunction → List Plain → Option (Outcome Plain)
applied None args = None
applied (Some function) args = Some (function args)

-- None where there is no such member, and otherwise what it comes to, unless memory ran out
abbrev pub Gives : Option (Outcome Plain) → Result (Option Value) SdkFault → Type 0
Gives member result = MatchResult result
    (λ found. MatchOption found (member ≡ None) (λ value. member ≡ Some (Ok (plain_of value))))
    (λ fault. fault ≢ Memory → member ≡ Some (Err fault))

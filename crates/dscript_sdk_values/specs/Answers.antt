-- Values that calls answer, within the limits.
use Rattle.std.specs.Prelude.{ℕ, ◌^◌, nat_le, nat_lt, if◌then◌else◌, pos, List, length, Ok, Err}
use Rattle.dscript_value.specs.declared.parts.Callee.{Callee}
use Rattle.dscript_value.specs.Depths.{list_value, function_value}
use Rattle.dscript_value.specs.Plain as plain
use Rattle.dscript_value.specs.Plain.{Plain}
use Rattle.dscript_sdk_values.specs.declared.fault.SdkFault.TheVariants.{Range}
use Rattle.dscript_sdk_values.specs.declared.limits.TheConstants.{MAX_LIST_ITEMS, MAX_TEXT_BYTES}
use Rattle.dscript_sdk_values.specs.Outcomes.{Outcome, unless_none}

abbrev pub text_answer : List ℕ → Outcome Plain
text_answer text = if nat_le (length text) MAX_TEXT_BYTES then Ok (plain.Text text) else Err Range

-- a number has 32 bits, one of them for the sign
abbrev pub number_answer : ℕ → Outcome Plain
number_answer n = if nat_lt n (2 ^ 31) then Ok (plain.Number (pos n)) else Err Range

-- a list has few enough items, and is not too deep
abbrev pub list_answer : List Plain → Outcome Plain
list_answer items =
    if nat_le (length items) MAX_LIST_ITEMS then unless_none Range (list_value items) else Err Range

-- a function, unless it is too deep
abbrev pub function_answer : Callee → List Plain → Outcome Plain
function_answer callee held = unless_none Range (function_value callee held)

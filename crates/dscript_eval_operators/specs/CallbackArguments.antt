-- The arguments of members that call functions.
use Rattle.std.specs.Prelude.{List, Ok, Err}
use Rattle.dscript_value.specs.declared.parts.Callee.{Callee}
use Rattle.dscript_value.specs.Plain as plain
use Rattle.dscript_value.specs.Plain.{Plain, item_list}
use Rattle.dscript_sdk_values.specs.declared.fault.SdkFault.TheVariants.{Kind}
use Rattle.dscript_sdk_values.specs.Arguments.{one_of, two_of}
use Rattle.dscript_sdk_values.specs.Outcomes.{Outcome, ◌>>=◌}

-- a function: what it calls, and the values that it holds
abbrev pub Function : Type 0
Function = Callee × List Plain

abbrev pub function_in : Plain → Outcome Function
function_in (plain.Function callee depth held) = Ok (callee, item_list held)
function_in _ = Err Kind

unfoldable pub callback_in : List Plain → Outcome Function
callback_in args = one_of args >>= function_in

-- a callback, and the value with which a reduction begins
unfoldable pub reduction_in : List Plain → Outcome (Function × Plain)
reduction_in args = two_of args >>= λ two. function_in two.0 >>= λ f. Ok (f, two.1)

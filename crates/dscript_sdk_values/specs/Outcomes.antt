-- What a call comes to: a value, or its first fault.
use Rattle.std.specs.Prelude.{◌≡◌, ◌≢◌, Option, Some, None, Result, Ok, Err}
use Rattle.dscript_sdk_values.specs.declared.fault.SdkFault.{SdkFault}
use Rattle.dscript_sdk_values.specs.declared.fault.SdkFault.TheVariants.{Memory}

abbrev pub Outcome : Type 0 → Type 0
Outcome X = Result X SdkFault

-- one step and then another with its value; the first fault is that of both
infixl 10 ◌>>=◌
abbrev pub ◌>>=◌ : {X Y : Type 0} → Outcome X → (X → Outcome Y) → Outcome Y
(Ok x) >>= next = next x
(Err fault) >>= next = Err fault

-- the value that is there, and otherwise this fault
abbrev pub unless_none : {X : Type 0} → SdkFault → Option X → Outcome X
unless_none fault None = Err fault
unless_none fault (Some x) = Ok x

-- The call is refused with this fault, unless memory ran out.
abbrev pub Refuses : {X : Type 0} → SdkFault → Outcome X → Type 0
Refuses fault outcome = fault ≢ Memory → outcome ≡ Err fault

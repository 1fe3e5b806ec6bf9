-- Evaluation as a function of the state: one thing after another, the first fault, and steps.
use Rattle.std.specs.Prelude.{ℕ, ◌-◌, nat_le, if◌then◌else◌, List, Option, Some, None, Result, Ok, Err}
use Rattle.dscript_sdk_values.specs.declared.fault.SdkFault.{SdkFault}
use Rattle.dscript_sdk_values.specs.declared.fault.SdkFault.TheVariants as sdk_faults
use Rattle.dscript_sdk_values.specs.Outcomes.{Outcome}
use Rattle.dscript_eval_meaning.specs.declared.fault.EvalKind.{EvalKind}
use Rattle.dscript_eval_meaning.specs.declared.fault.EvalKind.TheVariants as kinds
use Rattle.dscript_eval_meaning.specs.States.{State}

-- Why evaluation stops: a fault with its kind, the number of its file and its message, or more pips than can
-- be numbered.
pub data Stop : Type 0 where
  Fault : EvalKind → ℕ → Option (List ℕ) → Stop
  TooMany : Stop

-- what gives a value and the state after it, or stops
abbrev pub Gives : Type 0 → Type 0
Gives A = State → Result (A × State) Stop

-- a value at no cost
abbrev pub gives : {A : Type 0} → A → Gives A
gives x s = Ok (x, s)

-- what follows on a value and the state after it; a stop is followed by nothing
abbrev pub followed : {A B : Type 0} → Result (A × State) Stop → (A → Gives B) → Result (B × State) Stop
followed (Ok r) more = more r.0 r.1
followed (Err stop) more = Err stop

-- one thing, and then another with its value
infixl 10 ◌>>=◌
abbrev pub ◌>>=◌ : {A B : Type 0} → Gives A → (A → Gives B) → Gives B
m >>= more = λ s. followed (m s) more

-- one thing, and then another
infixr 9 ◌>>◌
abbrev pub ◌>>◌ : {A B : Type 0} → Gives A → Gives B → Gives B
m >> more = λ s. followed (m s) (λ x. more)

-- a fault in the file of the running body
abbrev pub fails : {A : Type 0} → EvalKind → Gives A
fails kind s = Err (Fault kind s.frame.file None)

-- A fault of an operator, a call or a member, in this file. A definition needs no memory: what is answered
-- as a lack of it is one pip more than can be numbered.
abbrev pub stop_of : SdkFault → ℕ → Stop
stop_of sdk_faults.Kind file = Fault kinds.Kind file None
stop_of sdk_faults.Missing file = Fault kinds.Missing file None
stop_of sdk_faults.Range file = Fault kinds.Range file None
stop_of sdk_faults.BadPath file = Fault kinds.BadPath file None
stop_of sdk_faults.BadArgument file = Fault kinds.BadArgument file None
stop_of (sdk_faults.User message) file = Fault kinds.User file (Some message)
stop_of sdk_faults.Memory file = TooMany

-- what an operator, a call or a member answers, whose fault is in the file of the running body
abbrev pub answered : {A : Type 0} → Outcome A → Gives A
answered (Ok x) s = Ok (x, s)
answered (Err fault) s = Err (stop_of fault s.frame.file)

-- steps that are spent; a step that is due when none is left is a fault
abbrev pub spend : ℕ → Gives (Unit {0})
spend n s = if nat_le n s.left then Ok (tt, record s { left = s.left - n }) else fails kinds.Budget s

abbrev pub step : Gives (Unit {0})
step = spend 1

-- What lookups answer.
use Rattle.std.specs.Prelude.{◌≡◌, Option, Some, None, Result, Ok, Err}
use Rattle.std.specs.Bool.{⊤}
use Rattle.dscript_program.specs.declared.spec_fault.SpecKind.{SpecKind}
use Rattle.dscript_names_scopes.specs.declared.stop.Stop.{Stop}
use Rattle.dscript_names_scopes.specs.declared.stop.Stop.TheVariants as stops

-- the value or the fault; running out of memory has no cause that is stated
abbrev pub Answers : {A : Type 0} → Result A Stop → Result A SpecKind → Type 0
Answers (Ok x) meant = meant ≡ Ok x
Answers (Err (stops.Fault kind)) meant = meant ≡ Err kind
Answers (Err stops.Memory) meant = ⊤

-- nothing, a value, or a fault
abbrev pub AnswersLevel : {A : Type 0} → Result (Option A) Stop → Option (Result A SpecKind) → Type 0
AnswersLevel (Ok None) meant = meant ≡ None
AnswersLevel (Ok (Some x)) meant = meant ≡ Some (Ok x)
AnswersLevel (Err (stops.Fault kind)) meant = meant ≡ Some (Err kind)
AnswersLevel (Err stops.Memory) meant = ⊤

-- no fault, or this one
abbrev pub Checks : {A : Type 0} → Result A Stop → Option SpecKind → Type 0
Checks (Ok x) fault = fault ≡ None
Checks (Err (stops.Fault kind)) fault = fault ≡ Some kind
Checks (Err stops.Memory) fault = ⊤

-- Evaluation that keeps to the kinds of values.
use Rattle.std.specs.Prelude.{List, Result, Ok, Err}
use Rattle.pip_model_types.specs.declared.pip.Pip.{Pip}
use Rattle.dscript_eval_meaning.specs.declared.fault.EvalKind.{EvalKind}
use Rattle.dscript_eval_meaning.specs.declared.fault.EvalKind.TheVariants as kinds
use Rattle.dscript_eval_meaning.specs.Meaning.{Refusal, Refused, Unnumbered}

-- a fault that says neither that a value is of another kind than is asked for, nor that a member is missing
abbrev pub IsNoKindFault : EvalKind → Type 0
IsNoKindFault kinds.Kind = ⊥
IsNoKindFault kinds.Missing = ⊥
IsNoKindFault kinds.Cycle = Unit {0}
IsNoKindFault kinds.Range = Unit {0}
IsNoKindFault kinds.BadPath = Unit {0}
IsNoKindFault kinds.Depth = Unit {0}
IsNoKindFault kinds.Budget = Unit {0}
IsNoKindFault kinds.BadArgument = Unit {0}
IsNoKindFault kinds.User = Unit {0}

-- a program has pips, or it has none for another reason
abbrev pub KeepsToKinds : Result (List Pip) Refusal → Type 0
KeepsToKinds (Ok pips) = Unit {0}
KeepsToKinds (Err (Refused kind file message)) = IsNoKindFault kind
KeepsToKinds (Err Unnumbered) = Unit {0}

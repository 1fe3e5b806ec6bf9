-- The operator next to the operand is the first to act.
use Rattle.std.proofs.Common.{◌≡◌, List, [], ◌∷◌, ◌++◌, length, Ok, Err, refl, ap, arith}
use Rattle.dscript_ast.specs.declared.operator.UnaryOp.{UnaryOp}
use Rattle.dscript_value.specs.Plain.{Plain}
use Rattle.dscript_sdk_values.specs.declared.fault.SdkFault.{SdkFault}
use Rattle.dscript_sdk_values.specs.Outcomes.{Outcome, ◌>>=◌}
use Rattle.dscript_eval_operators.specs.Operators.{prefixed, prefixed_by}

pub nearest_acts
    : (ops : List UnaryOp) (op : UnaryOp) (a b : Plain) → prefixed_by op a ≡ Ok b
    → prefixed (ops ++ op ∷ []) a ≡ prefixed ops b
unfolding prefixed
nearest_acts [] op a b h = h
nearest_acts (x ∷ xs) op a b h = ap (λ r. r >>= prefixed_by x) (nearest_acts xs op a b h)

pub nearest_fails
    : (ops : List UnaryOp) (op : UnaryOp) (a : Plain) (fault : SdkFault) → prefixed_by op a ≡ Err fault
    → prefixed (ops ++ op ∷ []) a ≡ Err fault
unfolding prefixed
nearest_fails [] op a fault h = h
nearest_fails (x ∷ xs) op a fault h = ap (λ r. r >>= prefixed_by x) (nearest_fails xs op a fault h)

pub no_operators : (ops : List UnaryOp) (a : Plain) → length ops ≡ 0 → prefixed ops a ≡ Ok a
unfolding prefixed
no_operators [] a none = refl
no_operators (op ∷ ops) a none = absurd (omega (arith, none))

-- How many calls may be open where a constant is demanded.
use Rattle.std.proofs.Common.{◌≡◌, ℕ, [], ◌∷◌, None, Ok, Err, refl}
use Rattle.dscript_ast.specs.declared.operator.BinaryOp.TheVariants.{Equal, Subtract}
use Rattle.dscript_program.specs.BoundTree as tree
use Rattle.dscript_program.specs.ProgramData.{ProgramData}
use Rattle.dscript_eval_operators.specs.Equalities.{is_equal}
use Rattle.dscript_eval_operators.specs.Numbers.{difference_of}
use Rattle.dscript_eval_operators.specs.Operators.{is_settled, operated}
use Rattle.dscript_eval_operators.specs.Truth.{is_true}
use Rattle.dscript_eval_meaning.specs.declared.fault.EvalKind.TheVariants.{Cycle, Depth}
use Rattle.dscript_eval_meaning.specs.Calls.{applied, subject_call}
use Rattle.dscript_eval_meaning.specs.Constants.{constant as a_constant}
use Rattle.dscript_eval_meaning.specs.Expressions.{named, value}
use Rattle.dscript_eval_meaning.specs.Meaning.{Refused, acts, evaluated, meaning}
use Rattle.dscript_eval_meaning.specs.Statements.{body_value}
use Rattle.dscript_eval_meaning.proofs.Samples.{binary, body, build, call, constant, function, global, local, number, program}

-- `n => n === 0 ? c : g(n - 1)`, called with `n` beside a constant `c`
abbrev demands_last : ℕ → ProgramData
demands_last n =
    program (function 0 ∷ constant (call (global 0) (number n ∷ [])) ∷ constant (number 1) ∷ [])
    (body 1 1 (tree.Expr (tree.Cond (binary (local 0) Equal (number 0)) (global 2)
    (call (global 0) (binary (local 0) Subtract (number 1) ∷ [])))) ∷ [])

-- a demanded constant, 198 bodies and another demanded constant are open
demand_may_be_open : meaning (demands_last 197) [] 10000 ≡ Ok []
unfolding meaning evaluated acts a_constant value named applied body_value operated is_settled is_equal
    difference_of is_true subject_call
demand_may_be_open = refl

-- where a constant and 199 bodies are open, no other constant is evaluated
demand_too_deep : meaning (demands_last 198) [] 10000 ≡ Err (Refused Depth build None)
unfolding meaning evaluated acts a_constant value named applied body_value operated is_settled is_equal
    difference_of is_true subject_call
demand_too_deep = refl

-- `n => n === 0 ? x : g(n - 1)` with `const x = g(n)`: where 200 calls are open, a constant that depends on
-- itself is a cycle
abbrev demands_itself : ℕ → ProgramData
demands_itself n =
    program (function 0 ∷ constant (call (global 0) (number n ∷ [])) ∷ [])
    (body 1 1 (tree.Expr (tree.Cond (binary (local 0) Equal (number 0)) (global 1)
    (call (global 0) (binary (local 0) Subtract (number 1) ∷ [])))) ∷ [])

cycle_where_no_call_may_open : meaning (demands_itself 198) [] 10000 ≡ Err (Refused Cycle build None)
unfolding meaning evaluated acts a_constant value named applied body_value operated is_settled is_equal
    difference_of is_true subject_call
cycle_where_no_call_may_open = refl

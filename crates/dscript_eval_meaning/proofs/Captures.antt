-- What functions hold, and what locals hold.
use Rattle.std.proofs.Common.{ℕ, [], ◌∷◌, None, Some, refl}
use Rattle.dscript_ast.specs.declared.operator.BinaryOp.TheVariants.{Equal}
use Rattle.dscript_program.specs.BoundTree as tree
use Rattle.dscript_program.specs.BoundTree.{ExprData}
use Rattle.dscript_program.specs.ProgramData.{FunctionData, ProgramData}
use Rattle.dscript_eval_operators.specs.Equalities.{is_equal}
use Rattle.dscript_eval_operators.specs.Operators.{is_settled, operated}
use Rattle.dscript_eval_operators.specs.Truth.{is_true}
use Rattle.dscript_eval_meaning.specs.declared.fault.EvalKind.TheVariants.{Kind}
use Rattle.dscript_eval_meaning.specs.Calls.{applied, subject_call}
use Rattle.dscript_eval_meaning.specs.Constants.{constant as a_constant}
use Rattle.dscript_eval_meaning.specs.Expressions.{arrow, named, value}
use Rattle.dscript_eval_meaning.specs.Meaning.{acts, evaluated, meaning}
use Rattle.dscript_eval_meaning.specs.Statements.{body_value, does}
use Rattle.dscript_eval_meaning.proofs.Samples.{Fails, Takes, binary, body, call, constant, function, global}
use Rattle.dscript_eval_meaning.proofs.Samples.{local, number}
use Rattle.dscript_eval_meaning.proofs.Samples.{program}

-- `e === n ? 1 : 1()`: no fault exactly where the value is that number
abbrev is_number : ExprData → ℕ → ExprData
is_number e n = tree.Cond (binary e Equal (number n)) (number 1) (call (number 1) [])

-- `() => a` inside a function whose first local is `a`
abbrev inner : FunctionData
inner = record {
  file = 0;
  captured = 0 ∷ [];
  params = [];
  first_local = 2;
  local_count = 0;
  body = tree.Expr (local 0);
}

-- `let a = 1; const g = () => a; a = 2; return g();`, whose value is looked at
abbrev captured : ℕ → ProgramData
captured n =
    program (function 0 ∷ constant (is_number (call (global 0) []) n) ∷ [])
    (body 0 2 (tree.Stmts (tree.Let 0 None (Some (number 1)) ∷ tree.Const 1 None (tree.Arrow 1)
    ∷ tree.Assign 0 (number 2) ∷ tree.Return (Some (call (local 1) [])) ∷ [])) ∷ inner ∷ [])

-- a captured local keeps the value from when the function was made
value_when_made : Takes (captured 1) 16
unfolding meaning evaluated acts a_constant value named arrow applied body_value does operated is_settled
    is_equal is_true subject_call
value_when_made = (refl, refl)

not_value_when_called : Fails (captured 2) Kind
unfolding meaning evaluated acts a_constant value named arrow applied body_value does operated is_settled
    is_equal is_true subject_call
not_value_when_called = refl

-- `function f(a) { return a; }` called with 1 and 2: the second argument is dropped
dropped_argument
    : Takes
    (program (function 0 ∷ constant (is_number (call (global 0) (number 1 ∷ number 2 ∷ [])) 1) ∷ [])
    (body 1 1 (tree.Expr (local 0)) ∷ []))
    9
unfolding meaning evaluated acts a_constant value named applied body_value operated is_settled is_equal
    is_true subject_call
dropped_argument = (refl, refl)

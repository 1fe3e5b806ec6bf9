-- Which file a fault names, with which message, and what is paid before it.
use Rattle.std.proofs.Common.{◌≡◌, [], ◌∷◌, codes, None, Some, Err, refl}
use Rattle.bx_tree.specs.Paths.{Atoms}
use Rattle.dscript_program.specs.declared.ambient.Ambient.TheVariants.{Fail}
use Rattle.dscript_ast.specs.declared.operator.BinaryOp.TheVariants.{Add}
use Rattle.dscript_program.specs.BoundTree as tree
use Rattle.dscript_program.specs.BoundTree.{ExprData, to_operands}
use Rattle.dscript_program.specs.ProgramData.{ProgramData}
use Rattle.dscript_program.specs.declared.target.Target.TheVariants as targets
use Rattle.dscript_eval_operators.specs.Operators.{is_settled, operated}
use Rattle.dscript_eval_operators.specs.Sums.{sum_of}
use Rattle.dscript_sdk_calls.specs.ContractFail.{contract_fail}
use Rattle.dscript_sdk.specs.Calls.{call_of}
use Rattle.dscript_eval_meaning.specs.declared.fault.EvalKind.TheVariants as kinds
use Rattle.dscript_eval_meaning.specs.Calls.{ambient as ambient_call, applied, subject_call}
use Rattle.dscript_eval_meaning.specs.Constants.{constant as a_constant}
use Rattle.dscript_eval_meaning.specs.Expressions.{named, value}
use Rattle.dscript_eval_meaning.specs.Meaning.{Refused, acts, evaluated, meaning}
use Rattle.dscript_eval_meaning.proofs.Samples.{ambient, build, call, constant, number, only, text}

abbrev other : Atoms
other = codes "other.dsc" ∷ []

-- two files with a constant each, the first of which is that of the second
abbrev two_files : ExprData → ProgramData
two_files e = record {
  files = record {
    path = build;
    module_number = 0;
    decls = constant (tree.Name (targets.Declared 1 0)) ∷ [];
  } ∷ record { path = other; module_number = 0; decls = constant e ∷ [] } ∷ [];
  functions = [];
}

-- `1()` in the other file, where the constant of the first demands it
fault_of_other : meaning (two_files (call (number 1) [])) [] 1000 ≡ Err (Refused kinds.Kind other None)
unfolding meaning evaluated acts a_constant named value applied subject_call
fault_of_other = refl

-- the step of the name is due in the first file, and that of what it demands in the other
budget_of_other : meaning (two_files (number 1)) [] 1 ≡ Err (Refused kinds.Budget other None)
unfolding meaning evaluated acts a_constant named value
budget_of_other = refl

budget_of_first : meaning (two_files (number 1)) [] 0 ≡ Err (Refused kinds.Budget build None)
unfolding meaning evaluated acts a_constant named value
budget_of_first = refl

-- `1 + undefined + 3`: both operators are paid before the first operand, and the third operand is not paid
abbrev wrong_sum : ExprData
wrong_sum =
    tree.Chain (number 1)
    (to_operands (tree.Operand Add tree.Undefined ∷ tree.Operand Add (number 3) ∷ []))

all_operators_first : meaning (only wrong_sum) [] 4 ≡ Err (Refused kinds.Kind build None)
unfolding meaning evaluated acts a_constant value operated is_settled sum_of
all_operators_first = refl

one_step_less : meaning (only wrong_sum) [] 3 ≡ Err (Refused kinds.Budget build None)
unfolding meaning evaluated acts a_constant value operated is_settled sum_of
one_step_less = refl

-- `Contract.fail("no")`
message : meaning (only (call (ambient Fail) (text (codes "no") ∷ []))) [] 1000
    ≡ Err (Refused kinds.User build (Some (codes "no")))
unfolding meaning evaluated acts a_constant value named applied ambient_call call_of contract_fail
    subject_call
message = refl

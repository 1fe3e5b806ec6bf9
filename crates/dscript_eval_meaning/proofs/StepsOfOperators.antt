-- How many steps operators, conditions, members and indices take.
use Rattle.std.proofs.Common.{[], ◌∷◌, codes, refl}
use Rattle.dscript_ast.specs.declared.operator.BinaryOp.TheVariants.{Add, And, Or}
use Rattle.dscript_ast.specs.declared.operator.UnaryOp.TheVariants.{Not}
use Rattle.dscript_program.specs.BoundTree as tree
use Rattle.dscript_program.specs.BoundTree.{to_operands, to_parts, to_props}
use Rattle.dscript_eval_operators.specs.Indexing.{indexed}
use Rattle.dscript_eval_operators.specs.Operators.{is_settled, operated, prefixed}
use Rattle.dscript_eval_operators.specs.Sums.{sum_of}
use Rattle.dscript_eval_operators.specs.Truth.{is_true}
use Rattle.dscript_sdk.specs.Members.{member_of}
use Rattle.dscript_eval_meaning.specs.Calls.{member}
use Rattle.dscript_eval_meaning.specs.Constants.{constant}
use Rattle.dscript_eval_meaning.specs.Expressions.{value}
use Rattle.dscript_eval_meaning.specs.Meaning.{acts, evaluated, meaning}
use Rattle.dscript_eval_meaning.proofs.Samples.{Takes, binary, list, number, only}

-- `1 + 1`
sum : Takes (only (binary (number 1) Add (number 1))) 3
unfolding meaning evaluated acts constant value operated is_settled sum_of
sum = (refl, refl)

-- `1 + 1 + 1`
two_sums
    : Takes (only (tree.Chain (number 1) (to_operands (tree.Operand Add (number 1)
    ∷ tree.Operand Add (number 1) ∷ []))))
    5
unfolding meaning evaluated acts constant value operated is_settled sum_of
two_sums = (refl, refl)

-- `false && 1 && 2`: both operators are paid, and neither operand
settled_chain
    : Takes (only (tree.Chain tree.False (to_operands (tree.Operand And (number 1)
    ∷ tree.Operand And (number 2) ∷ []))))
    3
unfolding meaning evaluated acts constant value operated is_settled is_true
settled_chain = (refl, refl)

-- `0 || 1`
open_chain : Takes (only (binary (number 0) Or (number 1))) 3
unfolding meaning evaluated acts constant value operated is_settled is_true
open_chain = (refl, refl)

-- `!!1`
two_prefixes : Takes (only (tree.Unary (Not ∷ Not ∷ []) (number 1))) 3
unfolding meaning evaluated acts constant value prefixed is_true
two_prefixes = (refl, refl)

-- `true ? 1 : 1 + 1`
condition : Takes (only (tree.Cond tree.True (number 1) (binary (number 1) Add (number 1)))) 3
unfolding meaning evaluated acts constant value is_true
condition = (refl, refl)

-- `{a: 1}.a`
field
    : Takes
    (only (tree.Postfix (tree.Object (to_props (tree.Named (codes "a") (number 1) ∷ [])))
    (to_parts (tree.Member (codes "a") ∷ []))))
    3
unfolding meaning evaluated acts constant value member member_of
field = (refl, refl)

-- `[1][0]`
item : Takes (only (tree.Postfix (list (number 1 ∷ [])) (to_parts (tree.Index (number 0) ∷ [])))) 4
unfolding meaning evaluated acts constant value indexed
item = (refl, refl)

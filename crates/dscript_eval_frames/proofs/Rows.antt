-- Rows of operands as lists.
use Rattle.std.proofs.Common.{◌≡◌, List, [], ◌∷◌, length, refl, arith}
use Rattle.dscript_program.specs.BoundTree.{OperandData, to_operands}
use Rattle.dscript_eval_meaning.specs.Expressions.{operator_count}

pub operator_count_row : (os : List OperandData) → operator_count (to_operands os) ≡ length os
operator_count_row [] = refl
operator_count_row (o ∷ os) = omega (arith, operator_count_row os)

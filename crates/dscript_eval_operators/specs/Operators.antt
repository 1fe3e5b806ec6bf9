-- What operators answer at their operands.
use Rattle.std.specs.Prelude.{Bool, false, not, List, [], ◌∷◌, Ok}
use Rattle.dscript_ast.specs.declared.operator.BinaryOp.{BinaryOp}
use Rattle.dscript_ast.specs.declared.operator.BinaryOp.TheVariants as binary
use Rattle.dscript_ast.specs.declared.operator.UnaryOp.{UnaryOp}
use Rattle.dscript_ast.specs.declared.operator.UnaryOp.TheVariants as unary
use Rattle.dscript_value.specs.Plain as plain
use Rattle.dscript_value.specs.Plain.{Plain}
use Rattle.dscript_sdk_values.specs.Outcomes.{Outcome, ◌>>=◌}
use Rattle.dscript_eval_operators.specs.Comparisons.{is_at_least, is_at_most, is_greater, is_less}
use Rattle.dscript_eval_operators.specs.Equalities.{is_equal, is_unequal}
use Rattle.dscript_eval_operators.specs.Numbers.{difference_of, negative_of, product_of}
use Rattle.dscript_eval_operators.specs.Sums.{sum_of}
use Rattle.dscript_eval_operators.specs.Truth.{is_true}

-- Whether the left operand is the answer, so that the right one is not evaluated: `&&` where it counts as
-- false, `||` where it counts as true.
unfoldable pub is_settled : BinaryOp → Plain → Bool
is_settled binary.And a = not (is_true a)
is_settled binary.Or a = is_true a
is_settled _ a = false

-- what an operator answers where both operands are evaluated; `&&` and `||` then give the right one
unfoldable pub operated : BinaryOp → Plain → Plain → Outcome Plain
operated binary.Or a b = Ok b
operated binary.And a b = Ok b
operated binary.Equal a b = is_equal a b
operated binary.NotEqual a b = is_unequal a b
operated binary.Less a b = is_less a b
operated binary.LessOrEqual a b = is_at_most a b
operated binary.Greater a b = is_greater a b
operated binary.GreaterOrEqual a b = is_at_least a b
operated binary.Add a b = sum_of a b
operated binary.Subtract a b = difference_of a b
operated binary.Multiply a b = product_of a b

abbrev pub prefixed_by : UnaryOp → Plain → Outcome Plain
prefixed_by unary.Not a = Ok (plain.Flag (not (is_true a)))
prefixed_by unary.Negate a = negative_of a

-- operators before an operand, of which the one next to it is the first to act
unfoldable pub prefixed : List UnaryOp → Plain → Outcome Plain
prefixed [] a = Ok a
prefixed (op ∷ ops) a = prefixed ops a >>= prefixed_by op

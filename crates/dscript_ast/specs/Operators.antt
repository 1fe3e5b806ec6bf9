-- Operators: how each is written, and its precedence level.
use Prim.Native.String.{String}
use Rattle.std.specs.Prelude.{ℕ}
use Rattle.dscript_ast.specs.declared.operator.BinaryOp.{BinaryOp}
use Rattle.dscript_ast.specs.declared.operator.BinaryOp.TheVariants as binary
use Rattle.dscript_ast.specs.declared.operator.UnaryOp.{UnaryOp}
use Rattle.dscript_ast.specs.declared.operator.UnaryOp.TheVariants as unary
use Rattle.dscript_ast.specs.declared.precedence.TheConstants.{PRODUCT, SUM, RELATION, EQUALITY, AND, OR}

-- the level of the chains that the operator makes: a smaller number binds tighter
abbrev pub precedence : BinaryOp → ℕ
precedence binary.Or = OR
precedence binary.And = AND
precedence binary.Equal = EQUALITY
precedence binary.NotEqual = EQUALITY
precedence binary.Less = RELATION
precedence binary.LessOrEqual = RELATION
precedence binary.Greater = RELATION
precedence binary.GreaterOrEqual = RELATION
precedence binary.Add = SUM
precedence binary.Subtract = SUM
precedence binary.Multiply = PRODUCT

-- the punctuator of an operator between operands
abbrev pub spelling : BinaryOp → String
spelling binary.Or = "||"
spelling binary.And = "&&"
spelling binary.Equal = "==="
spelling binary.NotEqual = "!=="
spelling binary.Less = "<"
spelling binary.LessOrEqual = "<="
spelling binary.Greater = ">"
spelling binary.GreaterOrEqual = ">="
spelling binary.Add = "+"
spelling binary.Subtract = "-"
spelling binary.Multiply = "*"

-- the punctuator of an operator before its operand
abbrev pub unary_spelling : UnaryOp → String
unary_spelling unary.Not = "!"
unary_spelling unary.Negate = "-"

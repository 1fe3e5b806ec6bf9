-- Operators by their spellings.
use Rattle.std.specs.Prelude.{ℕ, List, [], ◌∷◌, Option, Some, None, codes, bytes_eq, if◌then◌else◌}
use Rattle.dscript_lex.specs.declared.token.TokenKind.{TokenKind}
use Rattle.dscript_lex.specs.declared.token.TokenKind.TheVariants as kinds
use Rattle.dscript_grammar.specs.Reading.{Reader, choose, got}
use Rattle.dscript_ast.specs.Operators.{spelling}
use Rattle.dscript_ast.specs.declared.operator.BinaryOp.{BinaryOp}
use Rattle.dscript_ast.specs.declared.operator.BinaryOp.TheVariants as binary

-- the first of these operators that is spelled so
abbrev pub spelled_among : List BinaryOp → List ℕ → Option BinaryOp
spelled_among [] text = None
spelled_among (op ∷ ops) text =
    if bytes_eq text (codes (spelling op)) then Some op else spelled_among ops text

-- all operators between two operands
abbrev pub binary_operators : List BinaryOp
binary_operators =
    binary.Or ∷ binary.And ∷ binary.Equal ∷ binary.NotEqual ∷ binary.Less ∷ binary.LessOrEqual
    ∷ binary.Greater ∷ binary.GreaterOrEqual ∷ binary.Add ∷ binary.Subtract ∷ binary.Multiply ∷ []

-- the operator between two operands that is spelled so
unfoldable pub operator_spelled : List ℕ → Option BinaryOp
operator_spelled text = spelled_among binary_operators text

-- the operator that the first token is
unfoldable pub read_spelled : Reader BinaryOp
read_spelled [] = None
read_spelled (kinds.Punct text ∷ ts) = choose (operator_spelled text) None (λ o. got o 0 ts)
read_spelled (_ ∷ ts) = None

-- Readers of expressions and statements with a number of levels left, and chains of operators level by level.
use Rattle.std.specs.Prelude.{ℕ, suc, nat_eq, List, length, Option}
use Rattle.dscript_lex.specs.declared.token.TokenKind.{TokenKind}
use Rattle.dscript_ast.specs.ExprTree.{ExprTree, OperandTree, StmtTree}
use Rattle.dscript_grammar.specs.Reading.{Read, Reader, and_then, read_many}
use Rattle.dscript_grammar.specs.ExprReading.{as_chain, chain_level, operator_precedence, read_chain}
use Rattle.dscript_grammar.specs.ExprReading.{read_expr, read_operand, read_stmt}

-- a reader of what has expressions and statements with this many levels
abbrev pub at_depth : {A : Type 0} → (ℕ → Reader ExprTree → Reader StmtTree → A) → ℕ → A
at_depth reader depth = reader depth (read_expr depth) (read_stmt depth)

-- the operators of the level above some levels, and their operands
abbrev pub read_operands : ℕ → ℕ → Reader (List OperandTree)
read_operands depth tighter ts =
    read_many (λ us. nat_eq (operator_precedence us) (chain_level tighter))
    (at_depth read_operand depth (chain_level tighter) (at_depth read_chain depth tighter))
    (suc (length ts)) ts

-- a chain of that level, after its first operand
abbrev pub read_level : ℕ → ℕ → ExprTree → ℕ → Reader ExprTree
read_level depth tighter first height ts =
    and_then (read_operands depth tighter ts)
    (λ os. at_depth as_chain depth (chain_level tighter) first height os.value os.height os.rest)

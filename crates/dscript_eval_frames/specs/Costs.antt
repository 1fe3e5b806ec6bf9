-- The steps that expressions and statements take themselves.
use Rattle.std.specs.Prelude.{ℕ, length}
use Rattle.dscript_program.specs.BoundTree as tree
use Rattle.dscript_program.specs.BoundTree.{ExprData, StmtData}
use Rattle.dscript_eval_meaning.specs.Expressions.{operator_count}

-- the steps that an expression takes itself
abbrev pub expr_cost : ExprData → ℕ
expr_cost (tree.Chain e more) = operator_count more
expr_cost (tree.Unary ops e) = length ops
expr_cost (tree.Postfix e parts) = 0
expr_cost _ = 1

-- the steps that a statement takes itself
abbrev pub stmt_cost : StmtData → ℕ
stmt_cost (tree.Block ss) = 0
stmt_cost tree.Empty = 0
stmt_cost _ = 1

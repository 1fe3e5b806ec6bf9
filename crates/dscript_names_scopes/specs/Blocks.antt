-- Blocks and their locals.
use Rattle.std.specs.Prelude.{ℕ, Bool, true, false, List, [], ◌∷◌, ◌++◌, None}
use Rattle.dscript_ast.specs.ExprTree as tree
use Rattle.dscript_ast.specs.ExprTree.{StmtTree, StmtTrees}
use Rattle.dscript_names_scopes.specs.declared.local.Local.{Local}

-- a block: the locals that it declares anywhere, and whether it is the whole body of a function
pub record Block : Type 0 where
  pub locals : List Local
  pub is_body : Bool

-- ## What a block declares

-- a local that is not declared yet
abbrev pub undeclared : List ℕ → Bool → List Local
undeclared x is_let = record { name = x; is_let = is_let; number = None } ∷ []

-- what a statement declares in its block
abbrev pub stmt_locals : StmtTree → List Local
stmt_locals (tree.Const x t e) = undeclared x false
stmt_locals (tree.Let x t e) = undeclared x true
stmt_locals _ = []

abbrev pub block_locals : StmtTrees → List Local
block_locals tree.no_stmts = []
block_locals (tree.more_stmts s ss) = stmt_locals s ++ block_locals ss

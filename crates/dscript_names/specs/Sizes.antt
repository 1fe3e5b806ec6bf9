-- The sizes of trees: one for each parameter, each local, each function and each declaration.
use Rattle.std.specs.Prelude.{ℕ, ◌+◌, List, [], ◌∷◌, length}
use Rattle.dscript_ast.specs.ExprTree as tree
use Rattle.dscript_ast.specs.ExprTree.{HeadTree, ExprTree, OperandTree, PartTree, ElementTree, PropTree}
use Rattle.dscript_ast.specs.ExprTree.{HoleTree, StmtTree, MaybeExpr, MaybeStmt, ExprTrees, OperandTrees}
use Rattle.dscript_ast.specs.ExprTree.{PartTrees, ElementTrees, PropTrees, HoleTrees, StmtTrees, to_stmts}
use Rattle.dscript_ast.specs.FileTree as file
use Rattle.dscript_ast.specs.FileTree.{MarkedTree, DeclTree, MarkedTrees, ItemTree, Marked}

-- the number of the parameters
abbrev pub head_size : HeadTree → ℕ
head_size (tree.Single x) = 1
head_size (tree.Params ps) = length ps

unfoldable mutual
  pub expr_size : ExprTree → ℕ
  expr_size (tree.Arrow x e) = 1 + head_size x + expr_size e
  expr_size (tree.BlockArrow x ss) = 1 + head_size x + stmts_size ss
  expr_size (tree.Cond c a b) = expr_size c + expr_size a + expr_size b
  expr_size (tree.Chain level e more) = expr_size e + operands_size more
  expr_size (tree.Unary ops e) = expr_size e
  expr_size (tree.Postfix e parts) = expr_size e + parts_size parts
  expr_size (tree.Number n) = 0
  expr_size (tree.Str s) = 0
  expr_size tree.True = 0
  expr_size tree.False = 0
  expr_size tree.Undefined = 0
  expr_size (tree.Template text holes) = holes_size holes
  expr_size (tree.Path kind text holes) = holes_size holes
  expr_size (tree.Name x) = 0
  expr_size (tree.Elements es) = elements_size es
  expr_size (tree.Object ps) = props_size ps

  pub operand_size : OperandTree → ℕ
  operand_size (tree.Operand op e) = expr_size e

  pub operands_size : OperandTrees → ℕ
  operands_size tree.no_operands = 0
  operands_size (tree.more_operands o more) = operand_size o + operands_size more

  pub part_size : PartTree → ℕ
  part_size (tree.Member x) = 0
  part_size (tree.Index e) = expr_size e
  part_size (tree.Call es) = exprs_size es

  pub parts_size : PartTrees → ℕ
  parts_size tree.no_parts = 0
  parts_size (tree.more_parts part more) = part_size part + parts_size more

  pub exprs_size : ExprTrees → ℕ
  exprs_size tree.no_exprs = 0
  exprs_size (tree.more_exprs e more) = expr_size e + exprs_size more

  pub element_size : ElementTree → ℕ
  element_size (tree.Element spread e) = expr_size e

  pub elements_size : ElementTrees → ℕ
  elements_size tree.no_elements = 0
  elements_size (tree.more_elements e more) = element_size e + elements_size more

  pub prop_size : PropTree → ℕ
  prop_size (tree.Named x e) = expr_size e
  prop_size (tree.Quoted s e) = expr_size e
  prop_size (tree.Short x) = 0
  prop_size (tree.Spread e) = expr_size e

  pub props_size : PropTrees → ℕ
  props_size tree.no_props = 0
  props_size (tree.more_props prop more) = prop_size prop + props_size more

  pub hole_size : HoleTree → ℕ
  hole_size (tree.Hole e text) = expr_size e

  pub holes_size : HoleTrees → ℕ
  holes_size tree.no_holes = 0
  holes_size (tree.more_holes hole more) = hole_size hole + holes_size more

  pub stmt_size : StmtTree → ℕ
  stmt_size (tree.Const x t e) = 1 + expr_size e
  stmt_size (tree.Let x t e) = 1 + maybe_size e
  stmt_size (tree.Assign x e) = expr_size e
  stmt_size (tree.If c s other) = expr_size c + stmt_size s + else_size other
  stmt_size (tree.For kind x list s) = 1 + expr_size list + stmt_size s
  stmt_size (tree.Return e) = maybe_size e
  stmt_size (tree.Value e) = expr_size e
  stmt_size (tree.Block ss) = stmts_size ss
  stmt_size tree.Empty = 0

  pub maybe_size : MaybeExpr → ℕ
  maybe_size tree.no_expr = 0
  maybe_size (tree.an_expr e) = expr_size e

  pub else_size : MaybeStmt → ℕ
  else_size tree.no_stmt = 0
  else_size (tree.a_stmt s) = stmt_size s

  pub stmts_size : StmtTrees → ℕ
  stmts_size tree.no_stmts = 0
  stmts_size (tree.more_stmts s ss) = stmt_size s + stmts_size ss

-- A namespace is no declaration. A declared function is a declaration and a function.
unfoldable mutual
  pub marked_size : MarkedTree → ℕ
  marked_size (Marked mark decl) = decl_size decl

  pub decl_size : DeclTree → ℕ
  decl_size (file.Const x t e) = 1 + expr_size e
  decl_size (file.Function x ts ps t ss) = 2 + length ps + stmts_size (to_stmts ss)
  decl_size (file.Namespace names ms) = all_marked_size ms
  decl_size (file.Interface x ts es ms) = 1
  decl_size (file.TypeAlias x ts t) = 1

  pub all_marked_size : MarkedTrees → ℕ
  all_marked_size file.no_marked = 0
  all_marked_size (file.more_marked m ms) = marked_size m + all_marked_size ms

abbrev pub item_size : ItemTree → ℕ
item_size (file.Declared m) = marked_size m
item_size _ = 0

abbrev pub items_size : List ItemTree → ℕ
items_size [] = 0
items_size (i ∷ is) = item_size i + items_size is

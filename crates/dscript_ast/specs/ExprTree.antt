-- Expressions and statements as trees, without where they lie in memory.
use Rattle.std.specs.Prelude.{ℕ, ℤ, Bool, Option, Some, None, List, [], ◌∷◌}
use Rattle.dscript_ast.specs.TypeTree.{TypeTree}
use Rattle.dscript_ast.specs.declared.expr.LoopKind.{LoopKind}
use Rattle.dscript_ast.specs.declared.operator.BinaryOp.{BinaryOp}
use Rattle.dscript_ast.specs.declared.expr.PathKind.{PathKind}
use Rattle.dscript_ast.specs.declared.operator.UnaryOp.{UnaryOp}

-- a parameter: its name, whether `?` follows, and its type where one is given
pub record ParamTree : Type 0 where
  pub name : List ℕ
  pub optional : Bool
  pub type_node : Option TypeTree

-- the parameters of a function, before `=>`
pub data HeadTree : Type 0 where
  Single : List ℕ → HeadTree
  Params : List ParamTree → HeadTree

mutual
  pub data ExprTree : Type 0 where
    Arrow : HeadTree → ExprTree → ExprTree
    BlockArrow : HeadTree → StmtTrees → ExprTree
    Cond : ExprTree → ExprTree → ExprTree → ExprTree
    -- a chain of operators, with their precedence: 8 for `||`, 7 for `&&`, 6 for `===` and `!==`,
    -- 5 for `<`, `<=`, `>` and `>=`, 4 for `+` and `-`, 3 for `*`
    Chain : ℕ → ExprTree → OperandTrees → ExprTree
    Unary : List UnaryOp → ExprTree → ExprTree
    Postfix : ExprTree → PartTrees → ExprTree
    Number : ℤ → ExprTree
    Str : List ℕ → ExprTree
    True : ExprTree
    False : ExprTree
    Undefined : ExprTree
    Template : List ℕ → HoleTrees → ExprTree
    Path : PathKind → List ℕ → HoleTrees → ExprTree
    Name : List ℕ → ExprTree
    Elements : ElementTrees → ExprTree
    Object : PropTrees → ExprTree

  -- an operand and the operator before it
  pub data OperandTree : Type 0 where
    Operand : BinaryOp → ExprTree → OperandTree

  pub data PartTree : Type 0 where
    Member : List ℕ → PartTree
    Index : ExprTree → PartTree
    Call : ExprTrees → PartTree

  -- an element, and whether `...` precedes it
  pub data ElementTree : Type 0 where
    Element : Bool → ExprTree → ElementTree

  pub data PropTree : Type 0 where
    Named : List ℕ → ExprTree → PropTree
    Quoted : List ℕ → ExprTree → PropTree
    Short : List ℕ → PropTree
    Spread : ExprTree → PropTree

  -- a hole, and the text after it
  pub data HoleTree : Type 0 where
    Hole : ExprTree → List ℕ → HoleTree

  pub data StmtTree : Type 0 where
    Const : List ℕ → Option TypeTree → ExprTree → StmtTree
    Let : List ℕ → Option TypeTree → MaybeExpr → StmtTree
    Assign : List ℕ → ExprTree → StmtTree
    If : ExprTree → StmtTree → MaybeStmt → StmtTree
    For : LoopKind → List ℕ → ExprTree → StmtTree → StmtTree
    Return : MaybeExpr → StmtTree
    Value : ExprTree → StmtTree
    Block : StmtTrees → StmtTree
    Empty : StmtTree

  -- one of these, or none
  pub data MaybeExpr : Type 0 where
    no_expr : MaybeExpr
    an_expr : ExprTree → MaybeExpr

  pub data MaybeStmt : Type 0 where
    no_stmt : MaybeStmt
    a_stmt : StmtTree → MaybeStmt

  -- lists of these
  pub data ExprTrees : Type 0 where
    no_exprs : ExprTrees
    more_exprs : ExprTree → ExprTrees → ExprTrees

  pub data OperandTrees : Type 0 where
    no_operands : OperandTrees
    more_operands : OperandTree → OperandTrees → OperandTrees

  pub data PartTrees : Type 0 where
    no_parts : PartTrees
    more_parts : PartTree → PartTrees → PartTrees

  pub data ElementTrees : Type 0 where
    no_elements : ElementTrees
    more_elements : ElementTree → ElementTrees → ElementTrees

  pub data PropTrees : Type 0 where
    no_props : PropTrees
    more_props : PropTree → PropTrees → PropTrees

  pub data HoleTrees : Type 0 where
    no_holes : HoleTrees
    more_holes : HoleTree → HoleTrees → HoleTrees

  pub data StmtTrees : Type 0 where
    no_stmts : StmtTrees
    more_stmts : StmtTree → StmtTrees → StmtTrees

abbrev pub expr_of : MaybeExpr → Option ExprTree
expr_of no_expr = None
expr_of (an_expr x) = Some x

abbrev pub to_expr : Option ExprTree → MaybeExpr
to_expr None = no_expr
to_expr (Some x) = an_expr x

abbrev pub stmt_of : MaybeStmt → Option StmtTree
stmt_of no_stmt = None
stmt_of (a_stmt x) = Some x

abbrev pub to_stmt : Option StmtTree → MaybeStmt
to_stmt None = no_stmt
to_stmt (Some x) = a_stmt x

abbrev pub exprs_of : ExprTrees → List ExprTree
exprs_of no_exprs = []
exprs_of (more_exprs x xs) = x ∷ exprs_of xs

abbrev pub to_exprs : List ExprTree → ExprTrees
to_exprs [] = no_exprs
to_exprs (x ∷ xs) = more_exprs x (to_exprs xs)

abbrev pub operands_of : OperandTrees → List OperandTree
operands_of no_operands = []
operands_of (more_operands x xs) = x ∷ operands_of xs

abbrev pub to_operands : List OperandTree → OperandTrees
to_operands [] = no_operands
to_operands (x ∷ xs) = more_operands x (to_operands xs)

abbrev pub parts_of : PartTrees → List PartTree
parts_of no_parts = []
parts_of (more_parts x xs) = x ∷ parts_of xs

abbrev pub to_parts : List PartTree → PartTrees
to_parts [] = no_parts
to_parts (x ∷ xs) = more_parts x (to_parts xs)

abbrev pub elements_of : ElementTrees → List ElementTree
elements_of no_elements = []
elements_of (more_elements x xs) = x ∷ elements_of xs

abbrev pub to_elements : List ElementTree → ElementTrees
to_elements [] = no_elements
to_elements (x ∷ xs) = more_elements x (to_elements xs)

abbrev pub props_of : PropTrees → List PropTree
props_of no_props = []
props_of (more_props x xs) = x ∷ props_of xs

abbrev pub to_props : List PropTree → PropTrees
to_props [] = no_props
to_props (x ∷ xs) = more_props x (to_props xs)

abbrev pub holes_of : HoleTrees → List HoleTree
holes_of no_holes = []
holes_of (more_holes x xs) = x ∷ holes_of xs

abbrev pub to_holes : List HoleTree → HoleTrees
to_holes [] = no_holes
to_holes (x ∷ xs) = more_holes x (to_holes xs)

abbrev pub stmts_of : StmtTrees → List StmtTree
stmts_of no_stmts = []
stmts_of (more_stmts x xs) = x ∷ stmts_of xs

abbrev pub to_stmts : List StmtTree → StmtTrees
to_stmts [] = no_stmts
to_stmts (x ∷ xs) = more_stmts x (to_stmts xs)

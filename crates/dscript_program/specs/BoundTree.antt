-- Bound expressions and statements, without where they lie in memory.
use Rattle.std.specs.Prelude.{ℕ, ℤ, Bool, Option, Some, None, List, [], ◌∷◌}
use Rattle.dscript_ast.specs.TypeTree.{TypeTree}
use Rattle.dscript_ast.specs.declared.operator.BinaryOp.{BinaryOp}
use Rattle.dscript_ast.specs.declared.expr.LoopKind.{LoopKind}
use Rattle.dscript_ast.specs.declared.expr.PathKind.{PathKind}
use Rattle.dscript_ast.specs.declared.operator.UnaryOp.{UnaryOp}
use Rattle.dscript_program.specs.declared.target.Target.{Target}

mutual
  pub data ExprData : Type 0 where
    -- a function, by its number in the table of functions
    Arrow : ℕ → ExprData
    Cond : ExprData → ExprData → ExprData → ExprData
    Chain : ExprData → OperandRow → ExprData
    Unary : List UnaryOp → ExprData → ExprData
    Postfix : ExprData → PartRow → ExprData
    Number : ℤ → ExprData
    Str : List ℕ → ExprData
    True : ExprData
    False : ExprData
    Undefined : ExprData
    Template : List ℕ → HoleRow → ExprData
    Path : PathKind → List ℕ → HoleRow → ExprData
    -- a dotted name as a whole
    Name : Target → ExprData
    Elements : ElementRow → ExprData
    Object : PropRow → ExprData

  -- an operand and the operator before it
  pub data OperandData : Type 0 where
    Operand : BinaryOp → ExprData → OperandData

  pub data PartData : Type 0 where
    Member : List ℕ → PartData
    Index : ExprData → PartData
    Call : ExprRow → PartData

  -- an element, and whether `...` precedes it
  pub data ElementData : Type 0 where
    Element : Bool → ExprData → ElementData

  pub data PropData : Type 0 where
    Named : List ℕ → ExprData → PropData
    Quoted : List ℕ → ExprData → PropData
    Short : List ℕ → Target → PropData
    Spread : ExprData → PropData

  -- a hole, and the text after it
  pub data HoleData : Type 0 where
    Hole : ExprData → List ℕ → HoleData

  -- lists of these
  pub data ExprRow : Type 0 where
    no_exprs : ExprRow
    more_exprs : ExprData → ExprRow → ExprRow

  pub data OperandRow : Type 0 where
    no_operands : OperandRow
    more_operands : OperandData → OperandRow → OperandRow

  pub data PartRow : Type 0 where
    no_parts : PartRow
    more_parts : PartData → PartRow → PartRow

  pub data ElementRow : Type 0 where
    no_elements : ElementRow
    more_elements : ElementData → ElementRow → ElementRow

  pub data PropRow : Type 0 where
    no_props : PropRow
    more_props : PropData → PropRow → PropRow

  pub data HoleRow : Type 0 where
    no_holes : HoleRow
    more_holes : HoleData → HoleRow → HoleRow

abbrev pub to_exprs : List ExprData → ExprRow
to_exprs [] = no_exprs
to_exprs (x ∷ xs) = more_exprs x (to_exprs xs)

abbrev pub to_operands : List OperandData → OperandRow
to_operands [] = no_operands
to_operands (x ∷ xs) = more_operands x (to_operands xs)

abbrev pub to_parts : List PartData → PartRow
to_parts [] = no_parts
to_parts (x ∷ xs) = more_parts x (to_parts xs)

abbrev pub to_elements : List ElementData → ElementRow
to_elements [] = no_elements
to_elements (x ∷ xs) = more_elements x (to_elements xs)

abbrev pub to_props : List PropData → PropRow
to_props [] = no_props
to_props (x ∷ xs) = more_props x (to_props xs)

abbrev pub to_holes : List HoleData → HoleRow
to_holes [] = no_holes
to_holes (x ∷ xs) = more_holes x (to_holes xs)

mutual
  -- a statement; a local is its number
  pub data StmtData : Type 0 where
    Const : ℕ → Option TypeTree → ExprData → StmtData
    Let : ℕ → Option TypeTree → Option ExprData → StmtData
    Assign : ℕ → ExprData → StmtData
    If : ExprData → StmtData → MaybeStmt → StmtData
    For : LoopKind → ℕ → ExprData → StmtData → StmtData
    Return : Option ExprData → StmtData
    Value : ExprData → StmtData
    Block : StmtRow → StmtData
    Empty : StmtData

  -- a statement, or none
  pub data MaybeStmt : Type 0 where
    no_stmt : MaybeStmt
    a_stmt : StmtData → MaybeStmt

  -- a list of these
  pub data StmtRow : Type 0 where
    no_stmts : StmtRow
    more_stmts : StmtData → StmtRow → StmtRow

abbrev pub to_stmt : Option StmtData → MaybeStmt
to_stmt None = no_stmt
to_stmt (Some x) = a_stmt x

abbrev pub to_stmts : List StmtData → StmtRow
to_stmts [] = no_stmts
to_stmts (x ∷ xs) = more_stmts x (to_stmts xs)

abbrev pub stmts_of : StmtRow → List StmtData
stmts_of no_stmts = []
stmts_of (more_stmts x xs) = x ∷ stmts_of xs

-- the body of a function: an expression, or statements
pub data BodyData : Type 0 where
  Expr : ExprData → BodyData
  Stmts : List StmtData → BodyData

-- How the locals of functions are numbered.
use Rattle.std.specs.Prelude.{◌≡◌, ℕ, ◌+◌, List, [], ◌∷◌, ◌++◌, length, Option, Some, None}
use Rattle.std.specs.List.{slice_get, AllByRecursion}
use Rattle.dscript_program.specs.BoundTree.{ExprData, Arrow, Cond, Chain, Unary, Postfix, Number, Str, True}
use Rattle.dscript_program.specs.BoundTree.{False, Undefined, Template, Path, Name, Elements, Object, Operand}
use Rattle.dscript_program.specs.BoundTree.{PartData, Member, Index, Call, Element, PropData, Named, Quoted}
use Rattle.dscript_program.specs.BoundTree.{Short, Spread, Hole, StmtData, Const, Let, Assign, If, For}
use Rattle.dscript_program.specs.BoundTree.{Return, Value, Block, Empty, MaybeStmt, no_stmt, a_stmt, ExprRow}
use Rattle.dscript_program.specs.BoundTree.{no_exprs, more_exprs, OperandRow, no_operands, more_operands}
use Rattle.dscript_program.specs.BoundTree.{PartRow, no_parts, more_parts, ElementRow, no_elements}
use Rattle.dscript_program.specs.BoundTree.{more_elements, PropRow, no_props, more_props, HoleRow, no_holes}
use Rattle.dscript_program.specs.BoundTree.{more_holes, StmtRow, no_stmts, more_stmts, BodyData, Expr, Stmts}
use Rattle.dscript_program.specs.ProgramData.{FunctionData, ProgramData}

-- what takes numbers of locals: a declaration of the local of this number, or the function of this number in
-- the table
pub data Taker : Type 0 where
  Declares : ℕ → Taker
  Holds : ℕ → Taker

-- what takes numbers in a tree, in the order of the text; what is in a function is left to that function
unfoldable mutual
  pub takers_of : ExprData → List Taker
  takers_of (Arrow f) = Holds f ∷ []
  takers_of (Cond c a b) = takers_of c ++ takers_of a ++ takers_of b
  takers_of (Chain e more) = takers_of e ++ operands_takers more
  takers_of (Unary ops e) = takers_of e
  takers_of (Postfix e parts) = takers_of e ++ parts_takers parts
  takers_of (Number n) = []
  takers_of (Str s) = []
  takers_of True = []
  takers_of False = []
  takers_of Undefined = []
  takers_of (Template text holes) = holes_takers holes
  takers_of (Path kind text holes) = holes_takers holes
  takers_of (Name target) = []
  takers_of (Elements es) = elements_takers es
  takers_of (Object ps) = props_takers ps

  pub operands_takers : OperandRow → List Taker
  operands_takers no_operands = []
  operands_takers (more_operands (Operand op e) more) = takers_of e ++ operands_takers more

  pub part_takers : PartData → List Taker
  part_takers (Member x) = []
  part_takers (Index e) = takers_of e
  part_takers (Call es) = exprs_takers es

  pub parts_takers : PartRow → List Taker
  parts_takers no_parts = []
  parts_takers (more_parts part more) = part_takers part ++ parts_takers more

  pub exprs_takers : ExprRow → List Taker
  exprs_takers no_exprs = []
  exprs_takers (more_exprs e more) = takers_of e ++ exprs_takers more

  pub elements_takers : ElementRow → List Taker
  elements_takers no_elements = []
  elements_takers (more_elements (Element spread e) more) = takers_of e ++ elements_takers more

  pub prop_takers : PropData → List Taker
  prop_takers (Named x e) = takers_of e
  prop_takers (Quoted s e) = takers_of e
  prop_takers (Short x target) = []
  prop_takers (Spread e) = takers_of e

  pub props_takers : PropRow → List Taker
  props_takers no_props = []
  props_takers (more_props prop more) = prop_takers prop ++ props_takers more

  pub holes_takers : HoleRow → List Taker
  holes_takers no_holes = []
  holes_takers (more_holes (Hole e text) more) = takers_of e ++ holes_takers more

abbrev pub maybe_takers : Option ExprData → List Taker
maybe_takers None = []
maybe_takers (Some e) = takers_of e

unfoldable mutual
  pub stmt_takers : StmtData → List Taker
  stmt_takers (Const n t e) = Declares n ∷ takers_of e
  stmt_takers (Let n t e) = Declares n ∷ maybe_takers e
  stmt_takers (Assign n e) = takers_of e
  stmt_takers (If c s other) = takers_of c ++ stmt_takers s ++ else_takers other
  stmt_takers (For kind n list s) = Declares n ∷ takers_of list ++ stmt_takers s
  stmt_takers (Return e) = maybe_takers e
  stmt_takers (Value e) = takers_of e
  stmt_takers (Block ss) = stmts_takers ss
  stmt_takers Empty = []

  pub else_takers : MaybeStmt → List Taker
  else_takers no_stmt = []
  else_takers (a_stmt s) = stmt_takers s

  pub stmts_takers : StmtRow → List Taker
  stmts_takers no_stmts = []
  stmts_takers (more_stmts s more) = stmt_takers s ++ stmts_takers more

unfoldable pub body_takers : BodyData → List Taker
body_takers (Expr e) = takers_of e
body_takers (Stmts []) = []
body_takers (Stmts (s ∷ more)) = stmt_takers s ++ body_takers (Stmts more)

-- these take the numbers of one run, one after the other: from the first number up to the end, which is taken
-- by none of them
unfoldable pub FillRun : List FunctionData → ℕ → List Taker → ℕ → Type 0
FillRun functions from [] end = from ≡ end
FillRun functions from (Declares n ∷ more) end = (n ≡ from) × FillRun functions (from + 1) more end
FillRun functions from (Holds f ∷ more) end =
    (inner : FunctionData) × (slice_get functions f ≡ Some inner) × (inner.first_local ≡ from)
    × FillRun functions (from + inner.local_count) more end

-- The locals of the function are numbered in one run: its parameters, and then, in the order of the text, its
-- other locals and those of the functions in it.
abbrev pub IsConsecutive : List FunctionData → FunctionData → Type 0
IsConsecutive functions f =
    FillRun functions (f.first_local + length f.params) (body_takers f.body) (f.first_local + f.local_count)

-- each function of the program has consecutive locals
abbrev pub HasConsecutiveLocals : ProgramData → Type 0
HasConsecutiveLocals p = AllByRecursion (IsConsecutive p.functions) p.functions

-- Programs in which all that a body uses is there.
use Rattle.std.specs.Prelude.{◌≡◌, ◌⊎◌, ℕ, ◌+◌, ◌<◌, ◌≤◌, List, [], ◌∷◌, ◌++◌, length, Option, Some, None, IsSomeAnd, slice_get, option_map, option_and_then}
use Rattle.std.specs.List.{AllByRecursion}
use Rattle.bx_tree.specs.Members.{Has}
use Rattle.dscript_program.specs.BoundTree.{ExprData, Arrow, Cond, Chain, Unary, Postfix, Number, Str, True}
use Rattle.dscript_program.specs.BoundTree.{False, Undefined, Template, Path, Name, Elements, Object, Operand}
use Rattle.dscript_program.specs.BoundTree.{PartData, Member, Index, Call, Element, PropData, Named, Quoted}
use Rattle.dscript_program.specs.BoundTree.{Short, Spread, Hole, StmtData, Const, Let, Assign, If, For}
use Rattle.dscript_program.specs.BoundTree.{Return, Value, Block, Empty, MaybeStmt, no_stmt, a_stmt, ExprRow}
use Rattle.dscript_program.specs.BoundTree.{no_exprs, more_exprs, OperandRow, no_operands, more_operands}
use Rattle.dscript_program.specs.BoundTree.{PartRow, no_parts, more_parts, ElementRow, no_elements}
use Rattle.dscript_program.specs.BoundTree.{more_elements, PropRow, no_props, more_props, HoleRow, no_holes}
use Rattle.dscript_program.specs.BoundTree.{more_holes, StmtRow, no_stmts, more_stmts, BodyData, Expr, Stmts}
use Rattle.dscript_program.specs.ProgramData as declares
use Rattle.dscript_program.specs.ProgramData.{DeclData, FileData, FunctionData, KindData, ProgramData}
use Rattle.dscript_program.specs.declared.target.Target.{Target}
use Rattle.dscript_program.specs.declared.target.Target.TheVariants as targets

-- what a body uses: what a name stands for, a local that it sets, and a function that it makes a value, by its
-- number
pub data Use : Type 0 where
  Names : Target → Use
  Sets : ℕ → Use
  Makes : ℕ → Use

-- what is used in a tree, in the order of the text; what is in a function is left to that function
unfoldable mutual
  pub uses_of : ExprData → List Use
  uses_of (Arrow f) = Makes f ∷ []
  uses_of (Cond c a b) = uses_of c ++ uses_of a ++ uses_of b
  uses_of (Chain e more) = uses_of e ++ operands_uses more
  uses_of (Unary ops e) = uses_of e
  uses_of (Postfix e parts) = uses_of e ++ parts_uses parts
  uses_of (Number n) = []
  uses_of (Str s) = []
  uses_of True = []
  uses_of False = []
  uses_of Undefined = []
  uses_of (Template text holes) = holes_uses holes
  uses_of (Path kind text holes) = holes_uses holes
  uses_of (Name target) = Names target ∷ []
  uses_of (Elements es) = elements_uses es
  uses_of (Object ps) = props_uses ps

  pub operands_uses : OperandRow → List Use
  operands_uses no_operands = []
  operands_uses (more_operands (Operand op e) more) = uses_of e ++ operands_uses more

  pub part_uses : PartData → List Use
  part_uses (Member x) = []
  part_uses (Index e) = uses_of e
  part_uses (Call es) = exprs_uses es

  pub parts_uses : PartRow → List Use
  parts_uses no_parts = []
  parts_uses (more_parts part more) = part_uses part ++ parts_uses more

  pub exprs_uses : ExprRow → List Use
  exprs_uses no_exprs = []
  exprs_uses (more_exprs e more) = uses_of e ++ exprs_uses more

  pub elements_uses : ElementRow → List Use
  elements_uses no_elements = []
  elements_uses (more_elements (Element spread e) more) = uses_of e ++ elements_uses more

  pub prop_uses : PropData → List Use
  prop_uses (Named x e) = uses_of e
  prop_uses (Quoted s e) = uses_of e
  prop_uses (Short x target) = Names target ∷ []
  prop_uses (Spread e) = uses_of e

  pub props_uses : PropRow → List Use
  props_uses no_props = []
  props_uses (more_props prop more) = prop_uses prop ++ props_uses more

  pub holes_uses : HoleRow → List Use
  holes_uses no_holes = []
  holes_uses (more_holes (Hole e text) more) = uses_of e ++ holes_uses more

abbrev pub maybe_uses : Option ExprData → List Use
maybe_uses None = []
maybe_uses (Some e) = uses_of e

unfoldable mutual
  pub stmt_uses : StmtData → List Use
  stmt_uses (Const n t e) = Sets n ∷ uses_of e
  stmt_uses (Let n t e) = Sets n ∷ maybe_uses e
  stmt_uses (Assign n e) = Sets n ∷ uses_of e
  stmt_uses (If c s other) = uses_of c ++ stmt_uses s ++ else_uses other
  stmt_uses (For kind n list s) = Sets n ∷ uses_of list ++ stmt_uses s
  stmt_uses (Return e) = maybe_uses e
  stmt_uses (Value e) = uses_of e
  stmt_uses (Block ss) = stmts_uses ss
  stmt_uses Empty = []

  pub else_uses : MaybeStmt → List Use
  else_uses no_stmt = []
  else_uses (a_stmt s) = stmt_uses s

  pub stmts_uses : StmtRow → List Use
  stmts_uses no_stmts = []
  stmts_uses (more_stmts s more) = stmt_uses s ++ stmts_uses more

unfoldable pub body_uses : BodyData → List Use
body_uses (Expr e) = uses_of e
body_uses (Stmts []) = []
body_uses (Stmts (s ∷ more)) = stmt_uses s ++ body_uses (Stmts more)

-- The locals that a body has: those that it captures, the number of its first own local, and how many are its
-- own.
pub record Scope : Type 0 where
  pub captured : List ℕ
  pub first : ℕ
  pub count : ℕ

abbrev pub scope_of : FunctionData → Scope
scope_of f = record { captured = f.captured; first = f.first_local; count = f.local_count }

-- the expression of a constant has none
abbrev pub no_locals : Scope
no_locals = record { captured = []; first = 0; count = 0 }

abbrev pub IsOwn : Scope → ℕ → Type 0
IsOwn s n = (s.first ≤ n) × (n < s.first + s.count)

abbrev pub HasLocal : Scope → ℕ → Type 0
HasLocal s n = Has s.captured n ⊎ IsOwn s n

-- what the declaration with this number in the file with this number declares
abbrev pub kind_at : ProgramData → ℕ → ℕ → Option KindData
kind_at p file decl =
    option_and_then
    (λ (f : FileData). option_map (λ (d : DeclData). d.kind) (slice_get f.decls decl))
    (slice_get p.files file)

-- a constant, or a function that is there and captures nothing
abbrev pub IsValue : List FunctionData → KindData → Type 0
IsValue functions (declares.Const t e) = Unit {0}
IsValue functions (declares.Function ts t f) =
    IsSomeAnd (slice_get functions f) (λ (g : FunctionData). g.captured ≡ [])
IsValue functions (declares.Interface ts es ms) = ⊥
IsValue functions (declares.TypeAlias ts t) = ⊥

-- What is used is there: a local is one of the body's, and one that is set its own; a declaration is there, and
-- a value; a function is there, and what it captures are locals of the body.
abbrev pub IsThere : ProgramData → Scope → Use → Type 0
IsThere p s (Names (targets.Local n)) = HasLocal s n
IsThere p s (Names (targets.Declared file decl)) = IsSomeAnd (kind_at p file decl) (IsValue p.functions)
IsThere p s (Names (targets.Ambient call)) = Unit {0}
IsThere p s (Sets n) = IsOwn s n
IsThere p s (Makes f) =
    IsSomeAnd (slice_get p.functions f) (λ (g : FunctionData). AllByRecursion (HasLocal s) g.captured)

-- A function is of a file of the program, has its parameters among its locals, captures only what comes before
-- them, and uses what is there.
pub record IsWholeFunction (p : ProgramData) (f : FunctionData) : Type 0 where
  pub file : f.file < length p.files
  pub params : length f.params ≤ f.local_count
  pub captured : AllByRecursion (λ n. n < f.first_local) f.captured
  pub uses : AllByRecursion (IsThere p (scope_of f)) (body_uses f.body)

abbrev pub IsWholeKind : ProgramData → KindData → Type 0
IsWholeKind p (declares.Const t e) = AllByRecursion (IsThere p no_locals) (uses_of e)
IsWholeKind p (declares.Function ts t f) = IsValue p.functions (declares.Function ts t f)
IsWholeKind p (declares.Interface ts es ms) = Unit {0}
IsWholeKind p (declares.TypeAlias ts t) = Unit {0}

-- all that the program's functions and constants use is there
pub record IsWhole (p : ProgramData) : Type 0 where
  pub functions : AllByRecursion (IsWholeFunction p) p.functions
  pub files : AllByRecursion (λ (f : FileData). AllByRecursion (λ (d : DeclData). IsWholeKind p d.kind) f.decls) p.files

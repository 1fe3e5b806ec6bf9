-- The expressions that stand in statements and declarations, and what functions answer.
use Rattle.std.specs.Prelude.{ℕ, ◌&&◌, ◌||◌, not, Bool, true, false, if◌then◌else◌, List, [], ◌∷◌, ◌++◌}
use Rattle.std.specs.Prelude.{filter_map, Option, Some, None}
use Rattle.std.specs.Option.{option_and_then, option_map}
use Rattle.dscript_ast.specs.TypeTree.{TypeTree}
use Rattle.dscript_ast.specs.declared.expr.LoopKind.{LoopKind}
use Rattle.dscript_ast.specs.declared.expr.LoopKind.TheVariants as loops
use Rattle.dscript_program.specs.BoundTree as tree
use Rattle.dscript_program.specs.BoundTree.{ExprData, StmtData, MaybeStmt, StmtRow, BodyData, no_stmt, a_stmt}
use Rattle.dscript_program.specs.BoundTree.{no_stmts, more_stmts, to_stmts}
use Rattle.dscript_program.specs.ProgramData as declared
use Rattle.dscript_program.specs.ProgramData.{DeclData, FunctionData, KindData, ProgramData}
use Rattle.dscript_types_meaning.specs.Types.{TypeData}
use Rattle.dscript_types_meaning.specs.Sizes.{within_limit}
use Rattle.dscript_types_meaning.specs.Unions.{is_list_type, items_of, join_all, undefined_type}
use Rattle.dscript_types_meaning.specs.Fits.{fits, fits_some}
use Rattle.dscript_types_meaning.specs.Contexts.{Context, Fixed, Hold, Known, Standing, Types, Variable, bare}
use Rattle.dscript_types_meaning.specs.Contexts.{gives, needs, variable_type, with_local, ◌>>=◌, ◌>>◌}
use Rattle.dscript_types_meaning.specs.Lookups.{function_at}
use Rattle.dscript_types_meaning.specs.Narrowing.{narrowed}
use Rattle.dscript_types_meaning.specs.Annotations.{meant}
use Rattle.dscript_types_meaning.specs.Functions.{context_of, function_context, noted}
use Rattle.dscript_types_meaning.specs.Expressions.{expr_type}

-- ## The places of expressions

-- Where an expression stands, which may have a rule: by itself or as a condition, as the value of a declaration
-- with its annotation, as what is assigned to a local, as the list of a loop, or as what a function returns, with
-- the annotation of the function.
pub data Spot : Type 0 where
  Alone : Spot
  Declared : Option TypeTree → Spot
  Assigned : ℕ → Spot
  Looped : Spot
  Returned : Option TypeTree → Spot

-- an expression, with its context and where it stands
pub record Use : Type 0 where
  pub context : Context
  pub expr : ExprData
  pub spot : Spot

abbrev pub use_at : Context → Spot → ExprData → Use
use_at c spot e = record { context = c; expr = e; spot = spot }

-- ## Loops

-- the items of a list of this type
abbrev pub item_of_list : TypeData → Option TypeData
item_of_list t = if is_list_type t then Some (items_of t) else None

-- how the variable of a loop holds an item
abbrev pub hold_in_loop : LoopKind → Hold
hold_in_loop loops.Const = Fixed
hold_in_loop loops.Let = Variable

module _ (p : ProgramData) (known : Known) where
  -- a value fits its annotation, if there is one
  abbrev pub fits_note : Context → TypeData → Option TypeTree → Bool
  fits_note c t None = true
  fits_note c t (Some annotation) = fits_some t (meant p known c annotation)

  abbrev pub is_right_at : Context → Spot → TypeData → Bool
  is_right_at c Alone t = true
  is_right_at c (Declared annotation) t = fits_note c t annotation
  is_right_at c (Assigned n) t = fits_some t (variable_type c n)
  is_right_at c Looped t = is_list_type t
  is_right_at c (Returned annotation) t = fits_note c t annotation

  -- the type of an expression where it stands: none where it does not meet the rule of its place
  unfoldable pub use_type : Use → Types TypeData
  use_type u =
      expr_type p known u.context u.expr >>= λ t. needs (is_right_at u.context u.spot t) >> gives t

  -- ## Locals

  -- A constant or a variable has the type of its annotation, and without one that of its value.
  abbrev pub type_of_value : Context → ExprData → Option TypeTree → Option TypeData
  type_of_value c e None = bare (expr_type p known c e)
  type_of_value c e (Some annotation) = meant p known c annotation

  -- a variable without a value holds undefined too
  abbrev pub type_without_value : Context → Option TypeTree → Option TypeData
  type_without_value c None = Some undefined_type
  type_without_value c (Some annotation) = noted p known c true annotation

  abbrev pub type_in_loop : Context → ExprData → Option TypeData
  type_in_loop c list = option_and_then item_of_list (bare (expr_type p known c list))

  -- the context after a statement
  unfoldable pub after_stmt : Context → StmtData → Context
  after_stmt c (tree.Const n annotation e) = with_local n (type_of_value c e annotation) Fixed c
  after_stmt c (tree.Let n annotation None) = with_local n (type_without_value c annotation) Variable c
  after_stmt c (tree.Let n annotation (Some e)) = with_local n (type_of_value c e annotation) Variable c
  after_stmt c _ = c

  -- ## The expressions in statements

  -- These are the expressions that stand in a statement of a function with this annotation, in the order of the
  -- text. What stands in the body of a callback stands there.
  unfoldable mutual
    pub stmt_uses : Option TypeTree → Context → StmtData → List Use
    stmt_uses answer c (tree.Const n annotation e) = use_at c (Declared annotation) e ∷ []
    stmt_uses answer c (tree.Let n annotation None) = []
    stmt_uses answer c (tree.Let n annotation (Some e)) = use_at c (Declared annotation) e ∷ []
    stmt_uses answer c (tree.Assign n e) = use_at c (Assigned n) e ∷ []
    stmt_uses answer c (tree.If x s other) =
        use_at c Alone x ∷ stmt_uses answer (narrowed true x c) s
        ++ else_uses answer (narrowed false x c) other
    stmt_uses answer c (tree.For kind n list s) =
        use_at c Looped list ∷ stmt_uses answer (with_local n (type_in_loop c list) (hold_in_loop kind) c) s
    stmt_uses answer c (tree.Return None) = []
    stmt_uses answer c (tree.Return (Some e)) = use_at c (Returned answer) e ∷ []
    stmt_uses answer c (tree.Value e) = use_at c Alone e ∷ []
    stmt_uses answer c (tree.Block ss) = stmts_uses answer c ss
    stmt_uses answer c tree.Empty = []

    pub else_uses : Option TypeTree → Context → MaybeStmt → List Use
    else_uses answer c no_stmt = []
    else_uses answer c (a_stmt s) = stmt_uses answer c s

    pub stmts_uses : Option TypeTree → Context → StmtRow → List Use
    stmts_uses answer c no_stmts = []
    stmts_uses answer c (more_stmts s more) =
        stmt_uses answer c s ++ stmts_uses answer (after_stmt c s) more

  -- in the body of a function with this annotation
  unfoldable pub body_uses : Option TypeTree → Context → BodyData → List Use
  body_uses answer c (tree.Expr e) = use_at c (Returned answer) e ∷ []
  body_uses answer c (tree.Stmts ss) = stmts_uses answer c (to_stmts ss)

-- ## The ends of bodies

-- Whether what follows a statement may be reached, by the form of statements alone: it may not behind a return, nor
-- behind a condition with `else` neither of whose sides passes.
unfoldable mutual
  pub passes : StmtData → Bool
  passes (tree.If x s other) = passes s || else_passes other
  passes (tree.Return e) = false
  passes (tree.Block ss) = all_pass ss
  passes (tree.Const n annotation e) = true
  passes (tree.Let n annotation e) = true
  passes (tree.Assign n e) = true
  passes (tree.For kind n list s) = true
  passes (tree.Value e) = true
  passes tree.Empty = true

  pub else_passes : MaybeStmt → Bool
  else_passes no_stmt = true
  else_passes (a_stmt s) = passes s

  pub all_pass : StmtRow → Bool
  all_pass no_stmts = true
  all_pass (more_stmts s more) = passes s && all_pass more

-- whether some return has no value
unfoldable mutual
  pub returns_nothing : StmtData → Bool
  returns_nothing (tree.If x s other) = returns_nothing s || else_returns_nothing other
  returns_nothing (tree.For kind n list s) = returns_nothing s
  returns_nothing (tree.Return None) = true
  returns_nothing (tree.Return (Some e)) = false
  returns_nothing (tree.Block ss) = some_return_nothing ss
  returns_nothing (tree.Const n annotation e) = false
  returns_nothing (tree.Let n annotation e) = false
  returns_nothing (tree.Assign n e) = false
  returns_nothing (tree.Value e) = false
  returns_nothing tree.Empty = false

  pub else_returns_nothing : MaybeStmt → Bool
  else_returns_nothing no_stmt = false
  else_returns_nothing (a_stmt s) = returns_nothing s

  pub some_return_nothing : StmtRow → Bool
  some_return_nothing no_stmts = false
  some_return_nothing (more_stmts s more) = returns_nothing s || some_return_nothing more

-- whether a function may give undefined without an expression for it
abbrev pub may_end : BodyData → Bool
may_end (tree.Expr e) = false
may_end (tree.Stmts ss) = all_pass (to_stmts ss) || some_return_nothing (to_stmts ss)

-- ## Answers

-- the expressions that are returned
abbrev pub returned_at : Use → Spot → Option Use
returned_at u (Returned answer) = Some u
returned_at u _ = None

abbrev pub if_returned : Use → Option Use
if_returned u = returned_at u u.spot

-- undefined, where the end may be reached
abbrev pub if_ends : Bool → List TypeData
if_ends false = []
if_ends true = undefined_type ∷ []

-- With an annotation a function answers that type, unless it may give an undefined that does not fit it.
abbrev pub annotated : BodyData → TypeData → Option TypeData
annotated body t = if may_end body && not (fits undefined_type t) then None else Some t

module _ (p : ProgramData) (known : Known) where
  -- the types of expressions, if each has one
  abbrev pub all_types : List Use → Option (List TypeData)
  all_types [] = Some []
  all_types (u ∷ us) =
      option_and_then (λ t. option_map (λ ts. t ∷ ts) (all_types us)) (bare (expr_type p known u.context u.expr))

  -- Without an annotation a function answers the union of what is returned, with undefined where its end may be
  -- reached. This needs the types of what is returned, and nothing else of the body.
  unfoldable pub inferred : Context → BodyData → Option TypeData
  inferred c body =
      option_and_then (λ ts. within_limit (join_all (if_ends (may_end body) ++ ts)))
      (all_types (filter_map if_returned (body_uses p known None c body)))

  abbrev pub answered : Context → BodyData → Option TypeTree → Option TypeData
  answered c body None = inferred c body
  answered c body (Some annotation) = option_and_then (annotated body) (meant p known c annotation)

  -- ## The expressions in declarations

  abbrev pub function_uses : ℕ → DeclData → List (List ℕ) → Option TypeTree → Option FunctionData → List Use
  function_uses file d ts answer None = []
  function_uses file d ts answer (Some f) =
      body_uses p known answer (function_context p known file d ts f) f.body

  abbrev pub kind_uses : ℕ → DeclData → KindData → List Use
  kind_uses file d (declared.Const annotation e) = use_at (context_of file d []) (Declared annotation) e ∷ []
  kind_uses file d (declared.Function ts answer number) =
      function_uses file d ts answer (function_at p number)
  kind_uses file d (declared.Interface ts es ms) = []
  kind_uses file d (declared.TypeAlias ts t) = []

  abbrev pub decl_uses : ℕ → DeclData → List Use
  decl_uses file d = kind_uses file d d.kind

  -- those in the body of a callback
  abbrev pub callback_uses : Context → Option FunctionData → List Use
  callback_uses c None = []
  callback_uses c (Some f) = body_uses p known None c f.body

  abbrev pub standing_uses : Standing → List Use
  standing_uses body = callback_uses body.context (function_at p body.number)

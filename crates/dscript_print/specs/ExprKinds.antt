-- The tokens of expressions and statements, with the parentheses that they need and no others.
use Rattle.std.specs.Prelude.{ℕ, zero, suc, nat_lt, Bool, true, false, ◌&&◌, ◌||◌, List, [], ◌∷◌, ◌++◌, map}
use Rattle.dscript_lex.specs.declared.token.TokenKind.{TokenKind}
use Rattle.dscript_lex.specs.declared.token.TokenKind.TheVariants as kinds
use Rattle.dscript_ast.specs.ExprTree.{ParamTree, HeadTree, Single, Params, ExprTree, Arrow, BlockArrow, Cond}
use Rattle.dscript_ast.specs.ExprTree.{Chain, Unary, Postfix, Number, Str, True, False, Undefined, Template}
use Rattle.dscript_ast.specs.ExprTree.{Path, Name, Elements, Object, OperandTree, Operand, PartTree, Member}
use Rattle.dscript_ast.specs.ExprTree.{Index, Call, ElementTree, Element, PropTree, Named, Quoted, Short}
use Rattle.dscript_ast.specs.ExprTree.{Spread, HoleTree, Hole, StmtTree, Const, Let, Assign, If, For, Return}
use Rattle.dscript_ast.specs.ExprTree.{Value, Block, Empty, MaybeExpr, no_expr, an_expr, MaybeStmt, no_stmt}
use Rattle.dscript_ast.specs.ExprTree.{a_stmt, ExprTrees, no_exprs, more_exprs, OperandTrees, no_operands}
use Rattle.dscript_ast.specs.ExprTree.{more_operands, PartTrees, no_parts, more_parts, ElementTrees}
use Rattle.dscript_ast.specs.ExprTree.{no_elements, more_elements, PropTrees, no_props, more_props, HoleTrees}
use Rattle.dscript_ast.specs.ExprTree.{no_holes, more_holes, StmtTrees, no_stmts, more_stmts}
use Rattle.dscript_grammar.specs.ExprGrammar.{expr_precedence, any_expr, or_expr, postfix_expr, primary_expr}
use Rattle.dscript_ast.specs.declared.expr.LoopKind.{LoopKind}
use Rattle.dscript_ast.specs.declared.expr.LoopKind.TheVariants as loops
use Rattle.dscript_ast.specs.declared.operator.BinaryOp.{BinaryOp}
use Rattle.dscript_ast.specs.declared.expr.PathKind.{PathKind}
use Rattle.dscript_ast.specs.declared.expr.PathKind.TheVariants as letters
use Rattle.dscript_ast.specs.declared.operator.UnaryOp.{UnaryOp}
use Rattle.dscript_ast.specs.Operators.{spelling, unary_spelling}
use Rattle.dscript_print.specs.Runs.{punct, keyword, enclosed_if, run_if, concat_tokens, separate}
use Rattle.dscript_print.specs.TypeKinds.{optional_name, note_kinds}

-- an object, which begins with `{`
abbrev pub is_object : ExprTree → Bool
is_object (Object _) = true
is_object _ = false

-- whether an expression needs parentheses where at most this level is allowed and, if the flag is set, no `{`
-- at the start
abbrev pub is_enclosed : Bool → ℕ → ExprTree → Bool
is_enclosed unbraced level e = nat_lt level (expr_precedence e) || (unbraced && is_object e)

-- The tokens of a node, with or without parentheses. Inside parentheses it may begin with any token.
abbrev pub placed : Bool → Bool → (Bool → List TokenKind) → List TokenKind
placed true unbraced node = enclosed_if true (node false)
placed false unbraced node = node unbraced

abbrev pub fit : Bool → ℕ → ExprTree → (Bool → List TokenKind) → List TokenKind
fit unbraced level e node = placed (is_enclosed unbraced level e) unbraced node

-- the next tighter level
abbrev pub tighter : ℕ → ℕ
tighter zero = zero
tighter (suc n) = n

abbrev pub prefix_kind : UnaryOp → TokenKind
prefix_kind op = punct (unary_spelling op)

abbrev pub operator_kind : BinaryOp → TokenKind
operator_kind op = punct (spelling op)

abbrev pub letter_kind : PathKind → TokenKind
letter_kind letters.Path = keyword "p"
letter_kind letters.File = keyword "f"
letter_kind letters.Directory = keyword "d"
letter_kind letters.Relative = keyword "r"
letter_kind letters.Atom = keyword "a"

abbrev pub loop_kind : LoopKind → TokenKind
loop_kind loops.Const = keyword "const"
loop_kind loops.Let = keyword "let"

abbrev pub param_kinds : ParamTree → List TokenKind
param_kinds p = optional_name p.name p.optional ++ note_kinds p.type_node

abbrev pub params_kinds : List ParamTree → List TokenKind
params_kinds ps = punct "(" ∷ (separate "," (map param_kinds ps) ++ (punct ")" ∷ []))

abbrev pub head_kinds : HeadTree → List TokenKind
head_kinds (Single x) = kinds.Word x ∷ []
head_kinds (Params ps) = params_kinds ps

-- the text after a hole, by the holes after it
abbrev pub text_before : HoleTrees → List ℕ → TokenKind
text_before no_holes text = kinds.Tail text
text_before (more_holes _ _) text = kinds.Middle text

-- a template's first text, by its holes
abbrev pub first_text : HoleTrees → List ℕ → TokenKind
first_text no_holes text = kinds.Whole text
first_text (more_holes _ _) text = kinds.Head text

-- nodes without parentheses around them, and the tokens of their parts; the flag says that the node may not
-- begin with `{`
unfoldable mutual
  pub node_kinds : ExprTree → Bool → List TokenKind
  node_kinds (Arrow x e) unbraced = head_kinds x ++ (punct "=>" ∷ fit true any_expr e (node_kinds e))
  node_kinds (BlockArrow x ss) unbraced =
      head_kinds x ++ (punct "=>" ∷ punct "{" ∷ (concat_tokens (stmts_kinds ss) ++ (punct "}" ∷ [])))
  node_kinds (Cond c a b) unbraced =
      fit unbraced or_expr c (node_kinds c) ++ (punct "?" ∷ (fit false any_expr a (node_kinds a) ++ (punct ":"
      ∷ fit false any_expr b (node_kinds b))))
  node_kinds (Chain level e more) unbraced =
      fit unbraced (tighter level) e (node_kinds e) ++ concat_tokens (operands_kinds (tighter level) more)
  node_kinds (Unary ops e) unbraced = map prefix_kind ops ++ fit false postfix_expr e (node_kinds e)
  node_kinds (Postfix e parts) unbraced =
      fit unbraced primary_expr e (node_kinds e) ++ concat_tokens (parts_kinds parts)
  node_kinds (Number n) unbraced = kinds.Number n ∷ []
  node_kinds (Str s) unbraced = kinds.Str s ∷ []
  node_kinds True unbraced = keyword "true" ∷ []
  node_kinds False unbraced = keyword "false" ∷ []
  node_kinds Undefined unbraced = keyword "undefined" ∷ []
  node_kinds (Template text hs) unbraced = first_text hs text ∷ holes_kinds hs
  node_kinds (Path kind text hs) unbraced = letter_kind kind ∷ first_text hs text ∷ holes_kinds hs
  node_kinds (Name x) unbraced = kinds.Word x ∷ []
  node_kinds (Elements es) unbraced = punct "[" ∷ (separate "," (elements_kinds es) ++ (punct "]" ∷ []))
  node_kinds (Object ps) unbraced = punct "{" ∷ (separate "," (props_kinds ps) ++ (punct "}" ∷ []))

  pub exprs_kinds : ExprTrees → List (List TokenKind)
  exprs_kinds no_exprs = []
  exprs_kinds (more_exprs x xs) = fit false any_expr x (node_kinds x) ∷ exprs_kinds xs

  pub operand_kinds : ℕ → OperandTree → List TokenKind
  operand_kinds tight (Operand op e) = operator_kind op ∷ fit false tight e (node_kinds e)

  pub operands_kinds : ℕ → OperandTrees → List (List TokenKind)
  operands_kinds tight no_operands = []
  operands_kinds tight (more_operands x xs) = operand_kinds tight x ∷ operands_kinds tight xs

  pub part_kinds : PartTree → List TokenKind
  part_kinds (Member x) = punct "." ∷ kinds.Word x ∷ []
  part_kinds (Index e) = punct "[" ∷ (fit false any_expr e (node_kinds e) ++ (punct "]" ∷ []))
  part_kinds (Call args) = punct "(" ∷ (separate "," (exprs_kinds args) ++ (punct ")" ∷ []))

  pub parts_kinds : PartTrees → List (List TokenKind)
  parts_kinds no_parts = []
  parts_kinds (more_parts x xs) = part_kinds x ∷ parts_kinds xs

  pub element_kinds : ElementTree → List TokenKind
  element_kinds (Element spread e) = run_if spread (punct "..." ∷ []) ++ fit false any_expr e (node_kinds e)

  pub elements_kinds : ElementTrees → List (List TokenKind)
  elements_kinds no_elements = []
  elements_kinds (more_elements x xs) = element_kinds x ∷ elements_kinds xs

  pub prop_kinds : PropTree → List TokenKind
  prop_kinds (Named x e) = kinds.Word x ∷ punct ":" ∷ fit false any_expr e (node_kinds e)
  prop_kinds (Quoted s e) = kinds.Str s ∷ punct ":" ∷ fit false any_expr e (node_kinds e)
  prop_kinds (Short x) = kinds.Word x ∷ []
  prop_kinds (Spread e) = punct "..." ∷ fit false any_expr e (node_kinds e)

  pub props_kinds : PropTrees → List (List TokenKind)
  props_kinds no_props = []
  props_kinds (more_props x xs) = prop_kinds x ∷ props_kinds xs

  pub holes_kinds : HoleTrees → List TokenKind
  holes_kinds no_holes = []
  holes_kinds (more_holes x xs) = hole_kinds x (text_before xs) (holes_kinds xs)

  -- a hole, the text after it as a token, and the other holes
  pub hole_kinds : HoleTree → (List ℕ → TokenKind) → List TokenKind → List TokenKind
  hole_kinds (Hole e text) kind_of others = fit false any_expr e (node_kinds e) ++ (kind_of text ∷ others)

  pub stmt_kinds : StmtTree → List TokenKind
  stmt_kinds (Const x t e) =
      keyword "const" ∷ kinds.Word x ∷ (note_kinds t ++ (punct "=" ∷ (fit false any_expr e (node_kinds e)
      ++ (punct ";" ∷ []))))
  stmt_kinds (Let x t e) =
      keyword "let" ∷ kinds.Word x ∷ (note_kinds t ++ (value_kinds e ++ (punct ";" ∷ [])))
  stmt_kinds (Assign x e) =
      kinds.Word x ∷ punct "=" ∷ (fit false any_expr e (node_kinds e) ++ (punct ";" ∷ []))
  stmt_kinds (If c s other) =
      keyword "if" ∷ punct "(" ∷ (fit false any_expr c (node_kinds c) ++ (punct ")" ∷ (stmt_kinds s
      ++ else_kinds other)))
  stmt_kinds (For kind x list s) =
      keyword "for" ∷ punct "(" ∷ loop_kind kind ∷ kinds.Word x ∷ keyword "of"
      ∷ (fit false any_expr list (node_kinds list) ++ (punct ")" ∷ stmt_kinds s))
  stmt_kinds (Return e) = keyword "return" ∷ (maybe_kinds e ++ (punct ";" ∷ []))
  stmt_kinds (Value e) = fit true any_expr e (node_kinds e) ++ (punct ";" ∷ [])
  stmt_kinds (Block ss) = punct "{" ∷ (concat_tokens (stmts_kinds ss) ++ (punct "}" ∷ []))
  stmt_kinds Empty = punct ";" ∷ []

  pub value_kinds : MaybeExpr → List TokenKind
  value_kinds no_expr = []
  value_kinds (an_expr e) = punct "=" ∷ fit false any_expr e (node_kinds e)

  pub maybe_kinds : MaybeExpr → List TokenKind
  maybe_kinds no_expr = []
  maybe_kinds (an_expr e) = fit false any_expr e (node_kinds e)

  pub else_kinds : MaybeStmt → List TokenKind
  else_kinds no_stmt = []
  else_kinds (a_stmt s) = keyword "else" ∷ stmt_kinds s

  pub stmts_kinds : StmtTrees → List (List TokenKind)
  stmts_kinds no_stmts = []
  stmts_kinds (more_stmts x xs) = stmt_kinds x ∷ stmts_kinds xs

-- an expression where at most this level is allowed; the flag says that it may not begin with `{`
abbrev pub expr_kinds : Bool → ℕ → ExprTree → List TokenKind
expr_kinds unbraced level e = fit unbraced level e (node_kinds e)

-- The grammar of expressions and statements. Rules are written as in docs/FORMATS.md.
use Rattle.std.specs.Prelude.{◌≡◌, ℕ, zero, suc, ◌≤◌, Bool, true, false, List, [], ◌∷◌, length}
use Rattle.dscript_lex.specs.declared.token.TokenKind.TheVariants as kinds
use Rattle.dscript_grammar.specs.Language.{Language, never, token, keyword, punctuator, name, identifier}
use Rattle.dscript_grammar.specs.Language.{string, ◌⋅◌, either, given, only_if, optional, many, list}
use Rattle.dscript_grammar.specs.Language.{not_before}
use Rattle.dscript_ast.specs.TypeTree.{TypeTree}
use Rattle.dscript_grammar.specs.TypeGrammar.{any_type, type_at}
use Rattle.dscript_ast.specs.ExprTree.{ParamTree, HeadTree, Single, Params, ExprTree, Arrow, BlockArrow, Cond}
use Rattle.dscript_ast.specs.ExprTree.{Chain, Unary, Postfix, Number, Str, True, False, Undefined, Template}
use Rattle.dscript_ast.specs.ExprTree.{Path, Name, Elements, Object, OperandTree, Operand, PartTree, Member}
use Rattle.dscript_ast.specs.ExprTree.{Index, Call, ElementTree, Element, PropTree, Named, Quoted, Short}
use Rattle.dscript_ast.specs.ExprTree.{Spread, HoleTree, Hole, StmtTree, Const, Let, Assign, If, For, Return}
use Rattle.dscript_ast.specs.ExprTree.{Value, Block, Empty, MaybeStmt, no_stmt, a_stmt, expr_of, exprs_of}
use Rattle.dscript_ast.specs.ExprTree.{operands_of, parts_of, elements_of, props_of, holes_of, stmts_of}
use Rattle.dscript_ast.specs.declared.expr.LoopKind.{LoopKind}
use Rattle.dscript_ast.specs.declared.expr.LoopKind.TheVariants as loops
use Rattle.dscript_ast.specs.declared.operator.BinaryOp.{BinaryOp}
use Rattle.dscript_ast.specs.declared.expr.PathKind.{PathKind}
use Rattle.dscript_ast.specs.declared.expr.PathKind.TheVariants as letters
use Rattle.dscript_ast.specs.declared.operator.UnaryOp.{UnaryOp}
use Rattle.dscript_ast.specs.declared.precedence.TheConstants.{PRIMARY, POSTFIX, UNARY, PRODUCT, OR}
use Rattle.dscript_ast.specs.declared.precedence.TheConstants.{CONDITIONAL, ARROW}
use Rattle.dscript_ast.specs.Operators.{precedence, spelling, unary_spelling}

-- The precedence level of an expression. Each rule derives the expressions of its own level and of those that
-- bind tighter.
abbrev pub expr_precedence : ExprTree → ℕ
expr_precedence (Arrow _ _) = ARROW
expr_precedence (BlockArrow _ _) = ARROW
expr_precedence (Cond _ _ _) = CONDITIONAL
expr_precedence (Chain level _ _) = level
expr_precedence (Unary _ _) = UNARY
expr_precedence (Postfix _ _) = POSTFIX
expr_precedence _ = PRIMARY

-- the loosest level that is allowed for: any expression; the condition before `?`; the operand of prefix
-- operators; the expression before members, indices and calls
abbrev pub any_expr : ℕ
any_expr = ARROW

abbrev pub or_expr : ℕ
or_expr = OR

abbrev pub postfix_expr : ℕ
postfix_expr = POSTFIX

abbrev pub primary_expr : ℕ
primary_expr = PRIMARY

abbrev pub operator : BinaryOp → Language
operator op = punctuator (spelling op)

-- "!" | "-"
abbrev pub prefix : UnaryOp → Language
prefix op = punctuator (unary_spelling op)

-- "p" | "f" | "d" | "r" | "a"
abbrev pub letter : PathKind → Language
letter letters.Path = keyword "p"
letter letters.File = keyword "f"
letter letters.Directory = keyword "d"
letter letters.Relative = keyword "r"
letter letters.Atom = keyword "a"

-- "const" | "let"
abbrev pub loop_keyword : LoopKind → Language
loop_keyword loops.Const = keyword "const"
loop_keyword loops.Let = keyword "let"

-- ":" type, of at most this height
abbrev pub type_note : ℕ → TypeTree → Language
type_note h t = punctuator ":" ⋅ type_at h any_type t

-- name "?"? (":" type)?
abbrev pub param : ℕ → ParamTree → Language
param h p = identifier p.name ⋅ only_if p.optional (punctuator "?") ⋅ optional (type_note h) p.type_node

-- parameters = "(" seq(name "?"? (":" type)?) ")"
abbrev pub params : ℕ → List ParamTree → Language
params h ps = punctuator "(" ⋅ list (param h) ps ⋅ punctuator ")"

-- name | parameters
abbrev pub head : ℕ → HeadTree → Language
head h (Single x) = identifier x
head h (Params ps) = params h ps

-- Whether an `else` after the statement would belong to it, since it ends with an `if` without `else`.
abbrev mutual
  pub takes_else : StmtTree → Bool
  takes_else (If _ _ other) = takes_else_after other
  takes_else (For _ _ _ s) = takes_else s
  takes_else _ = false

  pub takes_else_after : MaybeStmt → Bool
  takes_else_after no_stmt = true
  takes_else_after (a_stmt s) = takes_else s

-- `expr` and `stmt` derive the expressions and statements that are parts of one; the number of `expr` is the
-- loosest level that is allowed. Types that are parts have at most the height `h`.
module _ (h : ℕ) (expr : ℕ → ExprTree → Language) (stmt : StmtTree → Language) where
  -- op X, where the operator has this level
  abbrev pub operand : ℕ → ℕ → OperandTree → Language
  operand level tighter (Operand op e) = given (precedence op ≡ level) (operator op ⋅ expr tighter e)

  -- X (op X)*, at least one op
  abbrev pub chain : ℕ → ExprTree → List OperandTree → Language
  chain zero first more = never
  chain (suc tighter) first more =
      given (1 ≤ length more) (expr tighter first ⋅ many (operand (suc tighter) tighter) more)

  -- "." word | "[" expression "]" | "(" seq(expression) ")"
  abbrev pub part : PartTree → Language
  part (Member x) = punctuator "." ⋅ name x
  part (Index e) = punctuator "[" ⋅ expr any_expr e ⋅ punctuator "]"
  part (Call args) = punctuator "(" ⋅ list (expr any_expr) (exprs_of args) ⋅ punctuator ")"

  -- expression (middle expression)* tail, where each hole has the text after it
  abbrev pub holes : List HoleTree → Language
  holes [] = never
  holes (Hole e text ∷ []) = expr any_expr e ⋅ token (kinds.Tail text)
  holes (Hole e text ∷ next ∷ more) = expr any_expr e ⋅ token (kinds.Middle text) ⋅ holes (next ∷ more)

  -- template = whole | head expression (middle expression)* tail
  abbrev pub template : List ℕ → List HoleTree → Language
  template text [] = token (kinds.Whole text)
  template text (hole ∷ more) = token (kinds.Head text) ⋅ holes (hole ∷ more)

  -- "..."? expression
  abbrev pub element : ElementTree → Language
  element (Element spread e) = only_if spread (punctuator "...") ⋅ expr any_expr e

  -- property = word ":" expression | string ":" expression | name | "..." expression
  abbrev pub prop : PropTree → Language
  prop (Named x e) = name x ⋅ punctuator ":" ⋅ expr any_expr e
  prop (Quoted s e) = string s ⋅ punctuator ":" ⋅ expr any_expr e
  prop (Short x) = identifier x
  prop (Spread e) = punctuator "..." ⋅ expr any_expr e

  -- block = "{" statement* "}"
  abbrev pub block : List StmtTree → Language
  block ss = punctuator "{" ⋅ many stmt ss ⋅ punctuator "}"

  -- expression = arrow | conditional
  -- arrow = (name | parameters) "=>" (block | expression), where expression does not begin with `{`
  -- conditional = or ("?" expression ":" expression)?
  -- or = and ("||" and)*      and = equality ("&&" equality)*
  -- equality = relation (("===" | "!==") relation)*
  -- relation = sum (("<" | "<=" | ">" | ">=") sum)*
  -- sum = product (("+" | "-") product)*   product = unary ("*" unary)*
  -- unary = ("!" | "-")* postfix
  -- postfix = primary ("." word | "[" expression "]" | "(" seq(expression) ")")*
  -- primary = number | string | "true" | "false" | "undefined" | template
  --       | ("p"|"f"|"d"|"r"|"a") template | name | "(" expression ")"
  --       | "[" seq("..."? expression) "]" | "{" seq(property) "}"
  abbrev pub expr_node : ExprTree → Language
  expr_node (Arrow x body) = head h x ⋅ punctuator "=>" ⋅ not_before "{" (expr any_expr body)
  expr_node (BlockArrow x body) = head h x ⋅ punctuator "=>" ⋅ block (stmts_of body)
  expr_node (Cond c a b) =
      expr or_expr c ⋅ punctuator "?" ⋅ expr any_expr a ⋅ punctuator ":" ⋅ expr any_expr b
  expr_node (Chain level first more) =
      given ((PRODUCT ≤ level) × (level ≤ OR)) (chain level first (operands_of more))
  expr_node (Unary ops e) = given (1 ≤ length ops) (many prefix ops ⋅ expr postfix_expr e)
  expr_node (Postfix e parts) =
      given (1 ≤ length (parts_of parts)) (expr primary_expr e ⋅ many part (parts_of parts))
  expr_node (Number n) = token (kinds.Number n)
  expr_node (Str s) = string s
  expr_node True = keyword "true"
  expr_node False = keyword "false"
  expr_node Undefined = keyword "undefined"
  expr_node (Template text hs) = template text (holes_of hs)
  expr_node (Path kind text hs) = letter kind ⋅ template text (holes_of hs)
  expr_node (Name x) = identifier x
  expr_node (Elements es) = punctuator "[" ⋅ list element (elements_of es) ⋅ punctuator "]"
  expr_node (Object ps) = punctuator "{" ⋅ list prop (props_of ps) ⋅ punctuator "}"

  -- "=" expression
  abbrev pub value : ExprTree → Language
  value e = punctuator "=" ⋅ expr any_expr e

  -- statement = "const" name (":" type)? "=" expression ";" | "let" name (":" type)? ("=" expression)? ";"
  --       | name "=" expression ";" | "if" "(" expression ")" statement ("else" statement)?
  --       | "for" "(" ("const" | "let") name "of" expression ")" statement
  --       | "return" expression? ";" | expression ";" | block | ";"
  -- where an expression by itself does not begin with `{`, and the statement before an `else` does not end
  -- with an `if` to which that `else` would belong.
  abbrev pub stmt_node : StmtTree → Language
  stmt_node (Const x t e) =
      keyword "const" ⋅ identifier x ⋅ optional (type_note h) t ⋅ value e ⋅ punctuator ";"
  stmt_node (Let x t e) =
      keyword "let" ⋅ identifier x ⋅ optional (type_note h) t ⋅ optional value (expr_of e) ⋅ punctuator ";"
  stmt_node (Assign x e) = identifier x ⋅ value e ⋅ punctuator ";"
  stmt_node (If c s no_stmt) = keyword "if" ⋅ punctuator "(" ⋅ expr any_expr c ⋅ punctuator ")" ⋅ stmt s
  stmt_node (If c s (a_stmt other)) =
      given (takes_else s ≡ false)
      (keyword "if" ⋅ punctuator "(" ⋅ expr any_expr c ⋅ punctuator ")" ⋅ stmt s
      ⋅ keyword "else" ⋅ stmt other)
  stmt_node (For kind x list s) =
      keyword "for" ⋅ punctuator "(" ⋅ loop_keyword kind ⋅ identifier x ⋅ keyword "of" ⋅ expr any_expr list
      ⋅ punctuator ")" ⋅ stmt s
  stmt_node (Return e) = keyword "return" ⋅ optional (expr any_expr) (expr_of e) ⋅ punctuator ";"
  stmt_node (Value e) = not_before "{" (expr any_expr e) ⋅ punctuator ";"
  stmt_node (Block ss) = block (stmts_of ss)
  stmt_node Empty = punctuator ";"

-- The expressions of at most this height and level, and the statements of at most this height. A node is one
-- higher than its highest part, and so is a pair of parentheses, which makes no node.
unfoldable mutual
  pub expr_at : ℕ → ℕ → ExprTree → Language
  expr_at zero level e = never
  expr_at (suc h) level e =
      either (given (expr_precedence e ≤ level) (expr_node h (expr_at h) (stmt_at h) e))
      (punctuator "(" ⋅ expr_at h any_expr e ⋅ punctuator ")")

  pub stmt_at : ℕ → StmtTree → Language
  stmt_at zero s = never
  stmt_at (suc h) s = stmt_node h (expr_at h) (stmt_at h) s

-- Reading expressions and statements.
use Rattle.std.specs.Prelude.{ℕ, zero, suc, max, Bool, true, false, not, ◌||◌, List, [], ◌∷◌, length, Option}
use Rattle.std.specs.Prelude.{Some, None, nat_eq, codes, bytes_eq}
use Rattle.dscript_lex.specs.declared.token.TokenKind.{TokenKind}
use Rattle.dscript_lex.specs.declared.token.TokenKind.TheVariants as kinds
use Rattle.dscript_grammar.specs.Reading.{Read, Reader, got, ◌>>=◌, choose, pick, at_punctuator}
use Rattle.dscript_grammar.specs.Reading.{take_punctuator, take_keyword, read_name, read_identifier}
use Rattle.dscript_grammar.specs.Reading.{read_string, read_flag, read_many, read_list}
use Rattle.dscript_ast.specs.TypeTree.{TypeTree}
use Rattle.dscript_grammar.specs.TypeReading.{above, at_identifier, read_type}
use Rattle.dscript_ast.specs.ExprTree.{ParamTree, HeadTree, Single, Params, ExprTree, Arrow, BlockArrow, Cond}
use Rattle.dscript_ast.specs.ExprTree.{Chain, Unary, Postfix, Number, Str, True, False, Undefined, Template}
use Rattle.dscript_ast.specs.ExprTree.{Path, Name, Elements, Object, OperandTree, Operand, PartTree, Member}
use Rattle.dscript_ast.specs.ExprTree.{Index, Call, ElementTree, Element, PropTree, Named, Quoted, Short}
use Rattle.dscript_ast.specs.ExprTree.{Spread, HoleTree, Hole, StmtTree, Const, Let, Assign, If, For, Return}
use Rattle.dscript_ast.specs.ExprTree.{Value, Block, Empty, no_expr, an_expr, no_stmt, a_stmt, to_exprs}
use Rattle.dscript_ast.specs.ExprTree.{to_operands, to_parts, to_elements, to_props, to_holes, to_stmts}
use Rattle.dscript_ast.specs.ExprTree.{to_expr}
use Rattle.dscript_ast.specs.Operators.{precedence, spelling}
use Rattle.dscript_ast.specs.declared.expr.LoopKind.{LoopKind}
use Rattle.dscript_ast.specs.declared.expr.LoopKind.TheVariants as loops
use Rattle.dscript_ast.specs.declared.operator.BinaryOp.{BinaryOp}
use Rattle.dscript_ast.specs.declared.operator.BinaryOp.TheVariants as binary
use Rattle.dscript_ast.specs.declared.expr.PathKind.{PathKind}
use Rattle.dscript_ast.specs.declared.expr.PathKind.TheVariants as letters
use Rattle.dscript_ast.specs.declared.operator.UnaryOp.{UnaryOp}
use Rattle.dscript_ast.specs.declared.operator.UnaryOp.TheVariants as unary

-- tokens of templates
unfoldable pub read_whole : Reader (List ℕ)
read_whole [] = None
read_whole (kinds.Whole s ∷ ts) = got s 0 ts
read_whole (_ ∷ ts) = None

unfoldable pub read_head : Reader (List ℕ)
read_head [] = None
read_head (kinds.Head s ∷ ts) = got s 0 ts
read_head (_ ∷ ts) = None

unfoldable pub read_middle : Reader (List ℕ)
read_middle [] = None
read_middle (kinds.Middle s ∷ ts) = got s 0 ts
read_middle (_ ∷ ts) = None

unfoldable pub read_tail : Reader (List ℕ)
read_tail [] = None
read_tail (kinds.Tail s ∷ ts) = got s 0 ts
read_tail (_ ∷ ts) = None

unfoldable pub at_template : List TokenKind → Bool
at_template [] = false
at_template (kinds.Whole s ∷ ts) = true
at_template (kinds.Head s ∷ ts) = true
at_template (_ ∷ ts) = false

-- the letter of a literal, if a template is after it
unfoldable pub letter_of : List ℕ → Option PathKind
letter_of w =
    pick (bytes_eq w (codes "p")) (Some letters.Path)
    (pick (bytes_eq w (codes "f")) (Some letters.File)
    (pick (bytes_eq w (codes "d")) (Some letters.Directory)
    (pick (bytes_eq w (codes "r")) (Some letters.Relative)
    (pick (bytes_eq w (codes "a")) (Some letters.Atom) None))))

unfoldable pub read_letter : Reader PathKind
read_letter [] = None
read_letter (kinds.Word w ∷ ts) = pick (at_template ts) (choose (letter_of w) None (λ k. got k 0 ts)) None
read_letter (_ ∷ ts) = None

-- operators
unfoldable pub read_one_of : List BinaryOp → Reader BinaryOp
read_one_of [] ts = None
read_one_of (op ∷ ops) ts = choose (take_punctuator (spelling op) ts) (read_one_of ops ts) (λ r. got op 0 r)

unfoldable pub read_operator : Reader BinaryOp
read_operator =
    read_one_of
    (binary.Or ∷ binary.And ∷ binary.Equal ∷ binary.NotEqual ∷ binary.Less ∷ binary.LessOrEqual
    ∷ binary.Greater ∷ binary.GreaterOrEqual ∷ binary.Add ∷ binary.Subtract ∷ binary.Multiply ∷ [])

-- the level of the operator at the start; where there is none, a number that is no level
unfoldable pub operator_precedence : List TokenKind → ℕ
operator_precedence ts = choose (read_operator ts) 100 (λ o. precedence o.value)

unfoldable pub read_prefix : Reader UnaryOp
read_prefix ts =
    choose (take_punctuator "!" ts)
    (choose (take_punctuator "-" ts) None (λ r. got unary.Negate 0 r))
    (λ r. got unary.Not 0 r)

unfoldable pub at_prefix : List TokenKind → Bool
at_prefix ts = at_punctuator "!" ts || at_punctuator "-" ts

unfoldable pub at_part : List TokenKind → Bool
at_part ts = at_punctuator "." ts || (at_punctuator "[" ts || at_punctuator "(" ts)

-- whether a parameter ends before these tokens
unfoldable pub ends_param : List TokenKind → Bool
ends_param ts = at_punctuator ")" ts || (at_punctuator "," ts || at_punctuator ":" ts)

-- whether the name before these tokens, after `(`, is a parameter of an arrow function
unfoldable pub optional_param : List TokenKind → Bool
optional_param ts = choose (take_punctuator "?" ts) false ends_param

unfoldable pub closes_params : List TokenKind → Bool
closes_params ts = choose (take_punctuator ")" ts) false (at_punctuator "=>")

abbrev pub after_param_name : List TokenKind → Bool
after_param_name ts =
    at_punctuator "," ts || (at_punctuator ":" ts || (optional_param ts || closes_params ts))

-- whether the parameters of an arrow function follow, after `(`, and not an expression in parentheses
unfoldable pub at_params : List TokenKind → Bool
at_params [] = false
at_params (kinds.Word w ∷ ts) = after_param_name ts
at_params (t ∷ ts) = at_punctuator ")" (t ∷ ts)

unfoldable pub at_arrow : List TokenKind → Bool
at_arrow [] = false
at_arrow (kinds.Word w ∷ ts) = at_punctuator "=>" ts
at_arrow (t ∷ ts) = choose (take_punctuator "(" (t ∷ ts)) false at_params

unfoldable pub at_assign : List TokenKind → Bool
at_assign [] = false
at_assign (kinds.Word w ∷ ts) = at_punctuator "=" ts
at_assign (_ ∷ ts) = false

unfoldable pub read_literal : Reader ExprTree
read_literal [] = None
read_literal (kinds.Number n ∷ ts) = got (Number n) 1 ts
read_literal (kinds.Str s ∷ ts) = got (Str s) 1 ts
read_literal (kinds.Word w ∷ ts) =
    pick (bytes_eq w (codes "true")) (got True 1 ts)
    (pick (bytes_eq w (codes "false")) (got False 1 ts)
    (pick (bytes_eq w (codes "undefined")) (got Undefined 1 ts) None))
read_literal (_ ∷ ts) = None

unfoldable pub read_loop_keyword : Reader LoopKind
read_loop_keyword ts =
    choose (take_keyword "const" ts)
    (take_keyword "let" ts >>= λ r. got loops.Let 0 r)
    (λ r. got loops.Const 0 r)

-- the level of the operators that are read above k levels of chains: the first is PRODUCT
abbrev pub chain_level : ℕ → ℕ
chain_level k = suc (suc (suc k))

-- a template's first text and its holes
pub record Pieces : Type 0 where
  pub text : List ℕ
  pub holes : List HoleTree

-- `depth` is how deeply nodes may be nested in the node that is read; `expr` and `stmt` read the parts of it
module _ (depth : ℕ) (expr : Reader ExprTree) (stmt : Reader StmtTree) where
  -- (":" Type)?
  unfoldable pub read_note : Reader (Option TypeTree)
  read_note ts =
      choose (take_punctuator ":" ts) (got None 0 ts)
      (λ r. read_type depth r >>= λ t. got (Some t.value) t.height t.rest)

  unfoldable pub read_param : Reader ParamTree
  read_param ts =
      read_identifier ts
      >>= λ x. read_flag "?" x.rest
      >>= λ o. read_note o.rest
      >>= λ t. got (record { name = x.value; optional = o.value; type_node = t.value }) t.height t.rest

  unfoldable pub read_params : Reader (List ParamTree)
  read_params ts =
      take_punctuator "(" ts
      >>= λ r. read_list ")" read_param (suc (length r)) r
      >>= λ ps. take_punctuator ")" ps.rest
      >>= λ r2. got ps.value ps.height r2

  unfoldable pub read_arrow_head : Reader HeadTree
  read_arrow_head ts =
      pick (at_punctuator "(" ts)
      (read_params ts >>= λ ps. got (Params ps.value) ps.height ps.rest)
      (read_identifier ts >>= λ x. got (Single x.value) 0 x.rest)

  unfoldable pub read_block : Reader (List StmtTree)
  read_block ts =
      take_punctuator "{" ts
      >>= λ r. read_many (λ us. not (at_punctuator "}" us)) stmt (suc (length r)) r
      >>= λ ss. take_punctuator "}" ss.rest
      >>= λ r2. got ss.value ss.height r2

  unfoldable pub read_arrow_body : HeadTree → ℕ → Reader ExprTree
  read_arrow_body x n ts =
      pick (at_punctuator "{" ts)
      (read_block ts >>= λ ss. got (BlockArrow x (to_stmts ss.value)) (suc (max n ss.height)) ss.rest)
      (expr ts >>= λ e. got (Arrow x e.value) (suc (max n e.height)) e.rest)

  unfoldable pub read_arrow : Reader ExprTree
  read_arrow ts =
      read_arrow_head ts
      >>= λ x. take_punctuator "=>" x.rest
      >>= λ r. read_arrow_body x.value x.height r

  unfoldable pub read_holes : ℕ → Reader (List HoleTree)
  read_holes zero ts = None
  read_holes (suc n) ts =
      expr ts
      >>= λ e. choose (read_tail e.rest)
      (read_middle e.rest
      >>= λ m. read_holes n m.rest
      >>= λ hs. got (Hole e.value m.value ∷ hs.value) (max e.height hs.height) hs.rest)
      (λ t. got (Hole e.value t.value ∷ []) e.height t.rest)

  unfoldable pub read_template : Reader Pieces
  read_template ts =
      choose (read_whole ts)
      (read_head ts
      >>= λ x. read_holes (length x.rest) x.rest
      >>= λ hs. got (record { text = x.value; holes = hs.value }) hs.height hs.rest)
      (λ w. got (record { text = w.value; holes = [] }) 0 w.rest)

  unfoldable pub read_element : Reader ElementTree
  read_element ts =
      read_flag "..." ts
      >>= λ s. expr s.rest
      >>= λ e. got (Element s.value e.value) e.height e.rest

  unfoldable pub read_word_prop : Reader PropTree
  read_word_prop ts =
      read_name ts
      >>= λ x. choose (take_punctuator ":" x.rest) (read_identifier ts >>= λ y. got (Short y.value) 0 y.rest)
      (λ r. expr r >>= λ e. got (Named x.value e.value) e.height e.rest)

  unfoldable pub read_prop : Reader PropTree
  read_prop ts =
      choose (take_punctuator "..." ts)
      (choose (read_string ts) (read_word_prop ts)
      (λ s. take_punctuator ":" s.rest >>= λ r. expr r >>= λ e. got (Quoted s.value e.value) e.height e.rest))
      (λ r. expr r >>= λ e. got (Spread e.value) e.height e.rest)

  -- a name, or a literal of a path
  unfoldable pub read_named : Reader ExprTree
  read_named ts =
      choose (read_letter ts) (read_identifier ts >>= λ x. got (Name x.value) 1 x.rest)
      (λ k. read_template k.rest
      >>= λ p. got (Path k.value p.value.text (to_holes p.value.holes)) (suc p.height) p.rest)

  unfoldable pub read_elements : Reader ExprTree
  read_elements ts =
      read_list "]" read_element (suc (length ts)) ts
      >>= λ es. take_punctuator "]" es.rest
      >>= λ r. got (Elements (to_elements es.value)) (suc es.height) r

  unfoldable pub read_object : Reader ExprTree
  read_object ts =
      read_list "}" read_prop (suc (length ts)) ts
      >>= λ ps. take_punctuator "}" ps.rest
      >>= λ r. got (Object (to_props ps.value)) (suc ps.height) r

  -- an expression in parentheses
  unfoldable pub read_enclosed : Reader ExprTree
  read_enclosed ts =
      expr ts
      >>= λ e. take_punctuator ")" e.rest
      >>= λ r. got e.value (suc e.height) r

  unfoldable pub read_plain : Reader ExprTree
  read_plain ts =
      pick (at_template ts)
      (read_template ts >>= λ p. got (Template p.value.text (to_holes p.value.holes)) (suc p.height) p.rest)
      (pick (at_identifier ts) (read_named ts) (read_literal ts))

  unfoldable pub read_primary : Reader ExprTree
  read_primary ts =
      choose (take_punctuator "(" ts)
      (choose (take_punctuator "[" ts)
      (choose (take_punctuator "{" ts) (read_plain ts) read_object)
      read_elements)
      read_enclosed

  unfoldable pub read_index : Reader PartTree
  read_index ts =
      expr ts
      >>= λ e. take_punctuator "]" e.rest
      >>= λ r. got (Index e.value) e.height r

  unfoldable pub read_call : Reader PartTree
  read_call ts =
      take_punctuator "(" ts
      >>= λ r. read_list ")" expr (suc (length r)) r
      >>= λ es. take_punctuator ")" es.rest
      >>= λ r2. got (Call (to_exprs es.value)) es.height r2

  unfoldable pub read_part : Reader PartTree
  read_part ts =
      choose (take_punctuator "." ts) (choose (take_punctuator "[" ts) (read_call ts) read_index)
      (λ r. read_name r >>= λ x. got (Member x.value) 0 x.rest)

  unfoldable pub as_postfix : ExprTree → ℕ → List PartTree → ℕ → List TokenKind → Option (Read ExprTree)
  as_postfix e h [] n rest = got e h rest
  as_postfix e h (p ∷ ps) n rest = above depth (max h n) (Postfix e (to_parts (p ∷ ps))) rest

  unfoldable pub read_postfix : Reader ExprTree
  read_postfix ts =
      read_primary ts
      >>= λ e. read_many at_part read_part (suc (length e.rest)) e.rest
      >>= λ ps. as_postfix e.value e.height ps.value ps.height ps.rest

  unfoldable pub as_unary : List UnaryOp → ExprTree → ℕ → List TokenKind → Option (Read ExprTree)
  as_unary [] e h rest = got e h rest
  as_unary (op ∷ ops) e h rest = above depth h (Unary (op ∷ ops) e) rest

  unfoldable pub read_unary : Reader ExprTree
  read_unary ts =
      read_many at_prefix read_prefix (suc (length ts)) ts
      >>= λ ops. read_postfix ops.rest
      >>= λ e. as_unary ops.value e.value e.height e.rest

  unfoldable pub read_operand : ℕ → Reader ExprTree → Reader OperandTree
  read_operand level tighter ts =
      read_operator ts
      >>= λ o. pick (nat_eq (precedence o.value) level)
      (tighter o.rest >>= λ e. got (Operand o.value e.value) e.height e.rest)
      None

  unfoldable pub as_chain : ℕ → ExprTree → ℕ → List OperandTree → ℕ → List TokenKind → Option (Read ExprTree)
  as_chain level e h [] n rest = got e h rest
  as_chain level e h (o ∷ os) n rest = above depth (max h n) (Chain level e (to_operands (o ∷ os))) rest

  -- chains by level, counted from 0 for prefix operators
  unfoldable pub read_chain : ℕ → Reader ExprTree
  read_chain zero ts = read_unary ts
  read_chain (suc k) ts =
      read_chain k ts
      >>= λ e. read_many (λ us. nat_eq (operator_precedence us) (chain_level k))
      (read_operand (chain_level k) (read_chain k))
      (suc (length e.rest)) e.rest
      >>= λ os. as_chain (chain_level k) e.value e.height os.value os.height os.rest

  unfoldable pub read_branches : ExprTree → ℕ → Reader ExprTree
  read_branches c n ts =
      expr ts
      >>= λ a. take_punctuator ":" a.rest
      >>= λ r. expr r
      >>= λ b. above depth (max n (max a.height b.height)) (Cond c a.value b.value) b.rest

  unfoldable pub read_cond : Reader ExprTree
  read_cond ts =
      read_chain 6 ts
      >>= λ c. choose (take_punctuator "?" c.rest)
      (got c.value c.height c.rest) (read_branches c.value c.height)

  unfoldable pub read_any : Reader ExprTree
  read_any ts = pick (at_arrow ts) (read_arrow ts) (read_cond ts)

  -- "=" Expr ";"
  unfoldable pub read_value : Reader ExprTree
  read_value ts =
      take_punctuator "=" ts
      >>= λ r. expr r
      >>= λ e. take_punctuator ";" e.rest
      >>= λ r2. got e.value e.height r2

  unfoldable pub read_const : Reader StmtTree
  read_const ts =
      read_identifier ts
      >>= λ x. read_note x.rest
      >>= λ t. read_value t.rest
      >>= λ e. got (Const x.value t.value e.value) (suc (max t.height e.height)) e.rest

  -- ("=" Expr)?
  unfoldable pub read_start : Reader (Option ExprTree)
  read_start ts =
      choose (take_punctuator "=" ts) (got None 0 ts)
      (λ r. expr r >>= λ e. got (Some e.value) e.height e.rest)

  unfoldable pub read_let : Reader StmtTree
  read_let ts =
      read_identifier ts
      >>= λ x. read_note x.rest
      >>= λ t. read_start t.rest
      >>= λ e. take_punctuator ";" e.rest
      >>= λ r. got (Let x.value t.value (to_expr e.value)) (suc (max t.height e.height)) r

  unfoldable pub read_assign : Reader StmtTree
  read_assign ts =
      read_identifier ts
      >>= λ x. read_value x.rest
      >>= λ e. got (Assign x.value e.value) (suc e.height) e.rest

  unfoldable pub read_else : ExprTree → ℕ → StmtTree → ℕ → Reader StmtTree
  read_else c n s m ts =
      choose (take_keyword "else" ts) (got (If c s no_stmt) (suc (max n m)) ts)
      (λ r. stmt r >>= λ o. got (If c s (a_stmt o.value)) (suc (max n (max m o.height))) o.rest)

  unfoldable pub read_if : Reader StmtTree
  read_if ts =
      take_punctuator "(" ts
      >>= λ r. expr r
      >>= λ c. take_punctuator ")" c.rest
      >>= λ r2. stmt r2
      >>= λ s. read_else c.value c.height s.value s.height s.rest

  unfoldable pub read_for : Reader StmtTree
  read_for ts =
      take_punctuator "(" ts
      >>= λ r. read_loop_keyword r
      >>= λ k. read_identifier k.rest
      >>= λ x. take_keyword "of" x.rest
      >>= λ r2. expr r2
      >>= λ e. take_punctuator ")" e.rest
      >>= λ r3. stmt r3
      >>= λ s. got (For k.value x.value e.value s.value) (suc (max e.height s.height)) s.rest

  unfoldable pub read_return : Reader StmtTree
  read_return ts =
      choose (take_punctuator ";" ts)
      (expr ts >>= λ e. take_punctuator ";" e.rest >>= λ r. got (Return (an_expr e.value)) (suc e.height) r)
      (λ r. got (Return no_expr) 1 r)

  unfoldable pub read_simple : Reader StmtTree
  read_simple ts =
      pick (at_assign ts) (read_assign ts)
      (expr ts >>= λ e. take_punctuator ";" e.rest >>= λ r. got (Value e.value) (suc e.height) r)

  unfoldable pub read_by_keyword : Reader StmtTree
  read_by_keyword ts =
      choose (take_keyword "const" ts)
      (choose (take_keyword "let" ts)
      (choose (take_keyword "if" ts)
      (choose (take_keyword "for" ts)
      (choose (take_keyword "return" ts) (read_simple ts) read_return)
      read_for)
      read_if)
      read_let)
      read_const

  unfoldable pub read_any_stmt : Reader StmtTree
  read_any_stmt ts =
      choose (take_punctuator ";" ts)
      (pick (at_punctuator "{" ts)
      (read_block ts >>= λ ss. got (Block (to_stmts ss.value)) (suc ss.height) ss.rest)
      (read_by_keyword ts))
      (λ r. got Empty 1 r)

-- expressions and statements, where nodes may be nested to this depth
unfoldable mutual
  pub read_expr : ℕ → Reader ExprTree
  read_expr zero ts = None
  read_expr (suc depth) ts = read_any depth (read_expr depth) (read_stmt depth) ts

  pub read_stmt : ℕ → Reader StmtTree
  read_stmt zero ts = None
  read_stmt (suc depth) ts = read_any_stmt depth (read_expr depth) (read_stmt depth) ts

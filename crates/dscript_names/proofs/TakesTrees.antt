-- An expression or a statement has at least as many tokens as its size.
use Rattle.std.proofs.Common.{◌≡◌, ℕ, zero, suc, ◌+◌, List, [], ◌∷◌, refl, ap, arith}
use Rattle.dscript_ast.specs.ExprTree as tree
use Rattle.dscript_ast.specs.ExprTree.{ExprTree, OperandTree, PartTree, ElementTree, PropTree, HoleTree, StmtTree, MaybeExpr, MaybeStmt, ExprTrees, OperandTrees, PartTrees, ElementTrees, PropTrees, HoleTrees, StmtTrees, expr_of, exprs_of, operands_of, parts_of, elements_of, props_of, holes_of, stmts_of}
use Rattle.dscript_ast.specs.declared.expr.LoopKind.{LoopKind}
use Rattle.dscript_ast.specs.declared.expr.LoopKind.TheVariants as loops
use Rattle.dscript_ast.specs.declared.expr.PathKind.{PathKind}
use Rattle.dscript_ast.specs.declared.expr.PathKind.TheVariants as letters
use Rattle.dscript_grammar.specs.ExprGrammar.{any_expr, or_expr, postfix_expr, primary_expr, prefix, letter, loop_keyword, operand, chain, part, holes, template, element, prop, block, expr_node, value, stmt_node, expr_at, stmt_at}
use Rattle.dscript_grammar.specs.Language.{Language, optional}
use Rattle.dscript_grammar.proofs.Combinators.{many_not_longer}
use Rattle.dscript_grammar.proofs.ExprLengths.{prefix_consumes}
use Rattle.dscript_names.specs.Sizes.{expr_size, operand_size, operands_size, part_size, parts_size, exprs_size, element_size, elements_size, prop_size, props_size, hole_size, holes_size, stmt_size, maybe_size, stmts_size, head_size}
use Rattle.dscript_names.proofs.Takes.{Takes, takes_either, takes_given, takes_never, takes_not_before, takes_nothing, takes_token, takes_identifier, takes_none, takes_then, takes_less, takes_after, takes_before, takes_flag, takes_note, total, takes_many, takes_list, takes_head}

-- ## Rows as lists

operands_sum : (os : OperandTrees) → operands_size os ≡ total operand_size (operands_of os)
unfolding expr_size
operands_sum tree.no_operands = refl
operands_sum (tree.more_operands o os) = ap (λ n. operand_size o + n) (operands_sum os)

parts_sum : (ps : PartTrees) → parts_size ps ≡ total part_size (parts_of ps)
unfolding expr_size
parts_sum tree.no_parts = refl
parts_sum (tree.more_parts p ps) = ap (λ n. part_size p + n) (parts_sum ps)

exprs_sum : (es : ExprTrees) → exprs_size es ≡ total expr_size (exprs_of es)
unfolding expr_size
exprs_sum tree.no_exprs = refl
exprs_sum (tree.more_exprs e es) = ap (λ n. expr_size e + n) (exprs_sum es)

elements_sum : (es : ElementTrees) → elements_size es ≡ total element_size (elements_of es)
unfolding expr_size
elements_sum tree.no_elements = refl
elements_sum (tree.more_elements e es) = ap (λ n. element_size e + n) (elements_sum es)

props_sum : (ps : PropTrees) → props_size ps ≡ total prop_size (props_of ps)
unfolding expr_size
props_sum tree.no_props = refl
props_sum (tree.more_props p ps) = ap (λ n. prop_size p + n) (props_sum ps)

holes_sum : (hs : HoleTrees) → holes_size hs ≡ total hole_size (holes_of hs)
unfolding expr_size
holes_sum tree.no_holes = refl
holes_sum (tree.more_holes h hs) = ap (λ n. hole_size h + n) (holes_sum hs)

stmts_sum : (ss : StmtTrees) → stmts_size ss ≡ total stmt_size (stmts_of ss)
unfolding expr_size
stmts_sum tree.no_stmts = refl
stmts_sum (tree.more_stmts s ss) = ap (λ n. stmt_size s + n) (stmts_sum ss)

takes_as : {A : Language} (m n : ℕ) → m ≡ n → Takes n A → Takes m A
takes_as m n e h = takes_less m n (omega (arith, e)) h

takes_letter : (k : PathKind) → Takes 1 (letter k)
takes_letter letters.Path = takes_token _
takes_letter letters.File = takes_token _
takes_letter letters.Directory = takes_token _
takes_letter letters.Relative = takes_token _
takes_letter letters.Atom = takes_token _

takes_loop : (k : LoopKind) → Takes 1 (loop_keyword k)
takes_loop loops.Const = takes_token _
takes_loop loops.Let = takes_token _

-- ## Nodes

module _ (h : ℕ) (expr : ℕ → ExprTree → Language) (stmt : StmtTree → Language)
    (takes : (l : ℕ) (e : ExprTree) → Takes (expr_size e) (expr l e)) (takes_stmt : (s : StmtTree) → Takes (stmt_size s) (stmt s)) where
  takes_operand : (level tighter : ℕ) (o : OperandTree) → Takes (operand_size o) (operand h expr stmt level tighter o)
  unfolding expr_size
  takes_operand level tighter (tree.Operand op e) = takes_given (takes_after (takes_token _) (takes tighter e))

  takes_chain : (level : ℕ) (e : ExprTree) (os : List OperandTree)
      → Takes (expr_size e + total operand_size os) (chain h expr stmt level e os)
  takes_chain zero e os = takes_never (expr_size e + total operand_size os)
  takes_chain (suc k) e os =
      takes_given (takes_then (takes k e) (takes_many operand_size (operand h expr stmt (suc k) k) (takes_operand (suc k) k) os))

  takes_part : (p : PartTree) → Takes (part_size p) (part h expr stmt p)
  unfolding expr_size
  takes_part (tree.Member x) = takes_less 0 2 (omega arith) (takes_then (takes_token _) (takes_token _))
  takes_part (tree.Index e) = takes_after (takes_token _) (takes_before (takes any_expr e) (takes_token _))
  takes_part (tree.Call es) =
      takes_after (takes_token _) (takes_before (takes_as (exprs_size es) (total expr_size (exprs_of es)) (exprs_sum es)
      (takes_list expr_size (expr any_expr) (takes any_expr) (exprs_of es))) (takes_token _))

  takes_holes : (hs : List HoleTree) → Takes (total hole_size hs) (holes h expr stmt hs)
  unfolding expr_size
  takes_holes [] = takes_never 0
  takes_holes (tree.Hole e text ∷ []) =
      takes_less (expr_size e + 0) (expr_size e) (omega arith) (takes_before (takes any_expr e) (takes_token _))
  takes_holes (tree.Hole e text ∷ next ∷ hs) =
      takes_then (takes any_expr e) (takes_after (takes_token _) (takes_holes (next ∷ hs)))

  takes_template : (x : List ℕ) (hs : List HoleTree) → Takes (total hole_size hs) (template h expr stmt x hs)
  takes_template x [] = takes_less 0 1 (omega arith) (takes_token _)
  takes_template x (y ∷ ys) = takes_after (takes_token _) (takes_holes (y ∷ ys))

  takes_element : (x : ElementTree) → Takes (element_size x) (element h expr stmt x)
  unfolding expr_size
  takes_element (tree.Element spread e) = takes_after (takes_flag "..." spread) (takes any_expr e)

  takes_prop : (x : PropTree) → Takes (prop_size x) (prop h expr stmt x)
  unfolding expr_size
  takes_prop (tree.Named x e) = takes_after (takes_token _) (takes_after (takes_token _) (takes any_expr e))
  takes_prop (tree.Quoted x e) = takes_after (takes_token _) (takes_after (takes_token _) (takes any_expr e))
  takes_prop (tree.Short x) = takes_less 0 1 (omega arith) (takes_identifier x)
  takes_prop (tree.Spread e) = takes_after (takes_token _) (takes any_expr e)

  pub takes_block : (ss : List StmtTree) → Takes (total stmt_size ss) (block h expr stmt ss)
  takes_block ss = takes_after (takes_token _) (takes_before (takes_many stmt_size stmt takes_stmt ss) (takes_token _))

  takes_row : (ss : StmtTrees) → Takes (stmts_size ss) (block h expr stmt (stmts_of ss))
  takes_row ss = takes_as (stmts_size ss) (total stmt_size (stmts_of ss)) (stmts_sum ss) (takes_block (stmts_of ss))

  takes_value : (e : ExprTree) → Takes (expr_size e) (value h expr stmt e)
  takes_value e = takes_after (takes_token _) (takes any_expr e)

  takes_maybe : (e : MaybeExpr) → Takes (maybe_size e) (optional (expr any_expr) (expr_of e))
  unfolding expr_size
  takes_maybe tree.no_expr = takes_nothing (λ ts rest e. e)
  takes_maybe (tree.an_expr e) = takes any_expr e

  takes_maybe_value : (e : MaybeExpr) → Takes (maybe_size e) (optional (value h expr stmt) (expr_of e))
  unfolding expr_size
  takes_maybe_value tree.no_expr = takes_nothing (λ ts rest e. e)
  takes_maybe_value (tree.an_expr e) = takes_value e

  takes_node : (e : ExprTree) → Takes (expr_size e) (expr_node h expr stmt e)
  unfolding expr_size
  takes_node (tree.Arrow x e) =
      takes_less (1 + head_size x + expr_size e) (head_size x + (1 + expr_size e)) (omega arith)
      (takes_then (takes_head h x) (takes_then (takes_token _) (takes_not_before "{" (takes any_expr e))))
  takes_node (tree.BlockArrow x ss) =
      takes_less (1 + head_size x + stmts_size ss) (head_size x + (1 + stmts_size ss)) (omega arith)
      (takes_then (takes_head h x) (takes_then (takes_token _) (takes_row ss)))
  takes_node (tree.Cond c a b) =
      takes_less (expr_size c + expr_size a + expr_size b) (expr_size c + (expr_size a + expr_size b)) (omega arith)
      (takes_then (takes or_expr c) (takes_after (takes_token _) (takes_then (takes any_expr a) (takes_after (takes_token _) (takes any_expr b)))))
  takes_node (tree.Chain level e os) =
      takes_less (expr_size e + operands_size os) (expr_size e + total operand_size (operands_of os)) (omega (arith, operands_sum os))
      (takes_given (takes_chain level e (operands_of os)))
  takes_node (tree.Unary ops e) =
      takes_given (takes_after (takes_none (many_not_longer prefix prefix_consumes ops)) (takes postfix_expr e))
  takes_node (tree.Postfix e ps) =
      takes_less (expr_size e + parts_size ps) (expr_size e + total part_size (parts_of ps)) (omega (arith, parts_sum ps))
      (takes_given (takes_then (takes primary_expr e) (takes_many part_size (part h expr stmt) takes_part (parts_of ps))))
  takes_node (tree.Number n) = takes_less 0 1 (omega arith) (takes_token _)
  takes_node (tree.Str s) = takes_less 0 1 (omega arith) (takes_token _)
  takes_node tree.True = takes_less 0 1 (omega arith) (takes_token _)
  takes_node tree.False = takes_less 0 1 (omega arith) (takes_token _)
  takes_node tree.Undefined = takes_less 0 1 (omega arith) (takes_token _)
  takes_node (tree.Template x hs) =
      takes_as (holes_size hs) (total hole_size (holes_of hs)) (holes_sum hs) (takes_template x (holes_of hs))
  takes_node (tree.Path k x hs) =
      takes_as (holes_size hs) (total hole_size (holes_of hs)) (holes_sum hs) (takes_after (takes_letter k) (takes_template x (holes_of hs)))
  takes_node (tree.Name x) = takes_less 0 1 (omega arith) (takes_identifier x)
  takes_node (tree.Elements es) =
      takes_as (elements_size es) (total element_size (elements_of es)) (elements_sum es)
      (takes_after (takes_token _) (takes_before (takes_list element_size (element h expr stmt) takes_element (elements_of es)) (takes_token _)))
  takes_node (tree.Object ps) =
      takes_as (props_size ps) (total prop_size (props_of ps)) (props_sum ps)
      (takes_after (takes_token _) (takes_before (takes_list prop_size (prop h expr stmt) takes_prop (props_of ps)) (takes_token _)))

  takes_stmt_node : (s : StmtTree) → Takes (stmt_size s) (stmt_node h expr stmt s)
  unfolding expr_size
  takes_stmt_node (tree.Const x t e) =
      takes_then (takes_token _) (takes_after (takes_identifier x) (takes_after (takes_note h t) (takes_before (takes_value e) (takes_token _))))
  takes_stmt_node (tree.Let x t e) =
      takes_then (takes_token _) (takes_after (takes_identifier x) (takes_after (takes_note h t) (takes_before (takes_maybe_value e) (takes_token _))))
  takes_stmt_node (tree.Assign x e) = takes_after (takes_identifier x) (takes_before (takes_value e) (takes_token _))
  takes_stmt_node (tree.If c s tree.no_stmt) =
      takes_less (expr_size c + stmt_size s + 0) (expr_size c + stmt_size s) (omega arith)
      (takes_after (takes_token _) (takes_after (takes_token _) (takes_then (takes any_expr c) (takes_after (takes_token _) (takes_stmt s)))))
  takes_stmt_node (tree.If c s (tree.a_stmt other)) =
      takes_less (expr_size c + stmt_size s + stmt_size other) (expr_size c + (stmt_size s + stmt_size other)) (omega arith)
      (takes_given (takes_after (takes_token _) (takes_after (takes_token _) (takes_then (takes any_expr c) (takes_after (takes_token _)
      (takes_then (takes_stmt s) (takes_after (takes_token _) (takes_stmt other))))))))
  takes_stmt_node (tree.For k x e s) =
      takes_less (1 + expr_size e + stmt_size s) (1 + (expr_size e + stmt_size s)) (omega arith)
      (takes_then (takes_token _) (takes_after (takes_token _) (takes_after (takes_loop k) (takes_after (takes_identifier x) (takes_after (takes_token _)
      (takes_then (takes any_expr e) (takes_after (takes_token _) (takes_stmt s))))))))
  takes_stmt_node (tree.Return e) = takes_after (takes_token _) (takes_before (takes_maybe e) (takes_token _))
  takes_stmt_node (tree.Value e) = takes_before (takes_not_before "{" (takes any_expr e)) (takes_token _)
  takes_stmt_node (tree.Block ss) = takes_row ss
  takes_stmt_node tree.Empty = takes_less 0 1 (omega arith) (takes_token _)

mutual
  unfolding expr_at stmt_at

  pub takes_expr : (h l : ℕ) (e : ExprTree) → Takes (expr_size e) (expr_at h l e)
  takes_expr zero l e = takes_never (expr_size e)
  takes_expr (suc h) l e =
      takes_either (expr_size e) (takes_given (takes_node h (expr_at h) (stmt_at h) (takes_expr h) (takes_stmt h) e))
      (takes_after (takes_token _) (takes_before (takes_expr h any_expr e) (takes_token _)))

  pub takes_stmt : (h : ℕ) (s : StmtTree) → Takes (stmt_size s) (stmt_at h s)
  takes_stmt zero s = takes_never (stmt_size s)
  takes_stmt (suc h) s = takes_stmt_node h (expr_at h) (stmt_at h) (takes_expr h) (takes_stmt h) s

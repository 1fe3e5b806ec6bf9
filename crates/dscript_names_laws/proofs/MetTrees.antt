-- The names in an expression or a statement are met in the order of its tokens.
use Rattle.std.proofs.Common.{◌≡◌, ℕ, zero, suc, List, [], ◌∷◌, ◌++◌, refl, ap, append_assoc, append-nil}
use Rattle.std.specs.List.{flat_map}
use Rattle.dscript_ast.specs.ExprTree as tree
use Rattle.dscript_ast.specs.ExprTree.{HeadTree, ExprTree, OperandTree, PartTree, ElementTree, PropTree, HoleTree, StmtTree, MaybeExpr, ExprTrees, OperandTrees, PartTrees, ElementTrees, PropTrees, HoleTrees, StmtTrees, expr_of, exprs_of, operands_of, parts_of, elements_of, props_of, holes_of, stmts_of}
use Rattle.dscript_ast.specs.declared.expr.LoopKind.{LoopKind}
use Rattle.dscript_ast.specs.declared.expr.LoopKind.TheVariants as loops
use Rattle.dscript_ast.specs.declared.expr.PathKind.{PathKind}
use Rattle.dscript_ast.specs.declared.expr.PathKind.TheVariants as letters
use Rattle.dscript_grammar.specs.ExprGrammar.{any_expr, or_expr, postfix_expr, primary_expr, prefix, head, letter, loop_keyword, operand, chain, part, holes, template, element, prop, block, expr_node, value, stmt_node, expr_at, stmt_at, type_note}
use Rattle.dscript_grammar.specs.Language.{Language, optional}
use Rattle.dscript_names_laws.specs.Met.{Words, names_met, operand_met, operands_met, part_met, parts_met, exprs_met, element_met, elements_met, prop_met, props_met, hole_met, holes_met, stmt_met, maybe_met, stmts_met}
use Rattle.dscript_names_laws.proofs.MetTypes.{skips_note, skips_params}
use Rattle.dscript_names_laws.proofs.Occurring.{Meets, meets_after, meets_as, meets_before, meets_either, meets_given, meets_list, meets_many, meets_name, meets_never, meets_not_before, meets_nothing, meets_then, meets_token, skips_flag, skips_many, skips_name, skips_optional}

-- ## Rows as lists

operands_all : (os : OperandTrees) → operands_met os ≡ flat_map operand_met (operands_of os)
unfolding names_met
operands_all tree.no_operands = refl
operands_all (tree.more_operands o os) = ap (λ (ws : Words). operand_met o ++ ws) (operands_all os)

parts_all : (ps : PartTrees) → parts_met ps ≡ flat_map part_met (parts_of ps)
unfolding names_met
parts_all tree.no_parts = refl
parts_all (tree.more_parts p ps) = ap (λ (ws : Words). part_met p ++ ws) (parts_all ps)

exprs_all : (es : ExprTrees) → exprs_met es ≡ flat_map names_met (exprs_of es)
unfolding names_met
exprs_all tree.no_exprs = refl
exprs_all (tree.more_exprs e es) = ap (λ (ws : Words). names_met e ++ ws) (exprs_all es)

elements_all : (es : ElementTrees) → elements_met es ≡ flat_map element_met (elements_of es)
unfolding names_met
elements_all tree.no_elements = refl
elements_all (tree.more_elements e es) = ap (λ (ws : Words). element_met e ++ ws) (elements_all es)

props_all : (ps : PropTrees) → props_met ps ≡ flat_map prop_met (props_of ps)
unfolding names_met
props_all tree.no_props = refl
props_all (tree.more_props p ps) = ap (λ (ws : Words). prop_met p ++ ws) (props_all ps)

holes_all : (hs : HoleTrees) → holes_met hs ≡ flat_map hole_met (holes_of hs)
unfolding names_met
holes_all tree.no_holes = refl
holes_all (tree.more_holes h hs) = ap (λ (ws : Words). hole_met h ++ ws) (holes_all hs)

pub stmts_all : (ss : StmtTrees) → stmts_met ss ≡ flat_map stmt_met (stmts_of ss)
unfolding names_met
stmts_all tree.no_stmts = refl
stmts_all (tree.more_stmts s ss) = ap (λ (ws : Words). stmt_met s ++ ws) (stmts_all ss)

three : (xs ys zs : Words) → (xs ++ ys) ++ zs ≡ xs ++ (ys ++ zs)
three xs ys zs = append_assoc xs ys zs

skips_letter : (k : PathKind) → Meets [] (letter k)
skips_letter letters.Path = meets_token _
skips_letter letters.File = meets_token _
skips_letter letters.Directory = meets_token _
skips_letter letters.Relative = meets_token _
skips_letter letters.Atom = meets_token _

skips_loop : (k : LoopKind) → Meets [] (loop_keyword k)
skips_loop loops.Const = meets_token _
skips_loop loops.Let = meets_token _

skips_head : (h : ℕ) (x : HeadTree) → Meets [] (head h x)
skips_head h (tree.Single x) = skips_name x
skips_head h (tree.Params ps) = skips_params h ps

-- ## Nodes

module _ (h : ℕ) (expr : ℕ → ExprTree → Language) (stmt : StmtTree → Language)
    (meets : (l : ℕ) (e : ExprTree) → Meets (names_met e) (expr l e)) (meets_stmt : (s : StmtTree) → Meets (stmt_met s) (stmt s)) where
  meets_operand : (level tighter : ℕ) (o : OperandTree) → Meets (operand_met o) (operand h expr stmt level tighter o)
  unfolding names_met
  meets_operand level tighter (tree.Operand op e) = meets_given (meets_after (meets_token _) (meets tighter e))

  meets_chain : (level : ℕ) (e : ExprTree) (os : List OperandTree)
      → Meets (names_met e ++ flat_map operand_met os) (chain h expr stmt level e os)
  meets_chain zero e os = meets_never (names_met e ++ flat_map operand_met os)
  meets_chain (suc k) e os =
      meets_given (meets_then (meets k e) (meets_many operand_met (operand h expr stmt (suc k) k) (meets_operand (suc k) k) os))

  meets_part : (p : PartTree) → Meets (part_met p) (part h expr stmt p)
  unfolding names_met
  meets_part (tree.Member x) = meets_after (meets_token _) (meets_token _)
  meets_part (tree.Index e) = meets_after (meets_token _) (meets_before (meets any_expr e) (meets_token _))
  meets_part (tree.Call es) =
      meets_after (meets_token _) (meets_before (meets_as (exprs_met es) (flat_map names_met (exprs_of es)) (exprs_all es)
      (meets_list names_met (expr any_expr) (meets any_expr) (exprs_of es))) (meets_token _))

  meets_holes : (hs : List HoleTree) → Meets (flat_map hole_met hs) (holes h expr stmt hs)
  unfolding names_met
  meets_holes [] = meets_never []
  meets_holes (tree.Hole e text ∷ []) = meets_then (meets any_expr e) (meets_token _)
  meets_holes (tree.Hole e text ∷ next ∷ hs) =
      meets_then (meets any_expr e) (meets_after (meets_token _) (meets_holes (next ∷ hs)))

  meets_template : (x : List ℕ) (hs : List HoleTree) → Meets (flat_map hole_met hs) (template h expr stmt x hs)
  meets_template x [] = meets_token _
  meets_template x (y ∷ ys) = meets_after (meets_token _) (meets_holes (y ∷ ys))

  meets_element : (x : ElementTree) → Meets (element_met x) (element h expr stmt x)
  unfolding names_met
  meets_element (tree.Element spread e) = meets_after (skips_flag "..." spread) (meets any_expr e)

  meets_prop : (x : PropTree) → Meets (prop_met x) (prop h expr stmt x)
  unfolding names_met
  meets_prop (tree.Named x e) = meets_after (meets_token _) (meets_after (meets_token _) (meets any_expr e))
  meets_prop (tree.Quoted x e) = meets_after (meets_token _) (meets_after (meets_token _) (meets any_expr e))
  meets_prop (tree.Short x) = meets_name x
  meets_prop (tree.Spread e) = meets_after (meets_token _) (meets any_expr e)

  pub meets_block : (ss : List StmtTree) → Meets (flat_map stmt_met ss) (block h expr stmt ss)
  meets_block ss = meets_after (meets_token _) (meets_before (meets_many stmt_met stmt meets_stmt ss) (meets_token _))

  meets_row : (ss : StmtTrees) → Meets (stmts_met ss) (block h expr stmt (stmts_of ss))
  meets_row ss = meets_as (stmts_met ss) (flat_map stmt_met (stmts_of ss)) (stmts_all ss) (meets_block (stmts_of ss))

  meets_value : (e : ExprTree) → Meets (names_met e) (value h expr stmt e)
  meets_value e = meets_after (meets_token _) (meets any_expr e)

  meets_maybe : (e : MaybeExpr) → Meets (maybe_met e) (optional (expr any_expr) (expr_of e))
  unfolding names_met
  meets_maybe tree.no_expr = meets_nothing
  meets_maybe (tree.an_expr e) = meets any_expr e

  meets_maybe_value : (e : MaybeExpr) → Meets (maybe_met e) (optional (value h expr stmt) (expr_of e))
  unfolding names_met
  meets_maybe_value tree.no_expr = meets_nothing
  meets_maybe_value (tree.an_expr e) = meets_value e

  meets_node : (e : ExprTree) → Meets (names_met e) (expr_node h expr stmt e)
  unfolding names_met
  meets_node (tree.Arrow x e) = meets_after (skips_head h x) (meets_after (meets_token _) (meets_not_before "{" (meets any_expr e)))
  meets_node (tree.BlockArrow x ss) = meets_after (skips_head h x) (meets_after (meets_token _) (meets_row ss))
  meets_node (tree.Cond c a b) =
      meets_as ((names_met c ++ names_met a) ++ names_met b) (names_met c ++ (names_met a ++ names_met b)) (three (names_met c) (names_met a) (names_met b))
      (meets_then (meets or_expr c) (meets_after (meets_token _) (meets_then (meets any_expr a) (meets_after (meets_token _) (meets any_expr b)))))
  meets_node (tree.Chain level e os) =
      meets_as (names_met e ++ operands_met os) (names_met e ++ flat_map operand_met (operands_of os))
      (ap (λ (ws : Words). names_met e ++ ws) (operands_all os)) (meets_given (meets_chain level e (operands_of os)))
  meets_node (tree.Unary ops e) =
      meets_given (meets_after (skips_many prefix (λ op. meets_token _) ops) (meets postfix_expr e))
  meets_node (tree.Postfix e ps) =
      meets_as (names_met e ++ parts_met ps) (names_met e ++ flat_map part_met (parts_of ps))
      (ap (λ (ws : Words). names_met e ++ ws) (parts_all ps))
      (meets_given (meets_then (meets primary_expr e) (meets_many part_met (part h expr stmt) meets_part (parts_of ps))))
  meets_node (tree.Number n) = meets_token _
  meets_node (tree.Str s) = meets_token _
  meets_node tree.True = meets_token _
  meets_node tree.False = meets_token _
  meets_node tree.Undefined = meets_token _
  meets_node (tree.Template x hs) =
      meets_as (holes_met hs) (flat_map hole_met (holes_of hs)) (holes_all hs) (meets_template x (holes_of hs))
  meets_node (tree.Path k x hs) =
      meets_as (holes_met hs) (flat_map hole_met (holes_of hs)) (holes_all hs) (meets_after (skips_letter k) (meets_template x (holes_of hs)))
  meets_node (tree.Name x) = meets_name x
  meets_node (tree.Elements es) =
      meets_as (elements_met es) (flat_map element_met (elements_of es)) (elements_all es)
      (meets_after (meets_token _) (meets_before (meets_list element_met (element h expr stmt) meets_element (elements_of es)) (meets_token _)))
  meets_node (tree.Object ps) =
      meets_as (props_met ps) (flat_map prop_met (props_of ps)) (props_all ps)
      (meets_after (meets_token _) (meets_before (meets_list prop_met (prop h expr stmt) meets_prop (props_of ps)) (meets_token _)))

  meets_stmt_node : (s : StmtTree) → Meets (stmt_met s) (stmt_node h expr stmt s)
  unfolding names_met
  meets_stmt_node (tree.Const x t e) =
      meets_after (meets_token _) (meets_after (skips_name x) (meets_after (skips_optional (type_note h) (skips_note h) t)
      (meets_before (meets_value e) (meets_token _))))
  meets_stmt_node (tree.Let x t e) =
      meets_after (meets_token _) (meets_after (skips_name x) (meets_after (skips_optional (type_note h) (skips_note h) t)
      (meets_before (meets_maybe_value e) (meets_token _))))
  meets_stmt_node (tree.Assign x e) = meets_then (meets_name x) (meets_before (meets_value e) (meets_token _))
  meets_stmt_node (tree.If c s tree.no_stmt) =
      meets_as ((names_met c ++ stmt_met s) ++ []) (names_met c ++ stmt_met s) (append-nil (names_met c ++ stmt_met s))
      (meets_after (meets_token _) (meets_after (meets_token _) (meets_then (meets any_expr c) (meets_after (meets_token _) (meets_stmt s)))))
  meets_stmt_node (tree.If c s (tree.a_stmt other)) =
      meets_as ((names_met c ++ stmt_met s) ++ stmt_met other) (names_met c ++ (stmt_met s ++ stmt_met other))
      (three (names_met c) (stmt_met s) (stmt_met other))
      (meets_given (meets_after (meets_token _) (meets_after (meets_token _) (meets_then (meets any_expr c) (meets_after (meets_token _)
      (meets_then (meets_stmt s) (meets_after (meets_token _) (meets_stmt other))))))))
  meets_stmt_node (tree.For k x e s) =
      meets_after (meets_token _) (meets_after (meets_token _) (meets_after (skips_loop k) (meets_after (skips_name x) (meets_after (meets_token _)
      (meets_then (meets any_expr e) (meets_after (meets_token _) (meets_stmt s)))))))
  meets_stmt_node (tree.Return e) = meets_after (meets_token _) (meets_before (meets_maybe e) (meets_token _))
  meets_stmt_node (tree.Value e) = meets_before (meets_not_before "{" (meets any_expr e)) (meets_token _)
  meets_stmt_node (tree.Block ss) = meets_row ss
  meets_stmt_node tree.Empty = meets_token _

mutual
  unfolding expr_at stmt_at

  pub meets_expr : (h l : ℕ) (e : ExprTree) → Meets (names_met e) (expr_at h l e)
  meets_expr zero l e = meets_never (names_met e)
  meets_expr (suc h) l e =
      meets_either (meets_given (meets_node h (expr_at h) (stmt_at h) (meets_expr h) (meets_stmt h) e))
      (meets_after (meets_token _) (meets_before (meets_expr h any_expr e) (meets_token _)))

  pub meets_stmt : (h : ℕ) (s : StmtTree) → Meets (stmt_met s) (stmt_at h s)
  meets_stmt zero s = meets_never (stmt_met s)
  meets_stmt (suc h) s = meets_stmt_node h (expr_at h) (stmt_at h) (meets_expr h) (meets_stmt h) s

-- How many tokens expressions and statements consume.
use Rattle.std.proofs.Common.{ℕ, zero, suc, ◌+◌, ◌<◌, ◌≤◌, List, [], ◌∷◌, length, Option, Some, None, ap, inl, inr, arith}
use Rattle.dscript_lex.specs.declared.token.TokenKind.{TokenKind}
use Rattle.dscript_ast.specs.TypeTree.{TypeTree}
use Rattle.dscript_grammar.specs.TypeGrammar.{any_type}
use Rattle.dscript_ast.specs.ExprTree.{ParamTree, HeadTree, Single, Params, ExprTree, Arrow, BlockArrow, Cond, Chain, Unary, Postfix, Number, Str, True, False, Undefined, Template, Path, Name, Elements, Object, OperandTree, Operand, PartTree, Member, Index, Call, ElementTree, Element, PropTree, Named, Quoted, Short, Spread, HoleTree, Hole, StmtTree, Const, Let, Assign, If, For, Return, Value, Block, Empty, no_stmt, a_stmt, expr_of, exprs_of, operands_of, parts_of, elements_of, props_of, holes_of, stmts_of}
use Rattle.dscript_grammar.specs.ExprGrammar.{any_expr, or_expr, postfix_expr, primary_expr, prefix, letter, loop_keyword, type_note, param, params, head, operand, chain, part, holes, template, element, prop, block, expr_node, value, stmt_node, expr_at, stmt_at}
use Rattle.dscript_ast.specs.declared.expr.LoopKind.{LoopKind}
use Rattle.dscript_ast.specs.declared.expr.LoopKind.TheVariants as loops
use Rattle.dscript_ast.specs.declared.expr.PathKind.{PathKind}
use Rattle.dscript_ast.specs.declared.expr.PathKind.TheVariants as letters
use Rattle.dscript_ast.specs.declared.operator.UnaryOp.{UnaryOp}
use Rattle.dscript_ast.specs.declared.operator.UnaryOp.TheVariants as unary
use Rattle.dscript_grammar.specs.Language.{Language, optional}
use Rattle.dscript_grammar.proofs.Combinators.{NotLonger, Consumes, token_consumes, identifier_consumes, not_longer, consumes_then, not_longer_then, then_consumes, flag_not_longer, many_not_longer, list_not_longer}
use Rattle.dscript_grammar.proofs.TypeComplete.{nothing_not_longer, type_consumes}

pub optional_not_longer : {X : Type 0} (L : X → Language) → ((a : X) → Consumes (L a)) → (o : Option X) → NotLonger (optional L o)
optional_not_longer L consumes None ts rest e = nothing_not_longer ts rest e
optional_not_longer L consumes (Some a) ts rest p = not_longer (consumes a) ts rest p

pub note_consumes : (h : ℕ) (t : TypeTree) → Consumes (type_note h t)
note_consumes h t ts rest p = consumes_then (token_consumes _) (not_longer (type_consumes h any_type t)) ts rest p

pub param_consumes : (h : ℕ) (p : ParamTree) → Consumes (param h p)
param_consumes h q ts rest p = consumes_then (identifier_consumes q.name) (not_longer_then (flag_not_longer "?" q.optional) (optional_not_longer (type_note h) (note_consumes h) q.type_node)) ts rest p

pub params_consumes : (h : ℕ) (ps : List ParamTree) → Consumes (params h ps)
params_consumes h ps ts rest p = consumes_then (token_consumes _) (not_longer_then (list_not_longer (param h) (param_consumes h) ps) (not_longer (token_consumes _))) ts rest p

pub head_consumes : (h : ℕ) (x : HeadTree) → Consumes (head h x)
head_consumes h (Single x) ts rest p = identifier_consumes x ts rest p
head_consumes h (Params ps) ts rest p = params_consumes h ps ts rest p

pub prefix_consumes : (s : UnaryOp) → Consumes (prefix s)
prefix_consumes unary.Not ts rest p = token_consumes _ ts rest p
prefix_consumes unary.Negate ts rest p = token_consumes _ ts rest p

letter_consumes : (k : PathKind) → Consumes (letter k)
letter_consumes letters.Path ts rest p = token_consumes _ ts rest p
letter_consumes letters.File ts rest p = token_consumes _ ts rest p
letter_consumes letters.Directory ts rest p = token_consumes _ ts rest p
letter_consumes letters.Relative ts rest p = token_consumes _ ts rest p
letter_consumes letters.Atom ts rest p = token_consumes _ ts rest p

loop_keyword_consumes : (k : LoopKind) → Consumes (loop_keyword k)
loop_keyword_consumes loops.Const ts rest p = token_consumes _ ts rest p
loop_keyword_consumes loops.Let ts rest p = token_consumes _ ts rest p

module _ (h : ℕ) (expr : ℕ → ExprTree → Language) (stmt : StmtTree → Language)
    (consumes : (l : ℕ) (e : ExprTree) → Consumes (expr l e)) (consumes_stmt : (s : StmtTree) → Consumes (stmt s)) where
  pub operand_consumes : (level tighter : ℕ) (o : OperandTree) → Consumes (operand h expr stmt level tighter o)
  operand_consumes level tighter (Operand op e) ts rest p = consumes_then (token_consumes _) (not_longer (consumes tighter e)) ts rest p.1

  chain_consumes : (level : ℕ) (e : ExprTree) (os : List OperandTree) → Consumes (chain h expr stmt level e os)
  chain_consumes zero e os ts rest p = absurd p
  chain_consumes (suc k) e os ts rest p = consumes_then (consumes k e) (many_not_longer (operand h expr stmt (suc k) k) (operand_consumes (suc k) k) os) ts rest p.1

  pub part_consumes : (p : PartTree) → Consumes (part h expr stmt p)
  part_consumes (Member x) ts rest p = consumes_then (token_consumes _) (not_longer (token_consumes _)) ts rest p
  part_consumes (Index e) ts rest p = consumes_then (token_consumes _) (not_longer (consumes_then (consumes any_expr e) (not_longer (token_consumes _)))) ts rest p
  part_consumes (Call row) ts rest p = consumes_then (token_consumes _) (not_longer_then (list_not_longer (expr any_expr) (consumes any_expr) (exprs_of row)) (not_longer (token_consumes _))) ts rest p

  holes_consumes : (hs : List HoleTree) → Consumes (holes h expr stmt hs)
  holes_consumes [] ts rest p = absurd p
  holes_consumes (Hole e text ∷ []) ts rest p = consumes_then (consumes any_expr e) (not_longer (token_consumes _)) ts rest p
  holes_consumes (Hole e text ∷ next ∷ more) ts rest p = consumes_then (consumes any_expr e) (not_longer (consumes_then (token_consumes _) (not_longer (holes_consumes (next ∷ more))))) ts rest p

  pub holes_count : (hs : List HoleTree) (ts rest : List TokenKind) → holes h expr stmt hs ts rest → length hs + length rest ≤ length ts
  holes_count [] ts rest p = absurd p
  holes_count (Hole e text ∷ []) ts rest (mid, p, q) = let l : length mid < length ts = consumes any_expr e ts mid p in omega (arith, ap length q)
  holes_count (Hole e text ∷ next ∷ more) ts rest (mid, p, (after, q, r)) =
      let l : length mid < length ts = consumes any_expr e ts mid p in omega (arith, ap length q, holes_count (next ∷ more) after rest r)

  template_consumes : (x : List ℕ) (hs : List HoleTree) → Consumes (template h expr stmt x hs)
  template_consumes x [] ts rest p = token_consumes _ ts rest p
  template_consumes x (y ∷ ys) ts rest p = consumes_then (token_consumes _) (not_longer (holes_consumes (y ∷ ys))) ts rest p

  pub element_consumes : (x : ElementTree) → Consumes (element h expr stmt x)
  element_consumes (Element spread e) ts rest p = then_consumes (flag_not_longer "..." spread) (consumes any_expr e) ts rest p

  pub prop_consumes : (x : PropTree) → Consumes (prop h expr stmt x)
  prop_consumes (Named x e) ts rest p = consumes_then (token_consumes _) (not_longer (consumes_then (token_consumes _) (not_longer (consumes any_expr e)))) ts rest p
  prop_consumes (Quoted x e) ts rest p = consumes_then (token_consumes _) (not_longer (consumes_then (token_consumes _) (not_longer (consumes any_expr e)))) ts rest p
  prop_consumes (Short x) ts rest p = identifier_consumes x ts rest p
  prop_consumes (Spread e) ts rest p = consumes_then (token_consumes _) (not_longer (consumes any_expr e)) ts rest p

  block_consumes : (ss : List StmtTree) → Consumes (block h expr stmt ss)
  block_consumes ss ts rest p = consumes_then (token_consumes _) (not_longer_then (many_not_longer stmt consumes_stmt ss) (not_longer (token_consumes _))) ts rest p

  value_consumes : (e : ExprTree) → Consumes (value h expr stmt e)
  value_consumes e ts rest p = consumes_then (token_consumes _) (not_longer (consumes any_expr e)) ts rest p

  node_consumes : (e : ExprTree) → Consumes (expr_node h expr stmt e)
  node_consumes (Arrow x body) ts rest (m, p, (m2, q, r)) = consumes_then (head_consumes h x) (not_longer (consumes_then (token_consumes _) (not_longer (consumes any_expr body)))) ts rest (m, p, (m2, q, r.1))
  node_consumes (BlockArrow x row) ts rest p = consumes_then (head_consumes h x) (not_longer (consumes_then (token_consumes _) (not_longer (block_consumes (stmts_of row))))) ts rest p
  node_consumes (Cond c a b) ts rest p =
      consumes_then (consumes or_expr c) (not_longer (consumes_then (token_consumes _) (not_longer (consumes_then (consumes any_expr a) (not_longer (consumes_then (token_consumes _) (not_longer (consumes any_expr b)))))))) ts rest p
  node_consumes (Chain level e row) ts rest p = chain_consumes level e (operands_of row) ts rest p.1
  node_consumes (Unary ops e) ts rest p = then_consumes (many_not_longer prefix prefix_consumes ops) (consumes postfix_expr e) ts rest p.1
  node_consumes (Postfix e row) ts rest p = consumes_then (consumes primary_expr e) (many_not_longer (part h expr stmt) part_consumes (parts_of row)) ts rest p.1
  node_consumes (Number n) ts rest p = token_consumes _ ts rest p
  node_consumes (Str s) ts rest p = token_consumes _ ts rest p
  node_consumes True ts rest p = token_consumes _ ts rest p
  node_consumes False ts rest p = token_consumes _ ts rest p
  node_consumes Undefined ts rest p = token_consumes _ ts rest p
  node_consumes (Template x row) ts rest p = template_consumes x (holes_of row) ts rest p
  node_consumes (Path k x row) ts rest p = consumes_then (letter_consumes k) (not_longer (template_consumes x (holes_of row))) ts rest p
  node_consumes (Name x) ts rest p = identifier_consumes x ts rest p
  node_consumes (Elements row) ts rest p = consumes_then (token_consumes _) (not_longer_then (list_not_longer (element h expr stmt) element_consumes (elements_of row)) (not_longer (token_consumes _))) ts rest p
  node_consumes (Object row) ts rest p = consumes_then (token_consumes _) (not_longer_then (list_not_longer (prop h expr stmt) prop_consumes (props_of row)) (not_longer (token_consumes _))) ts rest p

  stmt_node_consumes : (s : StmtTree) → Consumes (stmt_node h expr stmt s)
  stmt_node_consumes (Const x t e) ts rest p =
      consumes_then (token_consumes _) (not_longer (consumes_then (identifier_consumes x) (not_longer_then (optional_not_longer (type_note h) (note_consumes h) t) (not_longer (consumes_then (value_consumes e) (not_longer (token_consumes _))))))) ts rest p
  stmt_node_consumes (Let x t e) ts rest p =
      consumes_then (token_consumes _) (not_longer (consumes_then (identifier_consumes x) (not_longer_then (optional_not_longer (type_note h) (note_consumes h) t) (not_longer_then (optional_not_longer (value h expr stmt) value_consumes (expr_of e)) (not_longer (token_consumes _)))))) ts rest p
  stmt_node_consumes (Assign x e) ts rest p = consumes_then (identifier_consumes x) (not_longer (consumes_then (value_consumes e) (not_longer (token_consumes _)))) ts rest p
  stmt_node_consumes (If c s no_stmt) ts rest p =
      consumes_then (token_consumes _) (not_longer (consumes_then (token_consumes _) (not_longer (consumes_then (consumes any_expr c) (not_longer (consumes_then (token_consumes _) (not_longer (consumes_stmt s)))))))) ts rest p
  stmt_node_consumes (If c s (a_stmt other)) ts rest p =
      consumes_then (token_consumes _) (not_longer (consumes_then (token_consumes _) (not_longer (consumes_then (consumes any_expr c) (not_longer (consumes_then (token_consumes _) (not_longer (consumes_then (consumes_stmt s) (not_longer (consumes_then (token_consumes _) (not_longer (consumes_stmt other)))))))))))) ts rest p.1
  stmt_node_consumes (For k x e s) ts rest p =
      consumes_then (token_consumes _) (not_longer (consumes_then (token_consumes _) (not_longer (consumes_then (loop_keyword_consumes k) (not_longer (consumes_then (identifier_consumes x) (not_longer (consumes_then (token_consumes _) (not_longer (consumes_then (consumes any_expr e)
      (not_longer (consumes_then (token_consumes _) (not_longer (consumes_stmt s)))))))))))))) ts rest p
  stmt_node_consumes (Return e) ts rest p = consumes_then (token_consumes _) (not_longer_then (optional_not_longer (expr any_expr) (consumes any_expr) (expr_of e)) (not_longer (token_consumes _))) ts rest p
  stmt_node_consumes (Value e) ts rest (m, p, q) = consumes_then (consumes any_expr e) (not_longer (token_consumes _)) ts rest (m, p.1, q)
  stmt_node_consumes (Block row) ts rest p = block_consumes (stmts_of row) ts rest p
  stmt_node_consumes Empty ts rest p = token_consumes _ ts rest p

mutual
  unfolding expr_at stmt_at

  pub expr_consumes : (h l : ℕ) (e : ExprTree) → Consumes (expr_at h l e)
  expr_consumes zero l e ts rest p = absurd p
  expr_consumes (suc h) l e ts rest (inl p) = node_consumes h (expr_at h) (stmt_at h) (expr_consumes h) (stmt_consumes h) e ts rest p.1
  expr_consumes (suc h) l e ts rest (inr p) = consumes_then (token_consumes _) (not_longer (consumes_then (expr_consumes h any_expr e) (not_longer (token_consumes _)))) ts rest p

  pub stmt_consumes : (h : ℕ) (s : StmtTree) → Consumes (stmt_at h s)
  stmt_consumes zero s ts rest p = absurd p
  stmt_consumes (suc h) s ts rest p = stmt_node_consumes h (expr_at h) (stmt_at h) (expr_consumes h) (stmt_consumes h) s ts rest p

-- The rules are context free: what a rule derives at the start of some tokens, it derives before any other tokens too.
use Prim.Native.String.{String as Letters}
use Rattle.std.proofs.Common.{◌≡◌, ℕ, zero, suc, ◌<◌, Bool, true, false, List, [], ◌∷◌, ◌++◌, append_assoc, length, Option, Some, None, codes, refl, ap, sym, ◌∙◌, subst, inl, inr, arith}
use Rattle.dscript_lex.specs.declared.token.TokenKind.{TokenKind}
use Rattle.dscript_lex.specs.declared.token.TokenKind.TheVariants as kinds
use Rattle.dscript_ast.specs.TypeTree.{TypeTree, Union, Array, Named as TypeNamed, Str as TypeStr, Number as TypeNumber, Undefined as TypeUndefined, True as TypeTrue, False as TypeFalse, Body, Function as TypeFunction, FieldTree, Field, MemberTree, Property, Method, TypeTrees, no_types, more_types, types_of, fields_of, members_of}
use Rattle.dscript_ast.specs.ExprTree.{ParamTree, HeadTree, Single, Params, ExprTree, Arrow, BlockArrow, Cond, Chain, Unary, Postfix, Number, Str, True, False, Undefined, Template, Path, Name, Elements, Object, OperandTree, Operand, PartTree, Member, Index, Call, ElementTree, Element, PropTree, Named, Quoted, Short, Spread, HoleTree, Hole, StmtTree, Const, Let, Assign, If, For, Return, Value, Block, Empty, no_stmt, a_stmt, expr_of, exprs_of, operands_of, parts_of, elements_of, props_of, holes_of, stmts_of}
use Rattle.dscript_ast.specs.FileTree as files
use Rattle.dscript_ast.specs.FileTree.{MarkedTree, Marked, DeclTree, marked_of, ImportTree, ItemTree}
use Rattle.dscript_ast.specs.declared.expr.LoopKind.{LoopKind}
use Rattle.dscript_ast.specs.declared.expr.LoopKind.TheVariants as loops
use Rattle.dscript_ast.specs.declared.expr.PathKind.{PathKind}
use Rattle.dscript_ast.specs.declared.expr.PathKind.TheVariants as letters
use Rattle.dscript_ast.specs.declared.file.Mark.{Mark}
use Rattle.dscript_ast.specs.declared.file.Mark.TheVariants as marks
use Rattle.dscript_ast.specs.declared.operator.UnaryOp.{UnaryOp}
use Rattle.dscript_grammar.specs.Language.{Language, nothing, token, keyword, identifier, string, ◌⋅◌, either, given, only_if, optional, many, times, separated, list, not_before}
use Rattle.dscript_grammar.specs.TypeGrammar.{any_type, last_type, earlier_type, base_type, union, arguments, field, member, member_end, body, type_node, type_at}
use Rattle.dscript_grammar.specs.ExprGrammar.{any_expr, or_expr, postfix_expr, primary_expr, prefix, letter, loop_keyword, type_note, param, params, head, operand, chain, part, holes, template, element, prop, block, expr_node, value, stmt_node, expr_at, stmt_at}
use Rattle.dscript_grammar.specs.FileGrammar.{import_name, mark, type_params, extends, block_at, decl_node, marked_at, item_at}
use Rattle.dscript_grammar.proofs.Combinators.{Consumes}
use Rattle.dscript_grammar.proofs.ExprLengths.{expr_consumes}

-- the tokens that A derives at the start of ts, and that it derives them before any others
pub record Span (A : Language) (ts rest : List TokenKind) : Type 0 where
  pub tokens : List TokenKind
  pub split : ts ≡ tokens ++ rest
  pub derived : (more : List TokenKind) → A (tokens ++ more) more

abbrev pub ContextFree : Language → Type 0
ContextFree A = (ts rest : List TokenKind) → A ts rest → Span A ts rest

nothing_free : ContextFree nothing
nothing_free ts rest e = record { tokens = []; split = e; derived = λ more. refl }

token_free : (t : TokenKind) → ContextFree (token t)
token_free t ts rest e = record { tokens = t ∷ []; split = e; derived = λ more. refl }

identifier_free : (w : List ℕ) → ContextFree (identifier w)
identifier_free w ts rest e = record { tokens = kinds.Word w ∷ []; split = e.0; derived = λ more. (refl, e.1) }

then_free : {A B : Language} → ContextFree A → ContextFree B → ContextFree (A ⋅ B)
then_free {A = A} a b ts rest (mid, p, q) =
    let x = a ts mid p in let y = b mid rest q in
    record {
      tokens = x.tokens ++ y.tokens;
      split = x.split ∙ ap (λ zs. x.tokens ++ zs) y.split ∙ sym (append_assoc x.tokens y.tokens rest);
      derived = λ more. (y.tokens ++ more, subst (λ (zs : List TokenKind). A zs (y.tokens ++ more)) (sym (append_assoc x.tokens y.tokens more)) (x.derived (y.tokens ++ more)), y.derived more);
    }

either_free : {A B : Language} → ContextFree A → ContextFree B → ContextFree (either A B)
either_free a b ts rest (inl p) = let x = a ts rest p in record { tokens = x.tokens; split = x.split; derived = λ more. inl (x.derived more) }
either_free a b ts rest (inr p) = let x = b ts rest p in record { tokens = x.tokens; split = x.split; derived = λ more. inr (x.derived more) }

given_free : {P : Type 0} {A : Language} → ContextFree A → ContextFree (given P A)
given_free a ts rest p = let x = a ts rest p.1 in record { tokens = x.tokens; split = x.split; derived = λ more. (p.0, x.derived more) }

only_if_free : (b : Bool) (t : TokenKind) → ContextFree (only_if b (token t))
only_if_free true t ts rest p = token_free t ts rest p
only_if_free false t ts rest p = nothing_free ts rest p

first : TokenKind → List TokenKind → TokenKind
first t [] = t
first t (u ∷ us) = u

-- a rule that looks at its first token, where it has one
not_before_free : (s : Letters) {A : Language} → ContextFree A → Consumes A → ContextFree (not_before s A)
unfolding first
not_before_free s {A = A} a consumes ts rest p =
    let x = a ts rest p.1 in by x.tokens x.split x.derived
  where
    by : (us : List TokenKind) → ts ≡ us ++ rest → ((more : List TokenKind) → A (us ++ more) more) → Span (not_before s A) ts rest
    by [] e d = let l : length rest < length ts = consumes ts rest p.1 in absurd (omega (arith, ap length e))
    by (t ∷ us) e d = record {
      tokens = t ∷ us;
      split = e;
      derived = λ more. ((λ m q. p.0 (us ++ rest) (e ∙ ap (λ u. u ∷ (us ++ rest)) (ap (first t) q))), d more);
    }

module _ {X : Type 0} (L : X → Language) (free : (a : X) → ContextFree (L a)) where
  optional_free : (o : Option X) → ContextFree (optional L o)
  optional_free None ts rest p = nothing_free ts rest p
  optional_free (Some a) ts rest p = free a ts rest p

  many_free : (xs : List X) → ContextFree (many L xs)
  many_free [] ts rest p = nothing_free ts rest p
  many_free (a ∷ more) ts rest p = then_free (free a) (many_free more) ts rest p

  separated_free : (s : Letters) (xs : List X) → ContextFree (separated s L xs)
  separated_free s [] ts rest p = absurd p
  separated_free s (a ∷ []) ts rest p = free a ts rest p
  separated_free s (a ∷ b ∷ more) ts rest p = then_free (free a) (then_free (token_free _) (separated_free s (b ∷ more))) ts rest p

  list_free : (xs : List X) → ContextFree (list L xs)
  list_free [] ts rest p = nothing_free ts rest p
  list_free (a ∷ []) ts rest p = then_free (free a) (either_free (token_free _) nothing_free) ts rest p
  list_free (a ∷ b ∷ more) ts rest p = then_free (free a) (then_free (token_free _) (list_free (b ∷ more))) ts rest p

-- types
member_end_free : ContextFree member_end
member_end_free ts rest p = either_free (token_free _) (either_free (token_free _) nothing_free) ts rest p

module _ (type : ℕ → TypeTree → Language) (free : (l : ℕ) (t : TypeTree) → ContextFree (type l t)) where
  union_free : (xs : List TypeTree) → ContextFree (union type xs)
  union_free [] ts rest p = absurd p
  union_free (t ∷ []) ts rest p = free last_type t ts rest p
  union_free (t ∷ u ∷ more) ts rest p = then_free (free earlier_type t) (then_free (token_free _) (union_free (u ∷ more))) ts rest p

  arguments_free : (args : TypeTrees) → ContextFree (arguments type args)
  arguments_free no_types ts rest p = nothing_free ts rest p
  arguments_free (more_types t more) ts rest p =
      then_free (token_free _) (then_free (separated_free (type any_type) (free any_type) "," (t ∷ types_of more)) (token_free _)) ts rest p

  field_free : (f : FieldTree) → ContextFree (field type f)
  field_free (Field x o t) ts rest p = then_free (identifier_free x) (then_free (only_if_free o _) (then_free (token_free _) (free any_type t))) ts rest p

  fields_free : (fs : List FieldTree) → ContextFree (list (field type) fs)
  fields_free fs ts rest p = list_free (field type) field_free fs ts rest p

  member_free : (m : MemberTree) → ContextFree (member type m)
  member_free (Property x o t) ts rest p = then_free (token_free _) (then_free (only_if_free o _) (then_free (token_free _) (free any_type t))) ts rest p
  member_free (Method x o fs t) ts rest p =
      then_free (token_free _) (then_free (only_if_free o _) (then_free (token_free _) (then_free (fields_free (fields_of fs)) (then_free (token_free _) (then_free (token_free _) (free any_type t)))))) ts rest p

  ended_free : (m : MemberTree) → ContextFree (member type m ⋅ member_end)
  ended_free m ts rest p = then_free (member_free m) member_end_free ts rest p

  body_free : (ms : List MemberTree) → ContextFree (body type ms)
  body_free ms ts rest p = then_free (token_free _) (then_free (many_free (λ m. member type m ⋅ member_end) ended_free ms) (token_free _)) ts rest p

  brackets_free : (n : ℕ) → ContextFree (times n (token (kinds.Punct (codes "[")) ⋅ token (kinds.Punct (codes "]"))))
  brackets_free zero ts rest p = nothing_free ts rest p
  brackets_free (suc n) ts rest p = then_free (then_free (token_free _) (token_free _)) (brackets_free n) ts rest p

  type_node_free : (t : TypeTree) → ContextFree (type_node type t)
  type_node_free (Union row) ts rest p = given_free (union_free (types_of row)) ts rest p
  type_node_free (Array t n) ts rest p = given_free (then_free (free base_type t) (brackets_free n)) ts rest p
  type_node_free (TypeNamed xs args) ts rest p = then_free (separated_free identifier identifier_free "." xs) (arguments_free args) ts rest p
  type_node_free (TypeStr s) ts rest p = token_free _ ts rest p
  type_node_free (TypeNumber n) ts rest p = token_free _ ts rest p
  type_node_free TypeUndefined ts rest p = token_free _ ts rest p
  type_node_free TypeTrue ts rest p = token_free _ ts rest p
  type_node_free TypeFalse ts rest p = token_free _ ts rest p
  type_node_free (Body row) ts rest p = body_free (members_of row) ts rest p
  type_node_free (TypeFunction fs t) ts rest p =
      then_free (token_free _) (then_free (fields_free (fields_of fs)) (then_free (token_free _) (then_free (token_free _) (free any_type t)))) ts rest p

type_free : (h l : ℕ) (t : TypeTree) → ContextFree (type_at h l t)
unfolding type_at
type_free zero l t ts rest p = absurd p
type_free (suc h) l t ts rest p =
    either_free (given_free (type_node_free (type_at h) (type_free h) t)) (then_free (token_free _) (then_free (type_free h any_type t) (token_free _))) ts rest p

-- expressions and statements
note_free : (h : ℕ) (t : TypeTree) → ContextFree (type_note h t)
note_free h t ts rest p = then_free (token_free _) (type_free h any_type t) ts rest p

notes_free : (h : ℕ) (o : Option TypeTree) → ContextFree (optional (type_note h) o)
notes_free h o ts rest p = optional_free (type_note h) (note_free h) o ts rest p

param_free : (h : ℕ) (x : ParamTree) → ContextFree (param h x)
param_free h x ts rest p = then_free (identifier_free x.name) (then_free (only_if_free x.optional _) (notes_free h x.type_node)) ts rest p

params_free : (h : ℕ) (xs : List ParamTree) → ContextFree (params h xs)
params_free h xs ts rest p = then_free (token_free _) (then_free (list_free (param h) (param_free h) xs) (token_free _)) ts rest p

head_free : (h : ℕ) (x : HeadTree) → ContextFree (head h x)
head_free h (Single x) ts rest p = identifier_free x ts rest p
head_free h (Params xs) ts rest p = params_free h xs ts rest p

prefix_free : (op : UnaryOp) → ContextFree (prefix op)
prefix_free op ts rest p = token_free _ ts rest p

letter_free : (k : PathKind) → ContextFree (letter k)
letter_free letters.Path ts rest p = token_free _ ts rest p
letter_free letters.File ts rest p = token_free _ ts rest p
letter_free letters.Directory ts rest p = token_free _ ts rest p
letter_free letters.Relative ts rest p = token_free _ ts rest p
letter_free letters.Atom ts rest p = token_free _ ts rest p

loop_keyword_free : (k : LoopKind) → ContextFree (loop_keyword k)
loop_keyword_free loops.Const ts rest p = token_free _ ts rest p
loop_keyword_free loops.Let ts rest p = token_free _ ts rest p

module _ (h : ℕ) (expr : ℕ → ExprTree → Language) (stmt : StmtTree → Language)
    (consumes : (l : ℕ) (e : ExprTree) → Consumes (expr l e)) (free : (l : ℕ) (e : ExprTree) → ContextFree (expr l e)) (free_stmt : (s : StmtTree) → ContextFree (stmt s)) where
  any_free : (e : ExprTree) → ContextFree (expr any_expr e)
  any_free e ts rest p = free any_expr e ts rest p

  operand_free : (level tighter : ℕ) (o : OperandTree) → ContextFree (operand h expr stmt level tighter o)
  operand_free level tighter (Operand op e) ts rest p = given_free (then_free (token_free _) (free tighter e)) ts rest p

  chain_free : (level : ℕ) (e : ExprTree) (os : List OperandTree) → ContextFree (chain h expr stmt level e os)
  chain_free zero e os ts rest p = absurd p
  chain_free (suc k) e os ts rest p = given_free (then_free (free k e) (many_free (operand h expr stmt (suc k) k) (operand_free (suc k) k) os)) ts rest p

  part_free : (x : PartTree) → ContextFree (part h expr stmt x)
  part_free (Member x) ts rest p = then_free (token_free _) (token_free _) ts rest p
  part_free (Index e) ts rest p = then_free (token_free _) (then_free (any_free e) (token_free _)) ts rest p
  part_free (Call row) ts rest p = then_free (token_free _) (then_free (list_free (expr any_expr) any_free (exprs_of row)) (token_free _)) ts rest p

  holes_free : (hs : List HoleTree) → ContextFree (holes h expr stmt hs)
  holes_free [] ts rest p = absurd p
  holes_free (Hole e text ∷ []) ts rest p = then_free (any_free e) (token_free _) ts rest p
  holes_free (Hole e text ∷ next ∷ more) ts rest p = then_free (any_free e) (then_free (token_free _) (holes_free (next ∷ more))) ts rest p

  template_free : (x : List ℕ) (hs : List HoleTree) → ContextFree (template h expr stmt x hs)
  template_free x [] ts rest p = token_free _ ts rest p
  template_free x (y ∷ ys) ts rest p = then_free (token_free _) (holes_free (y ∷ ys)) ts rest p

  element_free : (x : ElementTree) → ContextFree (element h expr stmt x)
  element_free (Element spread e) ts rest p = then_free (only_if_free spread _) (any_free e) ts rest p

  prop_free : (x : PropTree) → ContextFree (prop h expr stmt x)
  prop_free (Named x e) ts rest p = then_free (token_free _) (then_free (token_free _) (any_free e)) ts rest p
  prop_free (Quoted x e) ts rest p = then_free (token_free _) (then_free (token_free _) (any_free e)) ts rest p
  prop_free (Short x) ts rest p = identifier_free x ts rest p
  prop_free (Spread e) ts rest p = then_free (token_free _) (any_free e) ts rest p

  block_free : (ss : List StmtTree) → ContextFree (block h expr stmt ss)
  block_free ss ts rest p = then_free (token_free _) (then_free (many_free stmt free_stmt ss) (token_free _)) ts rest p

  value_free : (e : ExprTree) → ContextFree (value h expr stmt e)
  value_free e ts rest p = then_free (token_free _) (any_free e) ts rest p

  unbraced_free : (e : ExprTree) → ContextFree (not_before "{" (expr any_expr e))
  unbraced_free e ts rest p = not_before_free "{" (any_free e) (consumes any_expr e) ts rest p

  expr_node_free : (e : ExprTree) → ContextFree (expr_node h expr stmt e)
  expr_node_free (Arrow x e) ts rest p = then_free (head_free h x) (then_free (token_free _) (unbraced_free e)) ts rest p
  expr_node_free (BlockArrow x row) ts rest p = then_free (head_free h x) (then_free (token_free _) (block_free (stmts_of row))) ts rest p
  expr_node_free (Cond c a b) ts rest p =
      then_free (free or_expr c) (then_free (token_free _) (then_free (any_free a) (then_free (token_free _) (any_free b)))) ts rest p
  expr_node_free (Chain level e row) ts rest p = given_free (chain_free level e (operands_of row)) ts rest p
  expr_node_free (Unary ops e) ts rest p = given_free (then_free (many_free prefix prefix_free ops) (free postfix_expr e)) ts rest p
  expr_node_free (Postfix e row) ts rest p = given_free (then_free (free primary_expr e) (many_free (part h expr stmt) part_free (parts_of row))) ts rest p
  expr_node_free (Number n) ts rest p = token_free _ ts rest p
  expr_node_free (Str s) ts rest p = token_free _ ts rest p
  expr_node_free True ts rest p = token_free _ ts rest p
  expr_node_free False ts rest p = token_free _ ts rest p
  expr_node_free Undefined ts rest p = token_free _ ts rest p
  expr_node_free (Template x row) ts rest p = template_free x (holes_of row) ts rest p
  expr_node_free (Path k x row) ts rest p = then_free (letter_free k) (template_free x (holes_of row)) ts rest p
  expr_node_free (Name x) ts rest p = identifier_free x ts rest p
  expr_node_free (Elements row) ts rest p = then_free (token_free _) (then_free (list_free (element h expr stmt) element_free (elements_of row)) (token_free _)) ts rest p
  expr_node_free (Object row) ts rest p = then_free (token_free _) (then_free (list_free (prop h expr stmt) prop_free (props_of row)) (token_free _)) ts rest p

  -- "(" expression ")", and what a statement has after it
  tested_free : (e : ExprTree) {B : Language} → ContextFree B → ContextFree (token (kinds.Punct (codes "(")) ⋅ expr any_expr e ⋅ token (kinds.Punct (codes ")")) ⋅ B)
  tested_free e b ts rest p = then_free (token_free _) (then_free (any_free e) (then_free (token_free _) b)) ts rest p

  stmt_node_free : (s : StmtTree) → ContextFree (stmt_node h expr stmt s)
  stmt_node_free (Const x t e) ts rest p =
      then_free (token_free _) (then_free (identifier_free x) (then_free (notes_free h t) (then_free (value_free e) (token_free _)))) ts rest p
  stmt_node_free (Let x t e) ts rest p =
      then_free (token_free _) (then_free (identifier_free x) (then_free (notes_free h t) (then_free (optional_free (value h expr stmt) value_free (expr_of e)) (token_free _)))) ts rest p
  stmt_node_free (Assign x e) ts rest p = then_free (identifier_free x) (then_free (value_free e) (token_free _)) ts rest p
  stmt_node_free (If c s no_stmt) ts rest p = then_free (token_free _) (tested_free c (free_stmt s)) ts rest p
  stmt_node_free (If c s (a_stmt other)) ts rest p =
      given_free (then_free (token_free _) (tested_free c (then_free (free_stmt s) (then_free (token_free _) (free_stmt other))))) ts rest p
  stmt_node_free (For k x e s) ts rest p =
      then_free (token_free _) (then_free (token_free _) (then_free (loop_keyword_free k) (then_free (identifier_free x) (then_free (token_free _) (then_free (any_free e)
      (then_free (token_free _) (free_stmt s))))))) ts rest p
  stmt_node_free (Return e) ts rest p = then_free (token_free _) (then_free (optional_free (expr any_expr) any_free (expr_of e)) (token_free _)) ts rest p
  stmt_node_free (Value e) ts rest p = then_free (unbraced_free e) (token_free _) ts rest p
  stmt_node_free (Block row) ts rest p = block_free (stmts_of row) ts rest p
  stmt_node_free Empty ts rest p = token_free _ ts rest p

mutual
  unfolding expr_at stmt_at

  expr_free : (h l : ℕ) (e : ExprTree) → ContextFree (expr_at h l e)
  expr_free zero l e ts rest p = absurd p
  expr_free (suc h) l e ts rest p =
      either_free (given_free (expr_node_free h (expr_at h) (stmt_at h) (expr_consumes h) (expr_free h) (stmt_free h) e))
      (then_free (token_free _) (then_free (expr_free h any_expr e) (token_free _))) ts rest p

  stmt_free : (h : ℕ) (s : StmtTree) → ContextFree (stmt_at h s)
  stmt_free zero s ts rest p = absurd p
  stmt_free (suc h) s ts rest p = stmt_node_free h (expr_at h) (stmt_at h) (expr_consumes h) (expr_free h) (stmt_free h) s ts rest p

-- declarations and items
alias_free : (o : Option (List ℕ)) → ContextFree (optional (λ x. keyword "as" ⋅ identifier x) o)
alias_free o ts rest p = optional_free (λ x. keyword "as" ⋅ identifier x) (λ x us vs q. then_free (token_free _) (identifier_free x) us vs q) o ts rest p

import_name_free : (i : ImportTree) → ContextFree (import_name i)
import_name_free i ts rest p = then_free (identifier_free i.name) (alias_free i.alias) ts rest p

mark_free : (m : Mark) → ContextFree (mark m)
mark_free marks.Plain ts rest p = nothing_free ts rest p
mark_free marks.Export ts rest p = token_free _ ts rest p
mark_free marks.Public ts rest p = then_free (token_free _) (then_free (token_free _) (token_free _)) ts rest p

type_params_free : (xs : List (List ℕ)) → ContextFree (type_params xs)
type_params_free [] ts rest p = nothing_free ts rest p
type_params_free (x ∷ more) ts rest p = then_free (token_free _) (then_free (separated_free identifier identifier_free "," (x ∷ more)) (token_free _)) ts rest p

extends_free : (h : ℕ) (xs : List TypeTree) → ContextFree (extends h xs)
extends_free h [] ts rest p = nothing_free ts rest p
extends_free h (x ∷ more) ts rest p = then_free (token_free _) (separated_free (type_at h any_type) (type_free h any_type) "," (x ∷ more)) ts rest p

block_at_free : (h : ℕ) (ss : List StmtTree) → ContextFree (block_at h ss)
block_at_free h ss ts rest p = then_free (token_free _) (then_free (many_free (stmt_at h) (stmt_free h) ss) (token_free _)) ts rest p

module _ (h : ℕ) (marked : MarkedTree → Language) (free : (m : MarkedTree) → ContextFree (marked m)) where
  decl_free : (d : DeclTree) → ContextFree (decl_node h marked d)
  decl_free (files.Const x t e) ts rest p =
      then_free (token_free _) (then_free (identifier_free x) (then_free (notes_free h t) (then_free (token_free _) (then_free (expr_free h any_expr e) (token_free _))))) ts rest p
  decl_free (files.Function x ps xs t ss) ts rest p =
      then_free (token_free _) (then_free (identifier_free x) (then_free (type_params_free ps) (then_free (params_free h xs) (then_free (notes_free h t) (block_at_free h ss))))) ts rest p
  decl_free (files.Namespace xs row) ts rest p =
      then_free (token_free _) (then_free (separated_free identifier identifier_free "." xs) (then_free (token_free _) (then_free (many_free marked free (marked_of row)) (token_free _)))) ts rest p
  decl_free (files.Interface x ps es ms) ts rest p =
      then_free (token_free _) (then_free (identifier_free x) (then_free (type_params_free ps) (then_free (extends_free h es) (body_free (type_at h) (type_free h) ms)))) ts rest p
  decl_free (files.TypeAlias x ps t) ts rest p =
      then_free (token_free _) (then_free (identifier_free x) (then_free (type_params_free ps) (then_free (token_free _) (then_free (type_free h any_type t) (token_free _))))) ts rest p

marked_free : (h : ℕ) (m : MarkedTree) → ContextFree (marked_at h m)
unfolding marked_at
marked_free zero m ts rest p = absurd p
marked_free (suc h) (Marked m d) ts rest p = then_free (mark_free m) (decl_free h (marked_at h) (marked_free h) d) ts rest p

-- "from" string ";"
source_free : (s : List ℕ) → ContextFree (keyword "from" ⋅ string s ⋅ token (kinds.Punct (codes ";")))
source_free s ts rest p = then_free (token_free _) (then_free (token_free _) (token_free _)) ts rest p

item_free : (h : ℕ) (i : ItemTree) → ContextFree (item_at h i)
unfolding item_at
item_free zero i ts rest p = absurd p
item_free (suc h) (files.ImportAll x s) ts rest p =
    then_free (token_free _) (then_free (token_free _) (then_free (token_free _) (then_free (identifier_free x) (source_free s)))) ts rest p
item_free (suc h) (files.ImportNames xs s) ts rest p =
    then_free (token_free _) (then_free (token_free _) (then_free (list_free import_name import_name_free xs) (then_free (token_free _) (source_free s)))) ts rest p
item_free (suc h) (files.Declared m) ts rest p = marked_free (suc h) m ts rest p
item_free (suc h) files.Empty ts rest p = token_free _ ts rest p

pub items_free : (h : ℕ) (xs : List ItemTree) → ContextFree (many (item_at h) xs)
items_free h xs ts rest p = many_free (item_at h) (item_free h) xs ts rest p

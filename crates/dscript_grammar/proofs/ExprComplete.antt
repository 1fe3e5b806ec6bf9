-- The readers of expressions and statements are complete: what is derived at the start is read.
use Prim.Native.String.{String as Letters}
use Rattle.std.proofs.Common.{◌≡◌, ℕ, zero, suc, ◌<◌, ◌≤◌, Bool, true, false, not, ◌||◌, ◌⊎◌, List, [], ◌∷◌, length, Option, Some, None, nat_eq, nat_le, codes, bytes_eq, refl, ap, sym, ◌∙◌, subst, inl, inr, arith}
use Rattle.std.proofs.lemmas.Bool.{false≢true, false_from_ne_true, or_left, or_right, or_from}
use Rattle.std.proofs.lemmas.Bool.Decides.{nat_tests}
use Rattle.dscript_lex.specs.declared.token.TokenKind.{TokenKind}
use Rattle.dscript_lex.specs.declared.token.TokenKind.TheVariants as kinds
use Rattle.dscript_ast.specs.TypeTree.{TypeTree}
use Rattle.dscript_grammar.specs.TypeReading.{at_identifier}
use Rattle.dscript_ast.specs.Operators.{precedence, spelling}
use Rattle.dscript_grammar.specs.ExprGrammar.{any_expr, or_expr, postfix_expr, primary_expr, operator, prefix, letter, loop_keyword, type_note, param, params, head, takes_else, operand, chain, part, holes, template, element, prop, block, expr_node, value, stmt_node, expr_at, stmt_at}
use Rattle.dscript_grammar.specs.ExprReading.{optional_param, closes_params, read_whole, read_head, read_middle, read_tail, letter_of, read_letter, read_one_of, read_operator, read_prefix, at_prefix, at_part, at_arrow, at_assign, read_note, read_param, read_params, read_arrow_head, read_block, read_arrow_body, read_arrow, read_holes, read_template, read_element, read_word_prop, read_prop, read_literal, read_named, read_elements, read_object, read_enclosed, read_plain, read_primary, read_index, read_call, read_part, as_postfix, read_postfix, as_unary, read_unary, read_operand, as_chain, read_chain, read_branches, read_cond, read_any, read_value, read_const, read_start, read_let, read_assign, read_else, read_if, read_loop_keyword, read_for, read_return, read_simple, read_by_keyword, read_any_stmt, read_expr, read_stmt}
use Rattle.dscript_ast.specs.declared.expr.LoopKind.{LoopKind}
use Rattle.dscript_ast.specs.declared.expr.LoopKind.TheVariants as loops
use Rattle.dscript_ast.specs.declared.operator.BinaryOp.{BinaryOp}
use Rattle.dscript_ast.specs.declared.expr.PathKind.{PathKind}
use Rattle.dscript_ast.specs.declared.expr.PathKind.TheVariants as letters
use Rattle.dscript_ast.specs.declared.operator.UnaryOp.{UnaryOp}
use Rattle.dscript_ast.specs.declared.operator.BinaryOp.TheVariants as binary
use Rattle.dscript_ast.specs.declared.operator.UnaryOp.TheVariants as unary
use Rattle.dscript_grammar.specs.Language.{keyword, punctuator, identifier, is_one_of, is_reserved, ◌⋅◌, only_if, optional, list}
use Rattle.dscript_grammar.specs.Reading.{Reader, got, choose, read_many, pick, is_punctuator, at_punctuator, take_punctuator, take_keyword, read_string, take_punctuator_bytes, at_punctuator_bytes}
use Rattle.dscript_grammar.specs.ExprReading.{at_template, operator_precedence, ends_param, at_params}
use Rattle.dscript_ast.specs.ExprTree.{OperandTrees, no_operands, more_operands, no_parts, more_parts}
use Rattle.dscript_ast.specs.ExprTree.{ParamTree, HeadTree, Single, Params, ExprTree, Arrow, BlockArrow, Cond, Chain, Unary, Postfix, Number, Str, True, False, Undefined, Template, Path, Name, Elements, Object, OperandTree, Operand, PartTree, Member, Index, Call, ElementTree, Element, PropTree, Named, Quoted, Short, Spread, HoleTree, Hole, StmtTree, Const, Let, Assign, If, For, Return, Value, Block, Empty, MaybeExpr, no_expr, an_expr, MaybeStmt, no_stmt, a_stmt, expr_of, exprs_of, operands_of, parts_of, elements_of, props_of, holes_of, stmts_of}
use Rattle.dscript_grammar.proofs.Combinators.{Reads, reads_done, reads_bind, take_bind, choose_some, choose_none, if_true, if_false, reads_moved, punctuator_taken, keyword_taken, name_complete, identifier_complete, is_punctuator-same, many_complete, list_complete, many_count, list_count}
use Rattle.dscript_ast.proofs.TreeLists.{to_exprs-of, to_operands-of, to_parts-of, to_elements-of, to_props-of, to_holes-of, to_stmts-of, to_expr-of}
use Rattle.dscript_grammar.proofs.TypeComplete.{EndsType, ends_at, not_taken, at_first, flag_complete, reads_as, above_complete, type_complete}
use Rattle.dscript_grammar.proofs.ExprLengths.{param_consumes, prefix_consumes, operand_consumes, part_consumes, holes_count, element_consumes, prop_consumes, expr_consumes, stmt_consumes}
use Rattle.dscript_grammar.proofs.ExprFirst.{for_all_operators, no_operator_is, starts_expr, First, excluded_punctuator, not_first, not_first_word, keyword_not_taken, first_identifier, expr_first, choose_is, no_assign, no_arrow}

-- the tokens that continue an expression
abbrev pub continues : TokenKind → Bool
continues (kinds.Punct p) =
    is_one_of p (codes "||" ∷ codes "&&" ∷ codes "===" ∷ codes "!==" ∷ codes "<" ∷ codes "<=" ∷ codes ">" ∷ codes ">=" ∷ codes "+" ∷ codes "-" ∷ codes "*"
    ∷ codes "." ∷ codes "[" ∷ codes "(" ∷ codes "?" ∷ codes "=>" ∷ [])
continues (kinds.Whole s) = true
continues (kinds.Head s) = true
continues _ = false

-- the tokens that may follow an expression of at most this level
pub record Stops (l : ℕ) (rest : List TokenKind) : Type 0 where
  pub no_arrow : at_punctuator "=>" rest ≡ false
  pub no_template : at_template rest ≡ false
  pub no_part : 1 ≤ l → at_part rest ≡ false
  pub no_operator : l < operator_precedence rest
  pub no_question : 9 ≤ l → take_punctuator "?" rest ≡ None

pub stops_below : (l k : ℕ) (rest : List TokenKind) → k ≤ l → Stops l rest → Stops k rest
stops_below l k rest le s = record {
  no_arrow = s.no_arrow;
  no_template = s.no_template;
  no_part = λ one. s.no_part (omega arith);
  no_operator = omega (arith, s.no_operator);
  no_question = λ nine. s.no_question (omega arith);
}

one_of_none : (ops : List BinaryOp) (ts : List TokenKind) → ((op : BinaryOp) → take_punctuator (spelling op) ts ≡ None) → read_one_of ops ts ≡ None
unfolding read_one_of choose
one_of_none [] ts none = refl
one_of_none (op ∷ ops) ts none = ap (λ m. choose m (read_one_of ops ts) (λ r. got op 0 r)) (none op) ∙ one_of_none ops ts none

operator_precedence_none : (ts : List TokenKind) → ((op : BinaryOp) → take_punctuator (spelling op) ts ≡ None) → operator_precedence ts ≡ 100
unfolding operator_precedence read_operator choose
operator_precedence_none ts none = ap (λ m. choose m 100 (λ o. precedence o.value)) (one_of_none _ ts none)

quiet_punctuator : (s : Letters) (t : TokenKind) → continues (kinds.Punct (codes s)) ≡ true → continues t ≡ false → is_punctuator s t ≡ false
quiet_punctuator s t is quiet = false_from_ne_true _ (λ e. false≢true (sym quiet ∙ ap continues (is_punctuator-same s t e) ∙ is))

quiet_template : (t : TokenKind) (r : List TokenKind) → continues t ≡ false → at_template (t ∷ r) ≡ false
unfolding at_template
quiet_template (kinds.Whole x) r q = absurd (false≢true (sym q))
quiet_template (kinds.Head x) r q = absurd (false≢true (sym q))
quiet_template (kinds.Word x) r q = refl
quiet_template (kinds.Number x) r q = refl
quiet_template (kinds.Str x) r q = refl
quiet_template (kinds.Middle x) r q = refl
quiet_template (kinds.Tail x) r q = refl
quiet_template (kinds.Punct x) r q = refl

none_of_three : {a b c : Bool} → a ≡ false → b ≡ false → c ≡ false → a || (b || c) ≡ false
none_of_three {a = a} {b = b} {c = c} p q r = ap (λ x. x || (b || c)) p ∙ ap (λ x. x || c) q ∙ r

-- a token that continues no expression
pub stops_at : (l : ℕ) {t : TokenKind} {ts r : List TokenKind} → l < 100 → ts ≡ t ∷ r → continues t ≡ false → Stops l ts
unfolding at_part
stops_at l {t = t} {ts = ts} {r = r} within e q = record {
  no_arrow = at_first "=>" e ∙ quiet_punctuator "=>" t refl q;
  no_template = ap at_template e ∙ quiet_template t r q;
  no_part = λ one. none_of_three (at_first "." e ∙ quiet_punctuator "." t refl q) (at_first "[" e ∙ quiet_punctuator "[" t refl q) (at_first "(" e ∙ quiet_punctuator "(" t refl q);
  no_operator = let s : operator_precedence ts ≡ 100 = operator_precedence_none ts (λ op. not_taken (spelling op) e (quiet_punctuator (spelling op) t (for_all_operators (λ p. continues (kinds.Punct p) ≡ true) refl refl refl refl refl refl refl refl refl refl refl op) q)) in omega arith;
  no_question = λ nine. not_taken "?" e (quiet_punctuator "?" t refl q);
}

pub operator_complete : (op : BinaryOp) (ts r : List TokenKind) → operator op ts r → read_operator ts ≡ got op 0 r
unfolding read_operator read_one_of take_punctuator_bytes pick choose
operator_complete binary.Or ts r e = ap read_operator e
operator_complete binary.And ts r e = ap read_operator e
operator_complete binary.Equal ts r e = ap read_operator e
operator_complete binary.NotEqual ts r e = ap read_operator e
operator_complete binary.Less ts r e = ap read_operator e
operator_complete binary.LessOrEqual ts r e = ap read_operator e
operator_complete binary.Greater ts r e = ap read_operator e
operator_complete binary.GreaterOrEqual ts r e = ap read_operator e
operator_complete binary.Add ts r e = ap read_operator e
operator_complete binary.Subtract ts r e = ap read_operator e
operator_complete binary.Multiply ts r e = ap read_operator e

operator_precedence_is : (op : BinaryOp) (ts r : List TokenKind) → operator op ts r → operator_precedence ts ≡ precedence op
unfolding operator_precedence choose
operator_precedence_is op ts r e = ap (λ m. choose m 100 (λ o. precedence o.value)) (operator_complete op ts r e)

-- an operator of a looser level
stops_operator : (l : ℕ) (op : BinaryOp) (ts r : List TokenKind) → operator op ts r → l < precedence op → Stops l ts
unfolding at_part at_template
stops_operator l op ts r e within = record {
  no_arrow = at_first "=>" e ∙ no_operator_is "=>" refl refl refl refl refl refl refl refl refl refl refl op;
  no_template = ap at_template e;
  no_part = λ one. none_of_three (at_first "." e ∙ no_operator_is "." refl refl refl refl refl refl refl refl refl refl refl op)
      (at_first "[" e ∙ no_operator_is "[" refl refl refl refl refl refl refl refl refl refl refl op)
      (at_first "(" e ∙ no_operator_is "(" refl refl refl refl refl refl refl refl refl refl refl op);
  no_operator = let s : operator_precedence ts ≡ precedence op = operator_precedence_is op ts r e in omega arith;
  no_question = λ nine. not_taken "?" e (no_operator_is "?" refl refl refl refl refl refl refl refl refl refl refl op);
}

stops_question : (ts r : List TokenKind) → punctuator "?" ts r → Stops 8 ts
unfolding at_part at_template
stops_question ts r e = record {
  no_arrow = at_first "=>" e;
  no_template = ap at_template e;
  no_part = λ one. none_of_three (at_first "." e) (at_first "[" e) (at_first "(" e);
  no_operator = let s : operator_precedence ts ≡ 100 = operator_precedence_none ts (λ op. not_taken (spelling op) e (for_all_operators (λ p. bytes_eq (codes "?") p ≡ false) refl refl refl refl refl refl refl refl refl refl refl op)) in omega arith;
  no_question = λ nine. absurd (omega (arith, nine));
}

-- the punctuator of a member, an index or a call
stops_part : (p : Letters) (ts r : List TokenKind) → punctuator p ts r → bytes_eq (codes p) (codes "=>") ≡ false → ((op : BinaryOp) → bytes_eq (codes p) (codes (spelling op)) ≡ false) → Stops 0 ts
unfolding at_template
stops_part p ts r e arrow ops = record {
  no_arrow = at_first "=>" e ∙ arrow;
  no_template = ap at_template e;
  no_part = λ one. absurd (omega (arith, one));
  no_operator = let s : operator_precedence ts ≡ 100 = operator_precedence_none ts (λ op. not_taken (spelling op) e (ops op)) in omega arith;
  no_question = λ nine. absurd (omega (arith, nine));
}

not_before_false : (s : Letters) (ts : List TokenKind) → ((more : List TokenKind) → ts ≡ kinds.Punct (codes s) ∷ more → ⊥) → at_punctuator s ts ≡ false
unfolding at_punctuator_bytes
not_before_false s [] none = refl
not_before_false s (t ∷ r) none = false_from_ne_true _ (λ e. none r (ap (λ u. u ∷ r) (is_punctuator-same s t e)))

not_first_taken : (s : Letters) {ts : List TokenKind} → starts_expr (kinds.Punct (codes s)) ≡ false → First ts → take_punctuator s ts ≡ None
not_first_taken s out f = not_taken s f.is (excluded_punctuator starts_expr s f.token out f.starts)

-- the tokens that may follow the type after `:`
pub record AfterNote (rest : List TokenKind) : Type 0 where
  pub no_colon : take_punctuator ":" rest ≡ None
  pub ends : EndsType rest

pub after_note : {t : TokenKind} {ts r : List TokenKind} → ts ≡ t ∷ r → is_punctuator ":" t ≡ false → is_punctuator "." t ≡ false → is_punctuator "<" t ≡ false → is_punctuator "[" t ≡ false → is_punctuator "|" t ≡ false → AfterNote ts
after_note e colon dot angle bracket bar = record { no_colon = not_taken ":" e colon; ends = ends_at e dot angle bracket bar }

record AfterParam (rest : List TokenKind) : Type 0 where
  pub note : AfterNote rest
  pub no_question : take_punctuator "?" rest ≡ None

after_comma : (ts r : List TokenKind) → punctuator "," ts r → AfterParam ts
after_comma ts r e = record { note = after_note e refl refl refl refl refl; no_question = not_taken "?" e refl }

after_params : (ts r : List TokenKind) → punctuator ")" ts r → AfterParam ts
after_params ts r e = record { note = after_note e refl refl refl refl refl; no_question = not_taken "?" e refl }

-- the tokens that may follow a parameter of an arrow function
abbrev ParamEnd : List TokenKind → Type 0
ParamEnd ts = (at_punctuator "," ts ≡ true) ⊎ ((r : List TokenKind) × punctuator ")" ts r × (at_punctuator "=>" r ≡ true))

comma_is : (ts r : List TokenKind) → punctuator "," ts r → at_punctuator "," ts ≡ true
comma_is ts r e = at_first "," e

second_of : (ts : List TokenKind) → at_punctuator ":" ts ≡ true
    → at_punctuator "," ts || (at_punctuator ":" ts || (choose (take_punctuator "?" ts) false ends_param || choose (take_punctuator ")" ts) false (at_punctuator "=>"))) ≡ true
second_of ts e = or_right (at_punctuator "," ts) _ (or_left (at_punctuator ":" ts) _ e)

third_of : (ts : List TokenKind) → choose (take_punctuator "?" ts) false ends_param ≡ true
    → at_punctuator "," ts || (at_punctuator ":" ts || (choose (take_punctuator "?" ts) false ends_param || choose (take_punctuator ")" ts) false (at_punctuator "=>"))) ≡ true
third_of ts e = or_right (at_punctuator "," ts) _ (or_right (at_punctuator ":" ts) _ (or_left (choose (take_punctuator "?" ts) false ends_param) _ e))

fourth_of : (ts : List TokenKind) → choose (take_punctuator ")" ts) false (at_punctuator "=>") ≡ true
    → at_punctuator "," ts || (at_punctuator ":" ts || (choose (take_punctuator "?" ts) false ends_param || choose (take_punctuator ")" ts) false (at_punctuator "=>"))) ≡ true
fourth_of ts e = or_right (at_punctuator "," ts) _ (or_right (at_punctuator ":" ts) _ (or_right (choose (take_punctuator "?" ts) false ends_param) _ e))

end_params : (ts : List TokenKind) → ParamEnd ts → at_punctuator "," ts || (at_punctuator ":" ts || (choose (take_punctuator "?" ts) false ends_param || choose (take_punctuator ")" ts) false (at_punctuator "=>"))) ≡ true
end_params ts (inl comma) = or_left (at_punctuator "," ts) _ comma
end_params ts (inr (r, e, arrow)) = fourth_of ts (choose_is (at_punctuator "=>") (punctuator_taken ")" e) ∙ arrow)

end_ends : (ts : List TokenKind) → ParamEnd ts → ends_param ts ≡ true
unfolding ends_param
end_ends ts (inl comma) = or_right (at_punctuator ")" ts) _ (or_left (at_punctuator "," ts) _ comma)
end_ends ts (inr (r, e, arrow)) = or_left (at_punctuator ")" ts) _ (at_first ")" e)

param_starts : (h : ℕ) (p : ParamTree) (ts mid : List TokenKind) → param h p ts mid → ParamEnd mid → at_params ts ≡ true
unfolding at_params ends_param optional_param closes_params
param_starts h p ts mid (m1, x, (m2, q, note)) end = ap at_params x.0 ∙ by p.optional p.type_node q note
  where
    by : (o : Bool) (t : Option TypeTree) → only_if o (punctuator "?") m1 m2 → optional (type_note h) t m2 mid
        → at_punctuator "," m1 || (at_punctuator ":" m1 || (choose (take_punctuator "?" m1) false ends_param || choose (take_punctuator ")" m1) false (at_punctuator "=>"))) ≡ true
    by false None e f = end_params m1 (subst ParamEnd (sym (e ∙ f)) end)
    by false (Some t) e f = second_of m1 (at_first ":" (e ∙ f.1))
    by true None e f = third_of m1 (choose_is ends_param (punctuator_taken "?" e) ∙ end_ends m2 (subst ParamEnd (sym f) end))
    by true (Some t) e f = third_of m1 (choose_is ends_param (punctuator_taken "?" e) ∙ or_right (at_punctuator ")" m2) _ (or_right (at_punctuator "," m2) _ (at_first ":" f.1)))

params_start : (h : ℕ) (ps : List ParamTree) (m1 m2 m3 r : List TokenKind) → list (param h) ps m1 m2 → punctuator ")" m2 m3 → punctuator "=>" m3 r → at_params m1 ≡ true
unfolding at_params
params_start h [] m1 m2 m3 r e close arrow = ap at_params (e ∙ close) ∙ at_first ")" refl
params_start h (p ∷ []) m1 m2 m3 r (mid, q, inl e) close arrow = param_starts h p m1 mid q (inl (comma_is mid m2 e))
params_start h (p ∷ []) m1 m2 m3 r (mid, q, inr e) close arrow = param_starts h p m1 mid q (inr (m3, e ∙ close, at_first "=>" arrow))
params_start h (p ∷ p2 ∷ more) m1 m2 m3 r (mid, q, (after, e, rest)) close arrow = param_starts h p m1 mid q (inl (comma_is mid after e))

arrow_starts : (h : ℕ) (x : HeadTree) (ts m r : List TokenKind) → head h x ts m → punctuator "=>" m r → at_arrow ts ≡ true
unfolding at_arrow
arrow_starts h (Single x) ts m r p arrow = ap at_arrow p.0 ∙ at_first "=>" arrow
arrow_starts h (Params ps) ts m r (m1, e, (m2, p, close)) arrow =
    ap at_arrow e ∙ choose_is at_params (punctuator_taken "(" refl) ∙ params_start h ps m1 m2 m r p close arrow

-- the first token of a statement
first_stmt : (h : ℕ) (s : StmtTree) (ts rest : List TokenKind) → stmt_at h s ts rest → (not (at_punctuator "}" ts) ≡ true) × (take_keyword "else" ts ≡ None)
unfolding stmt_at starts_expr is_reserved
first_stmt zero s ts rest p = absurd p
first_stmt (suc h) (Const x t e) ts rest p = (ap not (at_first "}" p.1), keyword_not_taken "else" p.1 refl)
first_stmt (suc h) (Let x t e) ts rest p = (ap not (at_first "}" p.1), keyword_not_taken "else" p.1 refl)
first_stmt (suc h) (Assign x e) ts rest p = let f = first_identifier x ts p.0 p.1 in (ap not (not_first "}" refl f), not_first_word "else" refl f)
first_stmt (suc h) (If c s no_stmt) ts rest p = (ap not (at_first "}" p.1), keyword_not_taken "else" p.1 refl)
first_stmt (suc h) (If c s (a_stmt o)) ts rest p = (ap not (at_first "}" p.1.1), keyword_not_taken "else" p.1.1 refl)
first_stmt (suc h) (For k x e s) ts rest p = (ap not (at_first "}" p.1), keyword_not_taken "else" p.1 refl)
first_stmt (suc h) (Return e) ts rest p = (ap not (at_first "}" p.1), keyword_not_taken "else" p.1 refl)
first_stmt (suc h) (Value e) ts rest p = let f = expr_first h any_expr e ts p.0 p.1.1 in (ap not (not_first "}" refl f), not_first_word "else" refl f)
first_stmt (suc h) (Block row) ts rest p = (ap not (at_first "}" p.1), keyword_not_taken "else" p.1 refl)
first_stmt (suc h) Empty ts rest p = (ap not (at_first "}" p), keyword_not_taken "else" p refl)

-- two ways to split one list of tokens after its first token have equal rests
same_after : {t : TokenKind} {ts m n : List TokenKind} → ts ≡ t ∷ m → ts ≡ t ∷ n → m ≡ n
same_after {t = t} {ts = ts} {m = m} {n = n} e f = cc

pub pick_false : {A : Type 0} {b : Bool} (x y : A) → b ≡ false → pick b x y ≡ y
unfolding pick
pick_false x y e = ap (λ c. pick c x y) e

none_more : {X : Type 0} (go : List TokenKind → Bool) (one : Reader X) (n : ℕ) (ts : List TokenKind) → go ts ≡ false → read_many go one n ts ≡ got [] 0 ts
unfolding read_many
none_more go one zero ts e = refl
none_more go one (suc n) ts e = pick_false _ _ e

punctuator_prefix : (t : TokenKind) (ts r : List TokenKind) → ts ≡ t ∷ r → is_punctuator "!" t ≡ false → is_punctuator "-" t ≡ false → at_prefix ts ≡ false
unfolding at_prefix
punctuator_prefix t ts r e p q = or_from (at_punctuator "!" ts) (at_punctuator "-" ts) (at_first "!" e ∙ p) (at_first "-" e ∙ q)

-- an expression of at most the level POSTFIX begins with no prefix operator
no_prefix : (h l : ℕ) (e : ExprTree) (ts rest : List TokenKind) → l ≤ 1 → expr_at h l e ts rest → at_prefix ts ≡ false
unfolding expr_at
no_prefix zero l e ts rest le p = absurd p
no_prefix (suc h) l e ts rest le (inr p) = punctuator_prefix _ ts p.0 p.1 refl refl
no_prefix (suc h) l (Arrow x body) ts rest le (inl p) = absurd (omega (arith, p.0))
no_prefix (suc h) l (BlockArrow x body) ts rest le (inl p) = absurd (omega (arith, p.0))
no_prefix (suc h) l (Cond c a b) ts rest le (inl p) = absurd (omega (arith, p.0))
no_prefix (suc h) l (Chain level first row) ts rest le (inl p) = absurd (omega (arith, p.0, p.1.0.0))
no_prefix (suc h) l (Unary ops e) ts rest le (inl p) = absurd (omega (arith, p.0))
no_prefix (suc h) l (Postfix e row) ts rest le (inl p) = no_prefix h 0 e ts p.1.1.0 (omega arith) p.1.1.1
no_prefix (suc h) l (Number n) ts rest le (inl p) = punctuator_prefix _ ts rest p.1 refl refl
no_prefix (suc h) l (Str s) ts rest le (inl p) = punctuator_prefix _ ts rest p.1 refl refl
no_prefix (suc h) l True ts rest le (inl p) = punctuator_prefix _ ts rest p.1 refl refl
no_prefix (suc h) l False ts rest le (inl p) = punctuator_prefix _ ts rest p.1 refl refl
no_prefix (suc h) l Undefined ts rest le (inl p) = punctuator_prefix _ ts rest p.1 refl refl
no_prefix (suc h) l (Template x row) ts rest le (inl p) = template_prefix h x (holes_of row) ts rest p.1
  where
    template_prefix : (h : ℕ) (x : List ℕ) (hs : List HoleTree) (ts rest : List TokenKind) → template h (expr_at h) (stmt_at h) x hs ts rest → at_prefix ts ≡ false
    template_prefix h x [] ts rest p = punctuator_prefix _ ts rest p refl refl
    template_prefix h x (y ∷ ys) ts rest p = punctuator_prefix _ ts p.0 p.1 refl refl
no_prefix (suc h) l (Path letters.Path x row) ts rest le (inl p) = punctuator_prefix _ ts p.1.0 p.1.1 refl refl
no_prefix (suc h) l (Path letters.File x row) ts rest le (inl p) = punctuator_prefix _ ts p.1.0 p.1.1 refl refl
no_prefix (suc h) l (Path letters.Directory x row) ts rest le (inl p) = punctuator_prefix _ ts p.1.0 p.1.1 refl refl
no_prefix (suc h) l (Path letters.Relative x row) ts rest le (inl p) = punctuator_prefix _ ts p.1.0 p.1.1 refl refl
no_prefix (suc h) l (Path letters.Atom x row) ts rest le (inl p) = punctuator_prefix _ ts p.1.0 p.1.1 refl refl
no_prefix (suc h) l (Name x) ts rest le (inl p) = punctuator_prefix _ ts rest p.1.0 refl refl
no_prefix (suc h) l (Elements row) ts rest le (inl p) = punctuator_prefix _ ts p.1.0 p.1.1 refl refl
no_prefix (suc h) l (Object row) ts rest le (inl p) = punctuator_prefix _ ts p.1.0 p.1.1 refl refl

prefix_complete : (h : ℕ) (s : UnaryOp) (ts rest : List TokenKind) → prefix s ts rest → Reads (read_prefix ts) h s rest
unfolding read_prefix
prefix_complete h unary.Not ts rest e = choose_some _ _ (punctuator_taken "!" e) (reads_done (omega arith))
prefix_complete h unary.Negate ts rest e = choose_none _ (not_taken "!" e refl) (choose_some _ _ (punctuator_taken "-" e) (reads_done (omega arith)))

prefix_start : (s : UnaryOp) (ts rest : List TokenKind) → prefix s ts rest → (at_prefix ts ≡ true) × Unit {0}
unfolding at_prefix
prefix_start unary.Not ts rest e = (or_left (at_punctuator "!" ts) _ (at_first "!" e), tt)
prefix_start unary.Negate ts rest e = (or_right (at_punctuator "!" ts) _ (at_first "-" e), tt)

le_cases : (a b : ℕ) → a ≤ suc b → (a ≤ b) ⊎ (a ≡ suc b)
le_cases a b l = by (nat_le a b) refl
  where
    by : (c : Bool) → nat_le a b ≡ c → (a ≤ b) ⊎ (a ≡ suc b)
    by true e = inl (grind (arith, nat_tests))
    by false e = inr (grind (arith, nat_tests))

part_stops : (h : ℕ) (x : PartTree) (ts rest : List TokenKind) → part h (expr_at h) (stmt_at h) x ts rest → Stops 0 ts
part_stops h (Member x) ts rest p = stops_part "." ts p.0 p.1 refl (for_all_operators (λ q. bytes_eq (codes ".") q ≡ false) refl refl refl refl refl refl refl refl refl refl refl)
part_stops h (Index x) ts rest p = stops_part "[" ts p.0 p.1 refl (for_all_operators (λ q. bytes_eq (codes "[") q ≡ false) refl refl refl refl refl refl refl refl refl refl refl)
part_stops h (Call x) ts rest p = stops_part "(" ts p.0 p.1 refl (for_all_operators (λ q. bytes_eq (codes "(") q ≡ false) refl refl refl refl refl refl refl refl refl refl refl)

-- `complete` and `complete_stmt`: expressions and statements that are parts are read, if the depth allows it.
module _ (depth : ℕ) (expr : Reader ExprTree) (stmt : Reader StmtTree)
    (complete : (h : ℕ) → h ≤ depth → (e : ExprTree) (ts rest : List TokenKind) → expr_at h any_expr e ts rest → Stops any_expr rest → Reads (expr ts) h e rest)
    (complete_stmt : (h : ℕ) → h ≤ depth → (s : StmtTree) (ts rest : List TokenKind) → stmt_at h s ts rest → (takes_else s ≡ true → take_keyword "else" rest ≡ None) → Reads (stmt ts) h s rest) where
  module _ (h : ℕ) (fits : h ≤ depth) where
    pub note_complete : (o : Option TypeTree) (ts rest : List TokenKind) → optional (type_note h) o ts rest → AfterNote rest → Reads (read_note depth expr stmt ts) h o rest
    unfolding read_note
    note_complete None ts rest e f = choose_none _ (ap (take_punctuator ":") e ∙ f.no_colon) (reads_moved e (omega arith))
    note_complete (Some t) ts rest (m, e, p) f =
        choose_some _ _ (punctuator_taken ":" e) (reads_bind _ (type_complete depth h fits t m rest p f.ends) λ i li. reads_done li)

    note_question : (o : Option TypeTree) (ts rest : List TokenKind) → optional (type_note h) o ts rest → take_punctuator "?" rest ≡ None → take_punctuator "?" ts ≡ None
    note_question None ts rest e none = ap (take_punctuator "?") e ∙ none
    note_question (Some t) ts rest p none = not_taken "?" p.1 refl

    param_complete : (p : ParamTree) (ts rest : List TokenKind) → param h p ts rest → AfterParam rest → Reads (read_param depth expr stmt ts) h p rest
    unfolding read_param
    param_complete p ts rest (m1, x, (m2, q, note)) f =
        reads_bind _ (identifier_complete {h = h} x) λ i li. reads_bind _ (flag_complete "?" p.optional m1 {h = h} q (note_question p.type_node m2 rest note f.no_question)) λ j lj.
        reads_bind _ (note_complete p.type_node m2 rest note f.note) λ k lk. reads_done lk

    param_start : (p : ParamTree) (ts rest : List TokenKind) → param h p ts rest → at_punctuator ")" ts ≡ false
    param_start p ts rest q = at_first ")" q.1.0

    pub params_complete : (ps : List ParamTree) (ts rest : List TokenKind) → params h ps ts rest → Reads (read_params depth expr stmt ts) h ps rest
    unfolding read_params
    params_complete ps ts rest (m1, e, (m2, p, e2)) =
        take_bind _ (punctuator_taken "(" e)
        (reads_bind _ (list_complete (param h) (read_param depth expr stmt) h AfterParam param_complete ")" after_comma param_start
        ps m1 m2 (suc (length m1)) p (at_first ")" e2) (not_taken "," e2 refl) (after_params m2 rest e2)
        (omega (arith, list_count (param h) (param_consumes h) ps m1 m2 p))) λ i li.
        take_bind _ (punctuator_taken ")" e2) (reads_done li))

    arrow_head_complete : (x : HeadTree) (ts rest : List TokenKind) → head h x ts rest → Reads (read_arrow_head depth expr stmt ts) h x rest
    unfolding read_arrow_head
    arrow_head_complete (Single x) ts rest p = if_false _ (at_first "(" p.0) (reads_bind _ (identifier_complete {h = h} p) λ i li. reads_done (omega arith))
    arrow_head_complete (Params ps) ts rest p = if_true _ (at_first "(" p.1) (reads_bind _ (params_complete ps ts rest p) λ i li. reads_done li)

    pub block_complete : (ss : List StmtTree) (ts rest : List TokenKind) → block h (expr_at h) (stmt_at h) ss ts rest → Reads (read_block depth expr stmt ts) h ss rest
    unfolding read_block
    block_complete ss ts rest (m1, e, (m2, p, e2)) =
        take_bind _ (punctuator_taken "{" e)
        (reads_bind _ (many_complete (stmt_at h) stmt h (λ us. take_keyword "else" us ≡ None) (λ s us vs q f. complete_stmt h fits s us vs q (λ _. f)) (λ us. not (at_punctuator "}" us)) (first_stmt h)
        ss m1 m2 (suc (length m1)) p (ap not (at_first "}" e2)) (keyword_not_taken "else" e2 refl)
        (omega (arith, many_count (stmt_at h) (stmt_consumes h) ss m1 m2 p))) λ i li.
        take_bind _ (punctuator_taken "}" e2) (reads_done li))

    arrow_complete : (x : HeadTree) (body : ExprTree) (ts rest : List TokenKind) → expr_node h (expr_at h) (stmt_at h) (Arrow x body) ts rest → Stops any_expr rest
        → Reads (read_arrow depth expr stmt ts) (suc h) (Arrow x body) rest
    unfolding read_arrow read_arrow_body
    arrow_complete x body ts rest (m, p, (m2, e, (none, q))) f =
        reads_bind _ (arrow_head_complete x ts m p) λ i li. take_bind _ (punctuator_taken "=>" e)
        (if_false _ (not_before_false "{" m2 none) (reads_bind _ (complete h fits body m2 rest q f) λ j lj. reads_done (omega arith)))

    block_arrow_complete : (x : HeadTree) (row : _) (ts rest : List TokenKind) → expr_node h (expr_at h) (stmt_at h) (BlockArrow x row) ts rest
        → Reads (read_arrow depth expr stmt ts) (suc h) (BlockArrow x row) rest
    unfolding read_arrow read_arrow_body
    block_arrow_complete x row ts rest (m, p, (m2, e, q)) =
        reads_bind _ (arrow_head_complete x ts m p) λ i li. take_bind _ (punctuator_taken "=>" e)
        (if_true _ (at_first "{" q.1) (reads_as (ap (BlockArrow x) (to_stmts-of row)) (reads_bind _ (block_complete (stmts_of row) m2 rest q) λ j lj. reads_done (omega arith))))

    holes_complete : (hs : List HoleTree) (ts rest : List TokenKind) (n : ℕ) → holes h (expr_at h) (stmt_at h) hs ts rest → length hs ≤ n → Reads (read_holes depth expr stmt n ts) h hs rest
    unfolding read_holes read_tail read_middle
    holes_complete [] ts rest n p l = absurd p
    holes_complete (y ∷ more) ts rest zero p l = absurd (omega arith)
    holes_complete (Hole e x ∷ []) ts rest (suc n) (m, p, q) l =
        reads_bind _ (complete h fits e ts m p (stops_at 10 (omega arith) q refl)) λ i li. choose_some _ _ (ap read_tail q) (reads_done li)
    holes_complete (Hole e x ∷ y ∷ more) ts rest (suc n) (m, p, (after, q, r)) l =
        reads_bind _ (complete h fits e ts m p (stops_at 10 (omega arith) q refl)) λ i li. choose_none _ (ap read_tail q)
        (take_bind _ (ap read_middle q) (reads_bind _ (holes_complete (y ∷ more) after rest n r (omega arith)) λ j lj. reads_done (omega arith)))

    template_complete : (x : List ℕ) (hs : List HoleTree) (ts rest : List TokenKind) → template h (expr_at h) (stmt_at h) x hs ts rest
        → Reads (read_template depth expr stmt ts) h (record { text = x; holes = hs }) rest
    unfolding read_template read_whole read_head
    template_complete x [] ts rest e = choose_some _ _ (ap read_whole e) (reads_done (omega arith))
    template_complete x (y ∷ ys) ts rest (m, e, p) =
        choose_none _ (ap read_whole e) (take_bind _ (ap read_head e)
        (reads_bind _ (holes_complete (y ∷ ys) m rest (length m) p (omega (arith, holes_count h (expr_at h) (stmt_at h) (expr_consumes h) (stmt_consumes h) (y ∷ ys) m rest p))) λ i li. reads_done li))

    element_complete : (x : ElementTree) (ts rest : List TokenKind) → element h (expr_at h) (stmt_at h) x ts rest → Stops any_expr rest → Reads (read_element depth expr stmt ts) h x rest
    unfolding read_element starts_expr
    element_complete (Element spread e) ts rest (m, q, p) f =
        reads_bind _ (flag_complete "..." spread ts {h = h} q (not_first_taken "..." refl (expr_first h any_expr e m rest p))) λ i li.
        reads_bind _ (complete h fits e m rest p f) λ j lj. reads_done lj

    element_start : (x : ElementTree) (ts rest : List TokenKind) → element h (expr_at h) (stmt_at h) x ts rest → at_punctuator "]" ts ≡ false
    unfolding starts_expr
    element_start (Element true e) ts rest (m, q, p) = at_first "]" q
    element_start (Element false e) ts rest (m, q, p) = ap (at_punctuator "]") q ∙ not_first "]" refl (expr_first h any_expr e m rest p)

    -- the tokens that may follow a property
    record AfterProp (rest : List TokenKind) : Type 0 where
      pub stops : Stops any_expr rest
      pub no_colon : take_punctuator ":" rest ≡ None

    after_prop : {t : TokenKind} {us r : List TokenKind} → us ≡ t ∷ r → continues t ≡ false → is_punctuator ":" t ≡ false → AfterProp us
    after_prop e q c = record { stops = stops_at 10 (omega arith) e q; no_colon = not_taken ":" e c }

    prop_complete : (x : PropTree) (ts rest : List TokenKind) → prop h (expr_at h) (stmt_at h) x ts rest → AfterProp rest → Reads (read_prop depth expr stmt ts) h x rest
    unfolding read_prop read_word_prop read_string
    prop_complete (Named x e) ts rest (m, p, (m2, c, q)) f =
        choose_none _ (not_taken "..." p refl) (choose_none _ (ap read_string p) (reads_bind _ (name_complete {h = h} p) λ i li.
        choose_some _ _ (punctuator_taken ":" c) (reads_bind _ (complete h fits e m2 rest q f.stops) λ j lj. reads_done lj)))
    prop_complete (Quoted s e) ts rest (m, p, (m2, c, q)) f =
        choose_none _ (not_taken "..." p refl) (choose_some _ _ (ap read_string p) (take_bind _ (punctuator_taken ":" c) (reads_bind _ (complete h fits e m2 rest q f.stops) λ j lj. reads_done lj)))
    prop_complete (Short x) ts rest p f =
        choose_none _ (not_taken "..." p.0 refl) (choose_none _ (ap read_string p.0) (reads_bind _ (name_complete {h = h} p.0) λ i li.
        choose_none _ f.no_colon (reads_bind _ (identifier_complete {h = h} p) λ j lj. reads_done (omega arith))))
    prop_complete (Spread e) ts rest (m, p, q) f =
        choose_some _ _ (punctuator_taken "..." p) (reads_bind _ (complete h fits e m rest q f.stops) λ j lj. reads_done lj)

    prop_start : (x : PropTree) (ts rest : List TokenKind) → prop h (expr_at h) (stmt_at h) x ts rest → at_punctuator "}" ts ≡ false
    prop_start (Named x e) ts rest p = at_first "}" p.1
    prop_start (Quoted s e) ts rest p = at_first "}" p.1
    prop_start (Short x) ts rest p = at_first "}" p.0
    prop_start (Spread e) ts rest p = at_first "}" p.1

    part_complete : (x : PartTree) (ts rest : List TokenKind) → part h (expr_at h) (stmt_at h) x ts rest → Reads (read_part depth expr stmt ts) h x rest
    unfolding read_part read_index read_call starts_expr
    part_complete (Member x) ts rest (m, e, p) = choose_some _ _ (punctuator_taken "." e) (reads_bind _ (name_complete {h = h} p) λ i li. reads_done (omega arith))
    part_complete (Index x) ts rest (m, e, (m2, p, e2)) =
        choose_none _ (not_taken "." e refl) (choose_some _ _ (punctuator_taken "[" e)
        (reads_bind _ (complete h fits x m m2 p (stops_at 10 (omega arith) e2 refl)) λ i li. take_bind _ (punctuator_taken "]" e2) (reads_done li)))
    part_complete (Call row) ts rest (m, e, (m2, p, e2)) =
        choose_none _ (not_taken "." e refl) (choose_none _ (not_taken "[" e refl) (reads_as (ap Call (to_exprs-of row)) (take_bind _ (punctuator_taken "(" e)
        (reads_bind _ (list_complete (expr_at h any_expr) expr h (Stops any_expr) (complete h fits) ")" (λ us after c. stops_at 10 (omega arith) c refl)
        (λ x us vs q. not_first ")" refl (expr_first h any_expr x us vs q)) (exprs_of row) m m2 (suc (length m)) p (at_first ")" e2) (not_taken "," e2 refl) (stops_at 10 (omega arith) e2 refl)
        (omega (arith, list_count (expr_at h any_expr) (expr_consumes h any_expr) (exprs_of row) m m2 p))) λ i li.
        take_bind _ (punctuator_taken ")" e2) (reads_done li)))))

    part_start : (x : PartTree) (ts rest : List TokenKind) → part h (expr_at h) (stmt_at h) x ts rest → (at_part ts ≡ true) × Unit {0}
    unfolding at_part
    part_start (Member x) ts rest p = (or_left (at_punctuator "." ts) _ (at_first "." p.1), tt)
    part_start (Index x) ts rest p = (or_right (at_punctuator "." ts) _ (or_left (at_punctuator "[" ts) _ (at_first "[" p.1)), tt)
    part_start (Call x) ts rest p = (or_right (at_punctuator "." ts) _ (or_right (at_punctuator "[" ts) _ (at_first "(" p.1)), tt)

    letter_taken : (k : PathKind) (ts m : List TokenKind) → letter k ts m → at_template m ≡ true → (read_letter ts ≡ got k 0 m) × (at_identifier ts ≡ true) × (at_template ts ≡ false) × ((r : TokenKind) × (ts ≡ r ∷ m) × (is_punctuator "(" r ≡ false) × (is_punctuator "[" r ≡ false) × (is_punctuator "{" r ≡ false))
    unfolding read_letter letter_of at_identifier at_template is_reserved pick choose
    letter_taken letters.Path ts m e t = (ap read_letter e ∙ ap (λ b. pick b (got letters.Path 0 m) None) t, ap at_identifier e, ap at_template e, (_, e, refl, refl, refl))
    letter_taken letters.File ts m e t = (ap read_letter e ∙ ap (λ b. pick b (got letters.File 0 m) None) t, ap at_identifier e, ap at_template e, (_, e, refl, refl, refl))
    letter_taken letters.Directory ts m e t = (ap read_letter e ∙ ap (λ b. pick b (got letters.Directory 0 m) None) t, ap at_identifier e, ap at_template e, (_, e, refl, refl, refl))
    letter_taken letters.Relative ts m e t = (ap read_letter e ∙ ap (λ b. pick b (got letters.Relative 0 m) None) t, ap at_identifier e, ap at_template e, (_, e, refl, refl, refl))
    letter_taken letters.Atom ts m e t = (ap read_letter e ∙ ap (λ b. pick b (got letters.Atom 0 m) None) t, ap at_identifier e, ap at_template e, (_, e, refl, refl, refl))

    template_at : (x : List ℕ) (hs : List HoleTree) (ts rest : List TokenKind) → template h (expr_at h) (stmt_at h) x hs ts rest → at_template ts ≡ true
    unfolding at_template
    template_at x [] ts rest e = ap at_template e
    template_at x (y ∷ ys) ts rest p = ap at_template p.1

    no_letter : (x : List ℕ) (ts rest : List TokenKind) → identifier x ts rest → at_template rest ≡ false → read_letter ts ≡ None
    unfolding read_letter pick
    no_letter x ts rest p t = ap read_letter p.0 ∙ ap (λ b. pick b (choose (letter_of x) None (λ k. got k 0 rest)) None) t

    name_at : (x : List ℕ) (ts rest : List TokenKind) → identifier x ts rest → at_identifier ts ≡ true
    unfolding at_identifier
    name_at x ts rest p = ap at_identifier p.0 ∙ ap not p.1

    word_plain : (t : TokenKind) (ts r : List TokenKind) {e : ExprTree} {rest : List TokenKind} → ts ≡ t ∷ r → is_punctuator "(" t ≡ false → is_punctuator "[" t ≡ false → is_punctuator "{" t ≡ false
        → Reads (read_plain depth expr stmt ts) (suc h) e rest → Reads (read_primary depth expr stmt ts) (suc h) e rest
    unfolding read_primary
    word_plain t ts r e p b c reads = choose_none _ (not_taken "(" e p) (choose_none _ (not_taken "[" e b) (choose_none _ (not_taken "{" e c) reads))

    literal_plain : (t : TokenKind) (ts r : List TokenKind) (e : ExprTree) {rest : List TokenKind} → ts ≡ t ∷ r → at_template (t ∷ r) ≡ false → at_identifier (t ∷ r) ≡ false
        → read_literal (t ∷ r) ≡ got e 1 rest → Reads (read_plain depth expr stmt ts) (suc h) e rest
    unfolding read_plain
    literal_plain t ts r e is no_template no_identifier reads =
        if_false _ (ap at_template is ∙ no_template) (if_false _ (ap at_identifier is ∙ no_identifier) (record { height = 1; within = omega arith; is = ap read_literal is ∙ reads }))

    plain_template : (x : List ℕ) (row : _) (ts rest : List TokenKind) → template h (expr_at h) (stmt_at h) x (holes_of row) ts rest → Reads (read_plain depth expr stmt ts) (suc h) (Template x row) rest
    unfolding read_plain
    plain_template x row ts rest p =
        if_true _ (template_at x (holes_of row) ts rest p)
        (reads_as (ap (Template x) (to_holes-of row)) (reads_bind _ (template_complete x (holes_of row) ts rest p) λ i li. reads_done (omega arith)))

    plain_path : (k : PathKind) (x : List ℕ) (row : _) (ts m rest : List TokenKind) → letter k ts m → template h (expr_at h) (stmt_at h) x (holes_of row) m rest
        → Reads (read_primary depth expr stmt ts) (suc h) (Path k x row) rest
    unfolding read_plain read_named
    plain_path k x row ts m rest l p =
        let t = letter_taken k ts m l (template_at x (holes_of row) m rest p) in
        word_plain t.3.0 ts m t.3.1 t.3.2 t.3.3 t.3.4 (if_false _ t.2 (if_true _ t.1 (choose_some _ _ t.0
        (reads_as (ap (Path k x) (to_holes-of row)) (reads_bind _ (template_complete x (holes_of row) m rest p) λ i li. reads_done (omega arith))))))

    plain_name : (x : List ℕ) (ts rest : List TokenKind) → identifier x ts rest → Stops 0 rest → Reads (read_primary depth expr stmt ts) (suc h) (Name x) rest
    unfolding read_plain read_named at_template
    plain_name x ts rest p f =
        word_plain _ ts rest p.0 refl refl refl (if_false _ (ap at_template p.0) (if_true _ (name_at x ts rest p) (choose_none _ (no_letter x ts rest p f.no_template)
        (reads_bind _ (identifier_complete {h = h} p) λ i li. reads_done (omega arith)))))

    list_prim : (row : _) (ts rest : List TokenKind) → expr_node h (expr_at h) (stmt_at h) (Elements row) ts rest → Reads (read_primary depth expr stmt ts) (suc h) (Elements row) rest
    unfolding read_primary read_elements
    list_prim row ts rest (m, e, (m2, p, e2)) =
        choose_none _ (not_taken "(" e refl) (choose_some _ _ (punctuator_taken "[" e) (reads_as (ap Elements (to_elements-of row))
        (reads_bind _ (list_complete (element h (expr_at h) (stmt_at h)) (read_element depth expr stmt) h (Stops any_expr) element_complete "]" (λ us after c. stops_at 10 (omega arith) c refl)
        element_start (elements_of row) m m2 (suc (length m)) p (at_first "]" e2) (not_taken "," e2 refl) (stops_at 10 (omega arith) e2 refl)
        (omega (arith, list_count (element h (expr_at h) (stmt_at h)) (element_consumes h (expr_at h) (stmt_at h) (expr_consumes h) (stmt_consumes h)) (elements_of row) m m2 p))) λ i li.
        take_bind _ (punctuator_taken "]" e2) (reads_done (omega arith)))))

    object_prim : (row : _) (ts rest : List TokenKind) → expr_node h (expr_at h) (stmt_at h) (Object row) ts rest → Reads (read_primary depth expr stmt ts) (suc h) (Object row) rest
    unfolding read_primary read_object
    object_prim row ts rest (m, e, (m2, p, e2)) =
        choose_none _ (not_taken "(" e refl) (choose_none _ (not_taken "[" e refl) (choose_some _ _ (punctuator_taken "{" e) (reads_as (ap Object (to_props-of row))
        (reads_bind _ (list_complete (prop h (expr_at h) (stmt_at h)) (read_prop depth expr stmt) h AfterProp prop_complete "}" (λ us after c. after_prop c refl refl)
        prop_start (props_of row) m m2 (suc (length m)) p (at_first "}" e2) (not_taken "," e2 refl) (after_prop e2 refl refl)
        (omega (arith, list_count (prop h (expr_at h) (stmt_at h)) (prop_consumes h (expr_at h) (stmt_at h) (expr_consumes h) (stmt_consumes h)) (props_of row) m m2 p))) λ i li.
        take_bind _ (punctuator_taken "}" e2) (reads_done (omega arith))))))

    literal_word : (ts rest : List TokenKind) (w : Letters) (e : ExprTree) → keyword w ts rest → at_identifier (kinds.Word (codes w) ∷ rest) ≡ false
        → read_literal (kinds.Word (codes w) ∷ rest) ≡ got e 1 rest → Reads (read_primary depth expr stmt ts) (suc h) e rest
    unfolding at_template
    literal_word ts rest w e is no_identifier reads = word_plain _ ts rest is refl refl refl (literal_plain _ ts rest e is refl no_identifier reads)

  -- primaries
  prim_complete : (h : ℕ) → h ≤ suc depth → (e : ExprTree) (ts rest : List TokenKind) → expr_at h primary_expr e ts rest → Stops 0 rest → Reads (read_primary depth expr stmt ts) h e rest
  unfolding expr_at read_primary read_enclosed read_literal at_identifier at_template is_reserved pick
  prim_complete zero fits e ts rest p f = absurd p
  prim_complete (suc h) fits e ts rest (inr (m1, c, (m2, p, c2))) f =
      choose_some _ _ (punctuator_taken "(" c) (reads_bind _ (complete h (omega arith) e m1 m2 p (stops_at 10 (omega arith) c2 refl)) λ i li.
      take_bind _ (punctuator_taken ")" c2) (reads_done (omega arith)))
  prim_complete (suc h) fits (Arrow x body) ts rest (inl p) f = absurd (omega (arith, p.0))
  prim_complete (suc h) fits (BlockArrow x body) ts rest (inl p) f = absurd (omega (arith, p.0))
  prim_complete (suc h) fits (Cond c a b) ts rest (inl p) f = absurd (omega (arith, p.0))
  prim_complete (suc h) fits (Chain level first row) ts rest (inl p) f = absurd (omega (arith, p.0, p.1.0.0))
  prim_complete (suc h) fits (Unary ops e) ts rest (inl p) f = absurd (omega (arith, p.0))
  prim_complete (suc h) fits (Postfix e row) ts rest (inl p) f = absurd (omega (arith, p.0))
  prim_complete (suc h) fits (Number n) ts rest (inl p) f = word_plain h (omega arith) _ ts rest p.1 refl refl refl (literal_plain h (omega arith) _ ts rest (Number n) p.1 refl refl refl)
  prim_complete (suc h) fits (Str s) ts rest (inl p) f = word_plain h (omega arith) _ ts rest p.1 refl refl refl (literal_plain h (omega arith) _ ts rest (Str s) p.1 refl refl refl)
  prim_complete (suc h) fits True ts rest (inl p) f = literal_word h (omega arith) ts rest "true" True p.1 refl refl
  prim_complete (suc h) fits False ts rest (inl p) f = literal_word h (omega arith) ts rest "false" False p.1 refl refl
  prim_complete (suc h) fits Undefined ts rest (inl p) f = literal_word h (omega arith) ts rest "undefined" Undefined p.1 refl refl
  prim_complete (suc h) fits (Template x row) ts rest (inl p) f = template_prim x row (holes_of row) p.1 (plain_template h (omega arith) x row ts rest p.1)
    where
      template_prim : (x : List ℕ) (row : _) (hs : List HoleTree) → template h (expr_at h) (stmt_at h) x hs ts rest
          → Reads (read_plain depth expr stmt ts) (suc h) (Template x row) rest → Reads (read_primary depth expr stmt ts) (suc h) (Template x row) rest
      template_prim x row [] t r = word_plain h (omega arith) _ ts rest t refl refl refl r
      template_prim x row (y ∷ ys) t r = word_plain h (omega arith) _ ts t.0 t.1 refl refl refl r
  prim_complete (suc h) fits (Path k x row) ts rest (inl p) f = plain_path h (omega arith) k x row ts p.1.0 rest p.1.1 p.1.2
  prim_complete (suc h) fits (Name x) ts rest (inl p) f = plain_name h (omega arith) x ts rest p.1 f
  prim_complete (suc h) fits (Elements row) ts rest (inl p) f = list_prim h (omega arith) row ts rest p.1
  prim_complete (suc h) fits (Object row) ts rest (inl p) f = object_prim h (omega arith) row ts rest p.1

  -- members, indices and calls
  bare_post : (h : ℕ) → h ≤ suc depth → (e : ExprTree) (ts rest : List TokenKind) → expr_at h primary_expr e ts rest → Stops 1 rest → Reads (read_postfix depth expr stmt ts) h e rest
  unfolding read_postfix as_postfix
  bare_post h fits e ts rest p f =
      reads_bind _ (prim_complete h fits e ts rest p (stops_below 1 0 rest (omega arith) f)) λ i li.
      take_bind _ (none_more at_part (read_part depth expr stmt) (suc (length rest)) rest (f.no_part (omega arith))) (reads_done li)

  post_complete : (h : ℕ) → h ≤ suc depth → (e : ExprTree) (ts rest : List TokenKind) → expr_at h postfix_expr e ts rest → Stops 1 rest → Reads (read_postfix depth expr stmt ts) h e rest
  unfolding expr_at read_postfix as_postfix
  post_complete zero fits e ts rest p f = absurd p
  post_complete (suc h) fits e ts rest (inr p) f = bare_post (suc h) fits e ts rest (inr p) f
  post_complete (suc h) fits (Postfix e no_parts) ts rest (inl p) f = absurd (omega (arith, p.1.0))
  post_complete (suc h) fits (Postfix e (more_parts x row)) ts rest (inl (le, (some, (m, p, q)))) f =
      reads_as (ap (Postfix e) (to_parts-of (more_parts x row)))
      (reads_bind _ (prim_complete h (omega arith) e ts m p (part_stops h x m q.0 q.1)) λ i li.
      reads_bind _ (many_complete (part h (expr_at h) (stmt_at h)) (read_part depth expr stmt) h (λ us. Unit {0}) (λ y us vs r u. part_complete h (omega arith) y us vs r) at_part (part_start h (omega arith))
      (x ∷ parts_of row) m rest (suc (length m)) q (f.no_part (omega arith)) tt
      (omega (arith, many_count (part h (expr_at h) (stmt_at h)) (part_consumes h (expr_at h) (stmt_at h) (expr_consumes h) (stmt_consumes h)) (x ∷ parts_of row) m rest q))) λ j lj.
      above_complete (omega arith) (omega arith))
  post_complete (suc h) fits (Chain level first row) ts rest (inl p) f = absurd (omega (arith, p.0, p.1.0.0))
  post_complete (suc h) fits e ts rest (inl p) f = bare_post (suc h) fits e ts rest (inl (omega (arith, p.0), p.1)) f

  -- prefix operators
  bare_unary : (h : ℕ) → h ≤ suc depth → (e : ExprTree) (ts rest : List TokenKind) → expr_at h postfix_expr e ts rest → Stops 2 rest → Reads (read_unary depth expr stmt ts) h e rest
  unfolding read_unary as_unary
  bare_unary h fits e ts rest p f =
      take_bind _ (none_more at_prefix read_prefix (suc (length ts)) ts (no_prefix h 1 e ts rest (omega arith) p))
      (reads_bind _ (post_complete h fits e ts rest p (stops_below 2 1 rest (omega arith) f)) λ i li. reads_done li)

  unary_complete : (h : ℕ) → h ≤ suc depth → (e : ExprTree) (ts rest : List TokenKind) → expr_at h 2 e ts rest → Stops 2 rest → Reads (read_unary depth expr stmt ts) h e rest
  unfolding expr_at read_unary as_unary
  unary_complete zero fits e ts rest p f = absurd p
  unary_complete (suc h) fits e ts rest (inr p) f = bare_unary (suc h) fits e ts rest (inr p) f
  unary_complete (suc h) fits (Unary [] e) ts rest (inl p) f = absurd (omega (arith, p.1.0))
  unary_complete (suc h) fits (Unary (op ∷ ops) e) ts rest (inl (le, (some, (m, q, p)))) f =
      reads_bind _ (many_complete prefix read_prefix h (λ us. Unit {0}) (λ y us vs r u. prefix_complete h y us vs r) at_prefix prefix_start
      (op ∷ ops) ts m (suc (length ts)) q (no_prefix h 1 e m rest (omega arith) p) tt (omega (arith, many_count prefix prefix_consumes (op ∷ ops) ts m q))) λ i li.
      reads_bind _ (post_complete h (omega arith) e m rest p (stops_below 2 1 rest (omega arith) f)) λ j lj. above_complete lj (omega arith)
  unary_complete (suc h) fits (Chain level first row) ts rest (inl p) f = absurd (omega (arith, p.0, p.1.0.0))
  unary_complete (suc h) fits e ts rest (inl p) f = bare_unary (suc h) fits e ts rest (inl (omega (arith, p.0), p.1)) f

  -- a level of operators, where the tighter one is read
  module _ (k : ℕ) (tighter : (h : ℕ) → h ≤ suc depth → (e : ExprTree) (ts rest : List TokenKind) → expr_at h (suc (suc k)) e ts rest → Stops (suc (suc k)) rest → Reads (read_chain depth expr stmt k ts) h e rest) where
    operand_complete : (h : ℕ) → h ≤ suc depth → (o : OperandTree) (ts rest : List TokenKind) → operand h (expr_at h) (stmt_at h) (suc (suc (suc k))) (suc (suc k)) o ts rest → Stops (suc (suc k)) rest
        → Reads (read_operand depth expr stmt (suc (suc (suc k))) (read_chain depth expr stmt k) ts) h o rest
    unfolding read_operand
    operand_complete h fits (Operand op e) ts rest (same, (m, q, p)) f =
        take_bind _ (operator_complete op ts m q) (if_true _ (grind (arith, nat_tests, same)) (reads_bind _ (tighter h fits e m rest p f) λ i li. reads_done li))

    operand_start : (h : ℕ) (o : OperandTree) (ts rest : List TokenKind) → operand h (expr_at h) (stmt_at h) (suc (suc (suc k))) (suc (suc k)) o ts rest
        → (nat_eq (operator_precedence ts) (suc (suc (suc k))) ≡ true) × Stops (suc (suc k)) ts
    operand_start h (Operand op e) ts rest (same, (m, q, p)) =
        let s : operator_precedence ts ≡ suc (suc (suc k)) = operator_precedence_is op ts m q ∙ same in
        (grind (arith, nat_tests, s), stops_operator (suc (suc k)) op ts m q (omega (arith, same)))

    bare_chain : (h : ℕ) → h ≤ suc depth → (e : ExprTree) (ts rest : List TokenKind) → expr_at h (suc (suc k)) e ts rest → Stops (suc (suc (suc k))) rest → Reads (read_chain depth expr stmt (suc k) ts) h e rest
    unfolding read_chain as_chain
    bare_chain h fits e ts rest p f =
        let within : suc (suc (suc k)) < operator_precedence rest = f.no_operator in
        reads_bind _ (tighter h fits e ts rest p (stops_below (suc (suc (suc k))) (suc (suc k)) rest (omega arith) f)) λ i li.
        take_bind _ (none_more (λ us. nat_eq (operator_precedence us) (suc (suc (suc k)))) _ (suc (length rest)) rest (grind (arith, nat_tests, within))) (reads_done li)

    node_chain : (h : ℕ) → h ≤ depth → (e : ExprTree) (row : OperandTrees) (ts rest : List TokenKind)
        → chain h (expr_at h) (stmt_at h) (suc (suc (suc k))) e (operands_of row) ts rest → Stops (suc (suc (suc k))) rest → Reads (read_chain depth expr stmt (suc k) ts) (suc h) (Chain (suc (suc (suc k))) e row) rest
    unfolding read_chain as_chain
    node_chain h fits e no_operands ts rest p f = absurd (omega (arith, p.0))
    node_chain h fits e (more_operands (Operand op x) row) ts rest (some, (m, p, q)) f =
        let within : suc (suc (suc k)) < operator_precedence rest = f.no_operator in
        reads_as (ap (Chain (suc (suc (suc k))) e) (to_operands-of (more_operands (Operand op x) row)))
        (reads_bind _ (tighter h (omega arith) e ts m p (operand_start h (Operand op x) m q.0 q.1).1) λ i li.
        reads_bind _ (many_complete (operand h (expr_at h) (stmt_at h) (suc (suc (suc k))) (suc (suc k))) (read_operand depth expr stmt (suc (suc (suc k))) (read_chain depth expr stmt k)) h (Stops (suc (suc k)))
        (operand_complete h (omega arith)) (λ us. nat_eq (operator_precedence us) (suc (suc (suc k)))) (operand_start h)
        (Operand op x ∷ operands_of row) m rest (suc (length m)) q (grind (arith, nat_tests, within)) (stops_below (suc (suc (suc k))) (suc (suc k)) rest (omega arith) f)
        (omega (arith, many_count (operand h (expr_at h) (stmt_at h) (suc (suc (suc k))) (suc (suc k))) (operand_consumes h (expr_at h) (stmt_at h) (expr_consumes h) (stmt_consumes h) (suc (suc (suc k))) (suc (suc k))) (Operand op x ∷ operands_of row) m rest q))) λ j lj.
        above_complete (omega arith) fits)

    level_complete : k ≤ 5 → (h : ℕ) → h ≤ suc depth → (e : ExprTree) (ts rest : List TokenKind) → expr_at h (suc (suc (suc k))) e ts rest → Stops (suc (suc (suc k))) rest → Reads (read_chain depth expr stmt (suc k) ts) h e rest
    unfolding expr_at
    level_complete within zero fits e ts rest p f = absurd p
    level_complete within (suc h) fits e ts rest (inr p) f = bare_chain (suc h) fits e ts rest (inr p) f
    level_complete within (suc h) fits (Chain level first row) ts rest (inl p) f = by (le_cases level (suc (suc k)) p.0)
      where
        by : (level ≤ suc (suc k)) ⊎ (level ≡ suc (suc (suc k))) → Reads (read_chain depth expr stmt (suc k) ts) (suc h) (Chain level first row) rest
        by (inl le) = bare_chain (suc h) fits (Chain level first row) ts rest (inl (le, p.1)) f
        by (inr e) =
            reads_as (ap (λ n. Chain n first row) (sym e))
            (node_chain h (omega arith) first row ts rest (subst (λ (n : ℕ). chain h (expr_at h) (stmt_at h) n first (operands_of row) ts rest) e p.1.1) f)
    level_complete within (suc h) fits e ts rest (inl p) f = bare_chain (suc h) fits e ts rest (inl (omega (arith, p.0), p.1)) f

  chain_complete : (k : ℕ) → k ≤ 6 → (h : ℕ) → h ≤ suc depth → (e : ExprTree) (ts rest : List TokenKind) → expr_at h (suc (suc k)) e ts rest → Stops (suc (suc k)) rest → Reads (read_chain depth expr stmt k ts) h e rest
  unfolding read_chain
  chain_complete zero within h fits e ts rest p f = unary_complete h fits e ts rest p f
  chain_complete (suc k) within h fits e ts rest p f = level_complete k (chain_complete k (omega arith)) (omega arith) h fits e ts rest p f

  -- conditions
  bare_cond : (h : ℕ) → h ≤ suc depth → (e : ExprTree) (ts rest : List TokenKind) → expr_at h or_expr e ts rest → Stops 9 rest → Reads (read_cond depth expr stmt ts) h e rest
  unfolding read_cond
  bare_cond h fits e ts rest p f =
      reads_bind _ (chain_complete 6 (omega arith) h fits e ts rest p (stops_below 9 8 rest (omega arith) f)) λ i li. choose_none _ (f.no_question (omega arith)) (reads_done li)

  cond_complete : (h : ℕ) → h ≤ suc depth → (e : ExprTree) (ts rest : List TokenKind) → expr_at h 9 e ts rest → Stops any_expr rest → Reads (read_cond depth expr stmt ts) h e rest
  unfolding expr_at read_cond read_branches
  cond_complete zero fits e ts rest p f = absurd p
  cond_complete (suc h) fits e ts rest (inr p) f = bare_cond (suc h) fits e ts rest (inr p) (stops_below 10 9 rest (omega arith) f)
  cond_complete (suc h) fits (Cond c a b) ts rest (inl (le, (m, p, (m2, q, (m3, r, (m4, s, t)))))) f =
      reads_bind _ (chain_complete 6 (omega arith) h (omega arith) c ts m p (stops_question m m2 q)) λ i li. choose_some _ _ (punctuator_taken "?" q)
      (reads_bind _ (complete h (omega arith) a m2 m3 r (stops_at 10 (omega arith) s refl)) λ j lj. take_bind _ (punctuator_taken ":" s)
      (reads_bind _ (complete h (omega arith) b m4 rest t f) λ k lk. above_complete (omega arith) (omega arith)))
  cond_complete (suc h) fits (Chain level first row) ts rest (inl p) f = bare_cond (suc h) fits (Chain level first row) ts rest (inl (p.1.0.1, p.1)) (stops_below 10 9 rest (omega arith) f)
  cond_complete (suc h) fits e ts rest (inl p) f = bare_cond (suc h) fits e ts rest (inl (omega (arith, p.0), p.1)) (stops_below 10 9 rest (omega arith) f)

  -- any expression
  bare_any : (h : ℕ) → h ≤ suc depth → (e : ExprTree) (ts rest : List TokenKind) → expr_at h 9 e ts rest → Stops any_expr rest → Reads (read_any depth expr stmt ts) h e rest
  unfolding read_any
  bare_any h fits e ts rest p f = if_false _ (no_arrow h 9 e ts rest (omega arith) p f.no_arrow) (cond_complete h fits e ts rest p f)

  any_complete : (h : ℕ) → h ≤ suc depth → (e : ExprTree) (ts rest : List TokenKind) → expr_at h any_expr e ts rest → Stops any_expr rest → Reads (read_any depth expr stmt ts) h e rest
  unfolding expr_at read_any
  any_complete zero fits e ts rest p f = absurd p
  any_complete (suc h) fits e ts rest (inr p) f = bare_any (suc h) fits e ts rest (inr p) f
  any_complete (suc h) fits (Arrow x body) ts rest (inl p) f = if_true _ (arrow_starts h x ts p.1.0 p.1.2.0 p.1.1 p.1.2.1) (arrow_complete h (omega arith) x body ts rest p.1 f)
  any_complete (suc h) fits (BlockArrow x row) ts rest (inl p) f = if_true _ (arrow_starts h x ts p.1.0 p.1.2.0 p.1.1 p.1.2.1) (block_arrow_complete h (omega arith) x row ts rest p.1)
  any_complete (suc h) fits (Chain level first row) ts rest (inl p) f = bare_any (suc h) fits (Chain level first row) ts rest (inl (omega (arith, p.1.0.1), p.1)) f
  any_complete (suc h) fits e ts rest (inl p) f = bare_any (suc h) fits e ts rest (inl (omega (arith, p.0), p.1)) f

  -- statements
  pub value_complete : (h : ℕ) → h ≤ depth → (e : ExprTree) (ts rest : List TokenKind) → (punctuator "=" ⋅ expr_at h any_expr e ⋅ punctuator ";") ts rest → Reads (read_value depth expr stmt ts) h e rest
  unfolding read_value
  value_complete h fits e ts rest (m, q, (m2, p, r)) =
      take_bind _ (punctuator_taken "=" q) (reads_bind _ (complete h fits e m m2 p (stops_at 10 (omega arith) r refl)) λ i li. take_bind _ (punctuator_taken ";" r) (reads_done li))

  const_complete : (h : ℕ) → h ≤ depth → (x : List ℕ) (t : Option TypeTree) (e : ExprTree) (ts rest : List TokenKind)
      → (identifier x ⋅ optional (type_note h) t ⋅ value h (expr_at h) (stmt_at h) e ⋅ punctuator ";") ts rest → Reads (read_const depth expr stmt ts) (suc h) (Const x t e) rest
  unfolding read_const
  const_complete h fits x t e ts rest (m, p, (m2, q, (m3, (m4, r, s), u))) =
      reads_bind _ (identifier_complete {h = h} p) λ i li. reads_bind _ (note_complete h fits t m m2 q (after_note r refl refl refl refl refl)) λ j lj.
      reads_bind _ (value_complete h fits e m2 rest (m4, r, (m3, s, u))) λ k lk. reads_done (omega arith)

  start_complete : (h : ℕ) → h ≤ depth → (o : Option ExprTree) (ts m rest : List TokenKind) → optional (value h (expr_at h) (stmt_at h)) o ts m → punctuator ";" m rest → Reads (read_start depth expr stmt ts) h o m
  unfolding read_start
  start_complete h fits None ts m rest e u = choose_none _ (not_taken "=" (e ∙ u) refl) (reads_moved e (omega arith))
  start_complete h fits (Some e) ts m rest (m2, q, p) u =
      choose_some _ _ (punctuator_taken "=" q) (reads_bind _ (complete h fits e m2 m p (stops_at 10 (omega arith) u refl)) λ i li. reads_done li)

  start_note : (h : ℕ) (o : Option ExprTree) (ts m rest : List TokenKind) → optional (value h (expr_at h) (stmt_at h)) o ts m → punctuator ";" m rest → AfterNote ts
  start_note h None ts m rest e u = after_note (e ∙ u) refl refl refl refl refl
  start_note h (Some e) ts m rest p u = after_note p.1 refl refl refl refl refl

  let_complete : (h : ℕ) → h ≤ depth → (x : List ℕ) (t : Option TypeTree) (e : _) (ts rest : List TokenKind)
      → (identifier x ⋅ optional (type_note h) t ⋅ optional (value h (expr_at h) (stmt_at h)) (expr_of e) ⋅ punctuator ";") ts rest → Reads (read_let depth expr stmt ts) (suc h) (Let x t e) rest
  unfolding read_let
  let_complete h fits x t e ts rest (m, p, (m2, q, (m3, r, u))) =
      reads_as (ap (Let x t) (to_expr-of e))
      (reads_bind _ (identifier_complete {h = h} p) λ i li. reads_bind _ (note_complete h fits t m m2 q (start_note h (expr_of e) m2 m3 rest r u)) λ j lj.
      reads_bind _ (start_complete h fits (expr_of e) m2 m3 rest r u) λ k lk. take_bind _ (punctuator_taken ";" u) (reads_done (omega arith)))

  assign_complete : (h : ℕ) → h ≤ depth → (x : List ℕ) (e : ExprTree) (ts rest : List TokenKind) → stmt_node h (expr_at h) (stmt_at h) (Assign x e) ts rest → Reads (read_assign depth expr stmt ts) (suc h) (Assign x e) rest
  unfolding read_assign
  assign_complete h fits x e ts rest (m, p, (m2, (m3, q, r), u)) =
      reads_bind _ (identifier_complete {h = h} p) λ i li. reads_bind _ (value_complete h fits e m rest (m3, q, (m2, r, u))) λ j lj. reads_done (omega arith)

  if_complete : (h : ℕ) → h ≤ depth → (c : ExprTree) (s : StmtTree) (o : MaybeStmt) (ts m rest : List TokenKind) → keyword "if" ts m → stmt_node h (expr_at h) (stmt_at h) (If c s o) ts rest
      → (takes_else (If c s o) ≡ true → take_keyword "else" rest ≡ None) → Reads (read_if depth expr stmt m) (suc h) (If c s o) rest
  unfolding read_if read_else
  if_complete h fits c s no_stmt ts m rest w (m1, w1, (m2, e, (m3, p, (m4, e2, q)))) f =
      take_bind _ (punctuator_taken "(" (same_after w w1 ∙ e)) (reads_bind _ (complete h fits c m2 m3 p (stops_at 10 (omega arith) e2 refl)) λ i li. take_bind _ (punctuator_taken ")" e2)
      (reads_bind _ (complete_stmt h fits s m4 rest q (λ _. f refl)) λ j lj. choose_none _ (f refl) (reads_done (omega arith))))
  if_complete h fits c s (a_stmt o) ts m rest w (closed, (m1, w1, (m2, e, (m3, p, (m4, e2, (m5, q, (m6, w2, r))))))) f =
      take_bind _ (punctuator_taken "(" (same_after w w1 ∙ e)) (reads_bind _ (complete h fits c m2 m3 p (stops_at 10 (omega arith) e2 refl)) λ i li. take_bind _ (punctuator_taken ")" e2)
      (reads_bind _ (complete_stmt h fits s m4 m5 q (λ t. absurd (false≢true (sym closed ∙ t)))) λ j lj. choose_some _ _ (keyword_taken "else" w2)
      (reads_bind _ (complete_stmt h fits o m6 rest r f) λ k lk. reads_done (omega arith))))

  loop_keyword_complete : (h : ℕ) (k : LoopKind) (ts rest : List TokenKind) → loop_keyword k ts rest → Reads (read_loop_keyword ts) h k rest
  unfolding read_loop_keyword
  loop_keyword_complete h loops.Const ts rest e = choose_some _ _ (keyword_taken "const" e) (reads_done (omega arith))
  loop_keyword_complete h loops.Let ts rest e = choose_none _ (keyword_not_taken "const" e refl) (take_bind _ (keyword_taken "let" e) (reads_done (omega arith)))

  for_complete : (h : ℕ) → h ≤ depth → (k : LoopKind) (x : List ℕ) (e : ExprTree) (s : StmtTree) (ts m rest : List TokenKind) → keyword "for" ts m → stmt_node h (expr_at h) (stmt_at h) (For k x e s) ts rest
      → (takes_else s ≡ true → take_keyword "else" rest ≡ None) → Reads (read_for depth expr stmt m) (suc h) (For k x e s) rest
  unfolding read_for
  for_complete h fits k x e s ts m rest w (m1, w1, (m2, q, (m3, l, (m4, y, (m5, w2, (m6, p, (m7, q2, r))))))) f =
      take_bind _ (punctuator_taken "(" (same_after w w1 ∙ q)) (reads_bind _ (loop_keyword_complete h k m2 m3 l) λ i li. reads_bind _ (identifier_complete {h = h} y) λ j lj. take_bind _ (keyword_taken "of" w2)
      (reads_bind _ (complete h fits e m5 m6 p (stops_at 10 (omega arith) q2 refl)) λ a la. take_bind _ (punctuator_taken ")" q2)
      (reads_bind _ (complete_stmt h fits s m7 rest r f) λ b lb. reads_done (omega arith))))

  return_complete : (h : ℕ) → h ≤ depth → (e : MaybeExpr) (m rest : List TokenKind) → (optional (expr_at h any_expr) (expr_of e) ⋅ punctuator ";") m rest → Reads (read_return depth expr stmt m) (suc h) (Return e) rest
  unfolding read_return starts_expr
  return_complete h fits no_expr m rest (m2, e, u) = choose_some _ _ (punctuator_taken ";" (e ∙ u)) (reads_done (omega arith))
  return_complete h fits (an_expr e) m rest (m2, p, u) =
      choose_none _ (not_first_taken ";" refl (expr_first h any_expr e m m2 p))
      (reads_bind _ (complete h fits e m m2 p (stops_at 10 (omega arith) u refl)) λ i li. take_bind _ (punctuator_taken ";" u) (reads_done (omega arith)))

  -- a statement that begins with no keyword
  simple_complete : (h : ℕ) (s : StmtTree) (ts rest : List TokenKind) → First ts → at_punctuator "{" ts ≡ false → Reads (read_simple depth expr stmt ts) (suc h) s rest → Reads (read_any_stmt depth expr stmt ts) (suc h) s rest
  unfolding read_any_stmt read_by_keyword starts_expr is_reserved
  simple_complete h s ts rest f brace r =
      choose_none _ (not_first_taken ";" refl f) (if_false _ brace
      (choose_none _ (not_first_word "const" refl f) (choose_none _ (not_first_word "let" refl f) (choose_none _ (not_first_word "if" refl f)
      (choose_none _ (not_first_word "for" refl f) (choose_none _ (not_first_word "return" refl f) r))))))

  any_stmt_complete : (h : ℕ) → h ≤ depth → (s : StmtTree) (ts rest : List TokenKind) → stmt_node h (expr_at h) (stmt_at h) s ts rest → (takes_else s ≡ true → take_keyword "else" rest ≡ None)
      → Reads (read_any_stmt depth expr stmt ts) (suc h) s rest
  unfolding read_any_stmt read_by_keyword read_simple at_assign
  any_stmt_complete h fits (Const x t e) ts rest (m, w, p) f =
      choose_none _ (not_taken ";" w refl) (if_false _ (at_first "{" w) (choose_some _ _ (keyword_taken "const" w) (const_complete h fits x t e m rest p)))
  any_stmt_complete h fits (Let x t e) ts rest (m, w, p) f =
      choose_none _ (not_taken ";" w refl) (if_false _ (at_first "{" w) (choose_none _ (keyword_not_taken "const" w refl) (choose_some _ _ (keyword_taken "let" w) (let_complete h fits x t e m rest p))))
  any_stmt_complete h fits (Assign x e) ts rest p f =
      simple_complete h (Assign x e) ts rest (first_identifier x ts p.0 p.1) (at_first "{" p.1.0)
      (if_true _ (ap at_assign p.1.0 ∙ at_first "=" p.2.1.1) (assign_complete h fits x e ts rest p))
  any_stmt_complete h fits (If c s no_stmt) ts rest p f =
      choose_none _ (not_taken ";" p.1 refl) (if_false _ (at_first "{" p.1) (choose_none _ (keyword_not_taken "const" p.1 refl) (choose_none _ (keyword_not_taken "let" p.1 refl)
      (choose_some _ _ (keyword_taken "if" p.1) (if_complete h fits c s no_stmt ts p.0 rest p.1 p f)))))
  any_stmt_complete h fits (If c s (a_stmt o)) ts rest p f =
      choose_none _ (not_taken ";" p.1.1 refl) (if_false _ (at_first "{" p.1.1) (choose_none _ (keyword_not_taken "const" p.1.1 refl) (choose_none _ (keyword_not_taken "let" p.1.1 refl)
      (choose_some _ _ (keyword_taken "if" p.1.1) (if_complete h fits c s (a_stmt o) ts p.1.0 rest p.1.1 p f)))))
  any_stmt_complete h fits (For k x e s) ts rest p f =
      choose_none _ (not_taken ";" p.1 refl) (if_false _ (at_first "{" p.1) (choose_none _ (keyword_not_taken "const" p.1 refl) (choose_none _ (keyword_not_taken "let" p.1 refl)
      (choose_none _ (keyword_not_taken "if" p.1 refl) (choose_some _ _ (keyword_taken "for" p.1) (for_complete h fits k x e s ts p.0 rest p.1 p f))))))
  any_stmt_complete h fits (Return e) ts rest (m, w, p) f =
      choose_none _ (not_taken ";" w refl) (if_false _ (at_first "{" w) (choose_none _ (keyword_not_taken "const" w refl) (choose_none _ (keyword_not_taken "let" w refl)
      (choose_none _ (keyword_not_taken "if" w refl) (choose_none _ (keyword_not_taken "for" w refl) (choose_some _ _ (keyword_taken "return" w) (return_complete h fits e m rest p)))))))
  any_stmt_complete h fits (Value e) ts rest (m, (none, p), u) f =
      simple_complete h (Value e) ts rest (expr_first h any_expr e ts m p) (not_before_false "{" ts none)
      (if_false _ (no_assign h any_expr e ts m p (at_first "=" u))
      (reads_bind _ (complete h fits e ts m p (stops_at 10 (omega arith) u refl)) λ i li. take_bind _ (punctuator_taken ";" u) (reads_done (omega arith))))
  any_stmt_complete h fits (Block row) ts rest p f =
      choose_none _ (not_taken ";" p.1 refl) (if_true _ (at_first "{" p.1) (reads_as (ap Block (to_stmts-of row)) (reads_bind _ (block_complete h fits (stmts_of row) ts rest p) λ i li. reads_done (omega arith))))
  any_stmt_complete h fits Empty ts rest e f = choose_some _ _ (punctuator_taken ";" e) (reads_done (omega arith))

mutual
  unfolding read_expr read_stmt expr_at stmt_at

  pub expr_complete : (depth h : ℕ) → h ≤ depth → (e : ExprTree) (ts rest : List TokenKind) → expr_at h any_expr e ts rest → Stops any_expr rest → Reads (read_expr depth ts) h e rest
  expr_complete zero zero fits e ts rest p f = absurd p
  expr_complete zero (suc h) fits e ts rest p f = absurd (omega arith)
  expr_complete (suc depth) h fits e ts rest p f = any_complete depth (read_expr depth) (read_stmt depth) (expr_complete depth) (stmt_complete depth) h fits e ts rest p f

  pub stmt_complete : (depth h : ℕ) → h ≤ depth → (s : StmtTree) (ts rest : List TokenKind) → stmt_at h s ts rest → (takes_else s ≡ true → take_keyword "else" rest ≡ None) → Reads (read_stmt depth ts) h s rest
  stmt_complete zero zero fits s ts rest p f = absurd p
  stmt_complete zero (suc h) fits s ts rest p f = absurd (omega arith)
  stmt_complete (suc depth) zero fits s ts rest p f = absurd p
  stmt_complete (suc depth) (suc h) fits s ts rest p f = any_stmt_complete depth (read_expr depth) (read_stmt depth) (expr_complete depth) (stmt_complete depth) h (omega arith) s ts rest p f

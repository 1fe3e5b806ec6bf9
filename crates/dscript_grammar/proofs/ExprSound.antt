-- The readers of expressions and statements are sound: what is read is derived at the start.
use Prim.Native.String.{String as Letters}
use Rattle.std.proofs.Common.{◌≡◌, ℕ, zero, suc, ◌≤◌, max, Bool, true, false, List, [], ◌∷◌, length, Option, Some, None, codes, bytes_eq, refl, ap, sym, ◌∙◌, subst, inl, inr, arith}
use Rattle.std.proofs.lemmas.Bool.{false≢true}
use Rattle.std.proofs.lemmas.Option.{none-some}
use Rattle.std.proofs.lemmas.Slice.Eq.{bytes_eq-Decides}
use Rattle.std.proofs.lemmas.Bool.Decides.{nat_tests}
use Rattle.dscript_lex.specs.declared.token.TokenKind.{TokenKind}
use Rattle.dscript_lex.specs.declared.token.TokenKind.TheVariants as kinds
use Rattle.dscript_grammar.specs.Language.{token, keyword, punctuator, ◌⋅◌, optional, many, list}
use Rattle.dscript_grammar.specs.Reading.{Read, Reader, at_punctuator, take_keyword, at_punctuator_bytes}
use Rattle.dscript_ast.specs.ExprTree.{ExprTree, True, False, Undefined, OperandTree, PartTree, ElementTree, PropTree, HoleTree, Hole, StmtTree}
use Rattle.dscript_ast.specs.Operators.{spelling}
use Rattle.dscript_grammar.specs.ExprGrammar.{expr_precedence, any_expr, postfix_expr, primary_expr, operator, prefix, letter, loop_keyword, type_note, param, params, head, takes_else, operand, part, holes, template, element, prop, block, expr_node, value, stmt_node, expr_at, stmt_at}
use Rattle.dscript_grammar.specs.ExprReading.{read_whole, read_head, read_middle, read_tail, letter_of, read_letter, read_one_of, read_operator, read_prefix, at_prefix, at_part, read_note, read_param, read_params, read_arrow_head, read_block, read_arrow_body, read_arrow, read_holes, read_template, read_element, read_word_prop, read_prop, read_literal, read_named, read_elements, read_object, read_enclosed, read_plain, read_primary, read_index, read_call, read_part, as_postfix, read_postfix, as_unary, read_unary, read_operand, as_chain, read_chain, read_branches, read_cond, read_any, read_value, read_const, read_start, read_let, read_assign, read_else, read_if, read_loop_keyword, read_for, read_return, read_simple, read_by_keyword, read_any_stmt, read_expr, read_stmt}
use Rattle.dscript_ast.specs.declared.operator.BinaryOp.{BinaryOp}
use Rattle.dscript_ast.specs.declared.operator.UnaryOp.{UnaryOp}
use Rattle.dscript_grammar.proofs.Combinators.{Found, Sound, found_some, found_none, found_bind, found_choose, found_if, punctuator_sound, keyword_sound, name_sound, identifier_sound, string_sound, flag_sound, many_sound, list_sound}
use Rattle.dscript_ast.proofs.TreeLists.{exprs_of-to, operands_of-to, parts_of-to, elements_of-to, props_of-to, holes_of-to, stmts_of-to, expr_of-to}
use Rattle.dscript_grammar.proofs.TypeSound.{above_sound, type_sound}

pub expr_derived : (h n level : ℕ) (e : ExprTree) (ts rest : List TokenKind) → suc n ≤ h → expr_precedence e ≤ level
    → ((k : ℕ) → n ≤ k → expr_node k (expr_at k) (stmt_at k) e ts rest) → expr_at h level e ts rest
unfolding expr_at
expr_derived zero n level e ts rest l tight p = absurd (omega arith)
expr_derived (suc k) n level e ts rest l tight p = inl (tight, p k (omega arith))

pub enclosed_derived : (h n level : ℕ) (e : ExprTree) (ts rest : List TokenKind) → suc n ≤ h
    → ((k : ℕ) → n ≤ k → (punctuator "(" ⋅ expr_at k any_expr e ⋅ punctuator ")") ts rest) → expr_at h level e ts rest
unfolding expr_at
enclosed_derived zero n level e ts rest l p = absurd (omega arith)
enclosed_derived (suc k) n level e ts rest l p = inr (p k (omega arith))

pub stmt_derived : (h n : ℕ) (s : StmtTree) (ts rest : List TokenKind) → suc n ≤ h
    → ((k : ℕ) → n ≤ k → stmt_node k (expr_at k) (stmt_at k) s ts rest) → stmt_at h s ts rest
unfolding stmt_at
stmt_derived zero n s ts rest l p = absurd (omega arith)
stmt_derived (suc k) n s ts rest l p = p k (omega arith)

pub looser : (h l m : ℕ) (e : ExprTree) (ts rest : List TokenKind) → l ≤ m → expr_at h l e ts rest → expr_at h m e ts rest
unfolding expr_at
looser zero l m e ts rest le p = p
looser (suc h) l m e ts rest le (inl p) = inl (omega (arith, p.0), p.1)
looser (suc h) l m e ts rest le (inr p) = inr p

-- a statement that is read is derived, and the `else` that would belong to it is not left over
pub record IsDerived (s : StmtTree) (height : ℕ) (ts rest : List TokenKind) : Type 0 where
  pub derived : (h : ℕ) → height ≤ h → stmt_at h s ts rest
  pub no_else : takes_else s ≡ true → take_keyword "else" rest ≡ None

abbrev pub SoundStmt : Reader StmtTree → Type 0
SoundStmt stmt = (ts : List TokenKind) → Found (stmt ts) (λ r. IsDerived r.value r.height ts r.rest)

whole_sound : Sound (λ h s. token (kinds.Whole s)) read_whole
unfolding read_whole
whole_sound [] = found_none
whole_sound (kinds.Whole s ∷ ts) = found_some (λ h l. refl)
whole_sound (_ ∷ ts) = found_none

head_sound : Sound (λ h s. token (kinds.Head s)) read_head
unfolding read_head
head_sound [] = found_none
head_sound (kinds.Head s ∷ ts) = found_some (λ h l. refl)
head_sound (_ ∷ ts) = found_none

middle_sound : Sound (λ h s. token (kinds.Middle s)) read_middle
unfolding read_middle
middle_sound [] = found_none
middle_sound (kinds.Middle s ∷ ts) = found_some (λ h l. refl)
middle_sound (_ ∷ ts) = found_none

tail_sound : Sound (λ h s. token (kinds.Tail s)) read_tail
unfolding read_tail
tail_sound [] = found_none
tail_sound (kinds.Tail s ∷ ts) = found_some (λ h l. refl)
tail_sound (_ ∷ ts) = found_none

letters_sound : (w : List ℕ) (ts : List TokenKind) → Found (letter_of w) (λ k. letter k (kinds.Word w ∷ ts) ts)
unfolding letter_of
letters_sound w ts =
    found_if (λ e. found_some (same "p" e)) λ _. found_if (λ e. found_some (same "f" e)) λ _. found_if (λ e. found_some (same "d" e)) λ _.
    found_if (λ e. found_some (same "r" e)) λ _. found_if (λ e. found_some (same "a" e)) λ _. found_none
  where
    same : (v : Letters) → bytes_eq w (codes v) ≡ true → keyword v (kinds.Word w ∷ ts) ts
    same v e = ap (λ u. kinds.Word u ∷ ts) ((bytes_eq-Decides w (codes v)).0 e)

letter_sound : Sound (λ h. letter) read_letter
unfolding read_letter
letter_sound [] = found_none
letter_sound (kinds.Word w ∷ ts) =
    found_if (λ _. found_choose (λ _. found_none) (λ k e. found_some (λ h l. (letters_sound w ts).is k e))) (λ _. found_none)
letter_sound (_ ∷ ts) = found_none

one_of_sound : (ops : List BinaryOp) → Sound (λ h. operator) (read_one_of ops)
unfolding read_one_of
one_of_sound [] ts = found_none
one_of_sound (op ∷ ops) ts =
    found_choose (λ _. one_of_sound ops ts) (λ r e. found_some (λ h l. (punctuator_sound (spelling op) ts).is r e))

operator_sound : Sound (λ h. operator) read_operator
unfolding read_operator
operator_sound ts = one_of_sound _ ts

prefix_sound : Sound (λ h. prefix) read_prefix
unfolding read_prefix
prefix_sound ts =
    found_choose (λ _. found_choose (λ _. found_none) (λ r e. found_some (λ h l. (punctuator_sound "-" ts).is r e))) (λ r e. found_some (λ h l. (punctuator_sound "!" ts).is r e))

loop_keyword_sound : Sound (λ h. loop_keyword) read_loop_keyword
unfolding read_loop_keyword
loop_keyword_sound ts =
    found_choose (λ _. found_bind (keyword_sound "let" ts) λ r e. found_some (λ h l. e)) (λ r e. found_some (λ h l. (keyword_sound "const" ts).is r e))

no_punctuator : (s : Letters) (ts : List TokenKind) → at_punctuator s ts ≡ false → (more : List TokenKind) → ts ≡ kinds.Punct (codes s) ∷ more → ⊥
unfolding at_punctuator_bytes
no_punctuator s ts e more is = false≢true (sym e ∙ ap (at_punctuator s) is ∙ (bytes_eq-Decides (codes s) (codes s)).1 refl)

module _ (depth : ℕ) (expr : Reader ExprTree) (stmt : Reader StmtTree)
    (sound : Sound (λ h. expr_at h any_expr) expr) (sound_stmt : SoundStmt stmt) where
  pub note_sound : Sound (λ h. optional (type_note h)) (read_note depth expr stmt)
  unfolding read_note
  note_sound ts =
      found_choose (λ _. found_some (λ h l. refl)) (λ r e. found_bind (type_sound depth r) λ t p. found_some (λ h l. (r, (punctuator_sound ":" ts).is r e, p h l)))

  param_sound : Sound param (read_param depth expr stmt)
  unfolding read_param
  param_sound ts =
      found_bind (identifier_sound ts) λ x p. found_bind (flag_sound "?" x.rest) λ o q. found_bind (note_sound o.rest) λ t s.
      found_some (λ h l. (x.rest, p x.height (omega arith), (o.rest, q o.height (omega arith), s h l)))

  pub params_sound : Sound params (read_params depth expr stmt)
  unfolding read_params
  params_sound ts =
      found_bind (punctuator_sound "(" ts) λ r e. found_bind (list_sound param (read_param depth expr stmt) param_sound ")" (suc (length r)) r) λ ps p.
      found_bind (punctuator_sound ")" ps.rest) λ r2 e2. found_some (λ h l. (r, e, (ps.rest, p h l, e2)))

  arrow_head_sound : Sound head (read_arrow_head depth expr stmt)
  unfolding read_arrow_head
  arrow_head_sound ts =
      found_if (λ _. found_bind (params_sound ts) λ ps p. found_some (λ h l. p h l)) (λ _. found_bind (identifier_sound ts) λ x p. found_some (λ h l. p x.height (omega arith)))

  stmt_found_alone : Sound stmt_at stmt
  stmt_found_alone ts = record { is = λ r e. ((sound_stmt ts).is r e).derived }

  pub block_sound : Sound (λ h. block h (expr_at h) (stmt_at h)) (read_block depth expr stmt)
  unfolding read_block
  block_sound ts =
      found_bind (punctuator_sound "{" ts) λ r e. found_bind (many_sound stmt_at stmt stmt_found_alone _ (suc (length r)) r) λ ss p.
      found_bind (punctuator_sound "}" ss.rest) λ r2 e2. found_some (λ h l. (r, e, (ss.rest, p h l, e2)))

  arrow_sound : Sound (λ h. expr_at h any_expr) (read_arrow depth expr stmt)
  unfolding read_arrow read_arrow_body
  arrow_sound ts =
      found_bind (arrow_head_sound ts) λ x p. found_bind (punctuator_sound "=>" x.rest) λ r e. found_if
      (λ _. found_bind (block_sound r) λ ss q.
      found_some (λ h l. expr_derived h (max x.height ss.height) any_expr _ _ _ l (omega arith) (λ k lk.
      (x.rest, p k (omega arith), (r, e, subst (λ (xs : List StmtTree). block k (expr_at k) (stmt_at k) xs r ss.rest) (sym (stmts_of-to ss.value)) (q k (omega arith)))))))
      (λ n. found_bind (sound r) λ b q.
      found_some (λ h l. expr_derived h (max x.height b.height) any_expr _ _ _ l (omega arith) (λ k lk.
      (x.rest, p k (omega arith), (r, e, (no_punctuator "{" r n, q k (omega arith)))))))

  holes_sound : (n : ℕ) → Sound (λ h. holes h (expr_at h) (stmt_at h)) (read_holes depth expr stmt n)
  unfolding read_holes
  holes_sound zero ts = found_none
  holes_sound (suc n) ts =
      found_bind (sound ts) λ e p. found_choose
      (λ _. found_bind (middle_sound e.rest) λ m q. found_bind (holes_sound n m.rest) λ hs r.
      found_some (λ h l. more_holes h e.value m.value hs.value ts e.rest m.rest hs.rest (p h (omega arith)) (q m.height (omega arith)) (r h (omega arith))))
      (λ t q. found_some (λ h l. (e.rest, p h l, (tail_sound e.rest).is t q t.height (omega arith))))
    where
      more_holes : (h : ℕ) (e : ExprTree) (m : List ℕ) (hs : List HoleTree) (ts mid after rest : List TokenKind) → expr_at h any_expr e ts mid → token (kinds.Middle m) mid after
          → holes h (expr_at h) (stmt_at h) hs after rest → holes h (expr_at h) (stmt_at h) (Hole e m ∷ hs) ts rest
      more_holes h e m [] ts mid after rest p q r = absurd r
      more_holes h e m (x ∷ xs) ts mid after rest p q r = (mid, p, (after, q, r))

  template_sound : Sound (λ h x. template h (expr_at h) (stmt_at h) x.text x.holes) (read_template depth expr stmt)
  unfolding read_template
  template_sound ts =
      found_choose
      (λ _. found_bind (head_sound ts) λ x q. found_bind (holes_sound (length x.rest) x.rest) λ hs r.
      found_some (λ h l. some_holes h x.value hs.value ts x.rest hs.rest (q x.height (omega arith)) (r h l)))
      (λ w q. found_some (λ h l. (whole_sound ts).is w q w.height (omega arith)))
    where
      some_holes : (h : ℕ) (x : List ℕ) (hs : List HoleTree) (ts mid rest : List TokenKind) → token (kinds.Head x) ts mid → holes h (expr_at h) (stmt_at h) hs mid rest
          → template h (expr_at h) (stmt_at h) x hs ts rest
      some_holes h x [] ts mid rest p q = absurd q
      some_holes h x (y ∷ ys) ts mid rest p q = (mid, p, q)

  element_sound : Sound (λ h. element h (expr_at h) (stmt_at h)) (read_element depth expr stmt)
  unfolding read_element
  element_sound ts =
      found_bind (flag_sound "..." ts) λ s p. found_bind (sound s.rest) λ e q. found_some (λ h l. (s.rest, p s.height (omega arith), q h l))

  word_prop_sound : Sound (λ h. prop h (expr_at h) (stmt_at h)) (read_word_prop depth expr stmt)
  unfolding read_word_prop
  word_prop_sound ts =
      found_bind (name_sound ts) λ x p. found_choose
      (λ _. found_bind (identifier_sound ts) λ y q. found_some (λ h l. q y.height (omega arith)))
      (λ r e. found_bind (sound r) λ v q. found_some (λ h l. (x.rest, p x.height (omega arith), (r, (punctuator_sound ":" x.rest).is r e, q h l))))

  prop_sound : Sound (λ h. prop h (expr_at h) (stmt_at h)) (read_prop depth expr stmt)
  unfolding read_prop
  prop_sound ts =
      found_choose
      (λ _. found_choose (λ _. word_prop_sound ts)
      (λ s e. found_bind (punctuator_sound ":" s.rest) λ r c. found_bind (sound r) λ v q. found_some (λ h l. (s.rest, (string_sound ts).is s e s.height (omega arith), (r, c, q h l)))))
      (λ r e. found_bind (sound r) λ v q. found_some (λ h l. (r, (punctuator_sound "..." ts).is r e, q h l)))

  literal_sound : Sound (λ h. expr_at h primary_expr) read_literal
  unfolding read_literal
  literal_sound [] = found_none
  literal_sound (kinds.Number n ∷ ts) = found_some (λ h l. expr_derived h 0 primary_expr _ _ _ l (omega arith) (λ k lk. refl))
  literal_sound (kinds.Str s ∷ ts) = found_some (λ h l. expr_derived h 0 primary_expr _ _ _ l (omega arith) (λ k lk. refl))
  literal_sound (kinds.Word w ∷ ts) =
      found_if (λ e. found_some (λ h l. expr_derived h 0 primary_expr True _ _ l (omega arith) (λ k lk. ap (λ v. kinds.Word v ∷ ts) ((bytes_eq-Decides w (codes "true")).0 e)))) λ _.
      found_if (λ e. found_some (λ h l. expr_derived h 0 primary_expr False _ _ l (omega arith) (λ k lk. ap (λ v. kinds.Word v ∷ ts) ((bytes_eq-Decides w (codes "false")).0 e)))) λ _.
      found_if (λ e. found_some (λ h l. expr_derived h 0 primary_expr Undefined _ _ l (omega arith) (λ k lk. ap (λ v. kinds.Word v ∷ ts) ((bytes_eq-Decides w (codes "undefined")).0 e)))) λ _.
      found_none
  literal_sound (_ ∷ ts) = found_none

  named_sound : Sound (λ h. expr_at h primary_expr) (read_named depth expr stmt)
  unfolding read_named
  named_sound ts =
      found_choose
      (λ _. found_bind (identifier_sound ts) λ x p. found_some (λ h l. expr_derived h 0 primary_expr _ _ _ l (omega arith) (λ k lk. p x.height (omega arith))))
      (λ x e. found_bind (template_sound x.rest) λ t p. found_some (λ h l. expr_derived h t.height primary_expr _ _ _ l (omega arith) (λ k lk.
      (x.rest, (letter_sound ts).is x e x.height (omega arith), subst (λ (hs : List HoleTree). template k (expr_at k) (stmt_at k) t.value.text hs x.rest t.rest) (sym (holes_of-to t.value.holes)) (p k lk)))))

  plain_sound : Sound (λ h. expr_at h primary_expr) (read_plain depth expr stmt)
  unfolding read_plain
  plain_sound ts =
      found_if
      (λ _. found_bind (template_sound ts) λ t p. found_some (λ h l. expr_derived h t.height primary_expr _ _ _ l (omega arith) (λ k lk.
      subst (λ (hs : List HoleTree). template k (expr_at k) (stmt_at k) t.value.text hs ts t.rest) (sym (holes_of-to t.value.holes)) (p k lk))))
      (λ _. found_if (λ _. named_sound ts) (λ _. literal_sound ts))

  primary_sound : Sound (λ h. expr_at h primary_expr) (read_primary depth expr stmt)
  unfolding read_primary read_object read_elements read_enclosed
  primary_sound ts =
      found_choose
      (λ _. found_choose
      (λ _. found_choose (λ _. plain_sound ts)
      (λ r e. found_bind (list_sound (λ h. prop h (expr_at h) (stmt_at h)) (read_prop depth expr stmt) prop_sound "}" (suc (length r)) r) λ ps p. found_bind (punctuator_sound "}" ps.rest) λ r2 e2.
      found_some (λ h l. expr_derived h ps.height primary_expr _ _ _ l (omega arith) (λ k lk.
      (r, (punctuator_sound "{" ts).is r e, (ps.rest, subst (λ (xs : List PropTree). list (prop k (expr_at k) (stmt_at k)) xs r ps.rest) (sym (props_of-to ps.value)) (p k lk), e2))))))
      (λ r e. found_bind (list_sound (λ h. element h (expr_at h) (stmt_at h)) (read_element depth expr stmt) element_sound "]" (suc (length r)) r) λ es p. found_bind (punctuator_sound "]" es.rest) λ r2 e2.
      found_some (λ h l. expr_derived h es.height primary_expr _ _ _ l (omega arith) (λ k lk.
      (r, (punctuator_sound "[" ts).is r e, (es.rest, subst (λ (xs : List ElementTree). list (element k (expr_at k) (stmt_at k)) xs r es.rest) (sym (elements_of-to es.value)) (p k lk), e2))))))
      (λ r e. found_bind (sound r) λ x p. found_bind (punctuator_sound ")" x.rest) λ r2 e2.
      found_some (λ h l. enclosed_derived h x.height primary_expr _ _ _ l (λ k lk. (r, (punctuator_sound "(" ts).is r e, (x.rest, p k lk, e2)))))

  part_sound : Sound (λ h. part h (expr_at h) (stmt_at h)) (read_part depth expr stmt)
  unfolding read_part read_call read_index
  part_sound ts =
      found_choose
      (λ _. found_choose
      (λ _. found_bind (punctuator_sound "(" ts) λ r e. found_bind (list_sound (λ h. expr_at h any_expr) expr sound ")" (suc (length r)) r) λ es p. found_bind (punctuator_sound ")" es.rest) λ r2 e2.
      found_some (λ h l. (r, e, (es.rest, subst (λ (xs : List ExprTree). list (expr_at h any_expr) xs r es.rest) (sym (exprs_of-to es.value)) (p h l), e2))))
      (λ r e. found_bind (sound r) λ x p. found_bind (punctuator_sound "]" x.rest) λ r2 e2. found_some (λ h l. (r, (punctuator_sound "[" ts).is r e, (x.rest, p h l, e2)))))
      (λ r e. found_bind (name_sound r) λ x p. found_some (λ h l. (r, (punctuator_sound "." ts).is r e, p x.height (omega arith))))

  postfix_sound : Sound (λ h. expr_at h postfix_expr) (read_postfix depth expr stmt)
  unfolding read_postfix as_postfix
  postfix_sound ts =
      found_bind (primary_sound ts) λ e p. found_bind (many_sound (λ h. part h (expr_at h) (stmt_at h)) (read_part depth expr stmt) part_sound at_part (suc (length e.rest)) e.rest) λ ps q.
      as_postfix_sound e p ps.value ps.height ps.rest q
    where
      as_postfix_sound : (e : Read ExprTree) → ((h : ℕ) → e.height ≤ h → expr_at h primary_expr e.value ts e.rest) → (ps : List PartTree) (n : ℕ) (rest : List TokenKind)
          → ((h : ℕ) → n ≤ h → many (part h (expr_at h) (stmt_at h)) ps e.rest rest) → Found (as_postfix depth expr stmt e.value e.height ps n rest) (λ r. (h : ℕ) → r.height ≤ h → expr_at h postfix_expr r.value ts r.rest)
      as_postfix_sound e p [] n rest q =
          found_some (λ h l. subst (λ (r : List TokenKind). expr_at h postfix_expr e.value ts r) (q n (omega arith)) (looser h 0 1 e.value ts e.rest (omega arith) (p h l)))
      as_postfix_sound e p (x ∷ xs) n rest q =
          above_sound depth (max e.height n) _ rest (λ h l. expr_derived h (max e.height n) postfix_expr _ _ _ l (omega arith) (λ k lk.
          (subst (λ (ys : List PartTree). 1 ≤ length ys) (sym (parts_of-to (x ∷ xs))) (omega arith), (e.rest, p k (omega arith), subst (λ (ys : List PartTree). many (part k (expr_at k) (stmt_at k)) ys e.rest rest) (sym (parts_of-to (x ∷ xs))) (q k (omega arith))))))

  unary_sound : Sound (λ h. expr_at h 2) (read_unary depth expr stmt)
  unfolding read_unary as_unary
  unary_sound ts =
      found_bind (many_sound (λ h. prefix) read_prefix prefix_sound at_prefix (suc (length ts)) ts) λ ops q. found_bind (postfix_sound ops.rest) λ e p.
      as_unary_sound ops.value ops.rest (q ops.height (omega arith)) e p
    where
      as_unary_sound : (ops : List UnaryOp) (mid : List TokenKind) → many prefix ops ts mid → (e : Read ExprTree) → ((h : ℕ) → e.height ≤ h → expr_at h postfix_expr e.value mid e.rest)
          → Found (as_unary depth expr stmt ops e.value e.height e.rest) (λ r. (h : ℕ) → r.height ≤ h → expr_at h 2 r.value ts r.rest)
      as_unary_sound [] mid q e p =
          found_some (λ h l. subst (λ (us : List TokenKind). expr_at h 2 e.value us e.rest) (sym q) (looser h 1 2 e.value mid e.rest (omega arith) (p h l)))
      as_unary_sound (op ∷ ops) mid q e p =
          above_sound depth e.height _ e.rest (λ h l. expr_derived h e.height 2 _ _ _ l (omega arith) (λ k lk. (omega arith, (mid, q, p k lk))))

  operand_sound : (level tighter : ℕ) (one : Reader ExprTree) → Sound (λ h. expr_at h tighter) one → Sound (λ h. operand h (expr_at h) (stmt_at h) level tighter) (read_operand depth expr stmt level one)
  unfolding read_operand
  operand_sound level tighter one sound_one ts =
      found_bind (operator_sound ts) λ o p. found_if
      (λ same. found_bind (sound_one o.rest) λ e q. found_some (λ h l. (grind (arith, nat_tests), (o.rest, p o.height (omega arith), q h l))))
      (λ _. found_none)

  chain_sound : (k : ℕ) → k ≤ 6 → Sound (λ h. expr_at h (suc (suc k))) (read_chain depth expr stmt k)
  unfolding read_chain as_chain
  chain_sound zero le ts = unary_sound ts
  chain_sound (suc k) le ts =
      found_bind (chain_sound k (omega arith) ts) λ e p.
      found_bind (many_sound (λ h. operand h (expr_at h) (stmt_at h) (suc (suc (suc k))) (suc (suc k))) _
      (operand_sound (suc (suc (suc k))) (suc (suc k)) (read_chain depth expr stmt k) (chain_sound k (omega arith))) _ (suc (length e.rest)) e.rest) λ os q.
      as_chain_sound e p os.value os.height os.rest q
    where
      as_chain_sound : (e : Read ExprTree) → ((h : ℕ) → e.height ≤ h → expr_at h (suc (suc k)) e.value ts e.rest) → (os : List OperandTree) (n : ℕ) (rest : List TokenKind)
          → ((h : ℕ) → n ≤ h → many (operand h (expr_at h) (stmt_at h) (suc (suc (suc k))) (suc (suc k))) os e.rest rest)
          → Found (as_chain depth expr stmt (suc (suc (suc k))) e.value e.height os n rest) (λ r. (h : ℕ) → r.height ≤ h → expr_at h (suc (suc (suc k))) r.value ts r.rest)
      as_chain_sound e p [] n rest q =
          found_some (λ h l. subst (λ (r : List TokenKind). expr_at h (suc (suc (suc k))) e.value ts r) (q n (omega arith)) (looser h (suc (suc k)) (suc (suc (suc k))) e.value ts e.rest (omega arith) (p h l)))
      as_chain_sound e p (x ∷ xs) n rest q =
          above_sound depth (max e.height n) _ rest (λ h l. expr_derived h (max e.height n) (suc (suc (suc k))) _ _ _ l (omega arith) (λ j lj. (
            (omega arith, omega arith),
            (
              subst (λ (ys : List OperandTree). 1 ≤ length ys) (sym (operands_of-to (x ∷ xs))) (omega arith),
              (
                e.rest,
                p j (omega arith),
                subst (λ (ys : List OperandTree). many (operand j (expr_at j) (stmt_at j) (suc (suc (suc k))) (suc (suc k))) ys e.rest rest) (sym (operands_of-to (x ∷ xs))) (q j (omega arith)),
              ),
            ),
          )))

  cond_sound : Sound (λ h. expr_at h 9) (read_cond depth expr stmt)
  unfolding read_cond read_branches
  cond_sound ts =
      found_bind (chain_sound 6 (omega arith) ts) λ c p. found_choose
      (λ _. found_some (λ h l. looser h 8 9 c.value ts c.rest (omega arith) (p h l)))
      (λ r e. found_bind (sound r) λ a q. found_bind (punctuator_sound ":" a.rest) λ r2 e2. found_bind (sound r2) λ b s.
      above_sound depth (max c.height (max a.height b.height)) _ b.rest (λ h l. expr_derived h (max c.height (max a.height b.height)) 9 _ _ _ l (omega arith) (λ k lk.
      (c.rest, p k (omega arith), (r, (punctuator_sound "?" c.rest).is r e, (a.rest, q k (omega arith), (r2, e2, s k (omega arith))))))))

  any_sound : Sound (λ h. expr_at h any_expr) (read_any depth expr stmt)
  unfolding read_any
  any_sound ts =
      found_if (λ _. arrow_sound ts) (λ _. record { is = λ r e h l. looser h 9 10 r.value ts r.rest (omega arith) ((cond_sound ts).is r e h l) })

  -- statements
  pub value_sound : Sound (λ h e. punctuator "=" ⋅ expr_at h any_expr e ⋅ punctuator ";") (read_value depth expr stmt)
  unfolding read_value
  value_sound ts =
      found_bind (punctuator_sound "=" ts) λ r e. found_bind (sound r) λ v p. found_bind (punctuator_sound ";" v.rest) λ r2 e2.
      found_some (λ h l. (r, e, (v.rest, p h l, e2)))

  simple_derived : (s : StmtTree) (n : ℕ) (ts rest : List TokenKind) → takes_else s ≡ false
      → ((h : ℕ) → n ≤ h → stmt_node h (expr_at h) (stmt_at h) s ts rest) → IsDerived s (suc n) ts rest
  simple_derived s n ts rest none p = record {
    derived = λ h l. stmt_derived h n s ts rest l p;
    no_else = λ e. absurd (false≢true (sym none ∙ e));
  }

  const_sound : (start ts : List TokenKind) → keyword "const" start ts → Found (read_const depth expr stmt ts) (λ r. IsDerived r.value r.height start r.rest)
  unfolding read_const
  const_sound start ts w =
      found_bind (identifier_sound ts) λ x p. found_bind (note_sound x.rest) λ t q. found_bind (value_sound t.rest) λ v s.
      found_some (simple_derived _ (max t.height v.height) _ _ refl (λ h l.
      let u = s h (omega arith) in (ts, w, (x.rest, p x.height (omega arith), (t.rest, q h (omega arith), (u.2.0, (u.0, u.1, u.2.1), u.2.2))))))

  start_sound : Sound (λ h. optional (value h (expr_at h) (stmt_at h))) (read_start depth expr stmt)
  unfolding read_start
  start_sound ts =
      found_choose (λ _. found_some (λ h l. refl)) (λ r e. found_bind (sound r) λ v p. found_some (λ h l. (r, (punctuator_sound "=" ts).is r e, p h l)))

  let_sound : (start ts : List TokenKind) → keyword "let" start ts → Found (read_let depth expr stmt ts) (λ r. IsDerived r.value r.height start r.rest)
  unfolding read_let
  let_sound start ts w =
      found_bind (identifier_sound ts) λ x p. found_bind (note_sound x.rest) λ t q. found_bind (start_sound t.rest) λ v s. found_bind (punctuator_sound ";" v.rest) λ r e.
      found_some (simple_derived _ (max t.height v.height) _ _ refl (λ h l.
      (ts, w, (x.rest, p x.height (omega arith), (t.rest, q h (omega arith), (v.rest, subst (λ (o : Option ExprTree). optional (value h (expr_at h) (stmt_at h)) o t.rest v.rest) (sym (expr_of-to v.value)) (s h (omega arith)), e))))))

  assign_sound : (ts : List TokenKind) → Found (read_assign depth expr stmt ts) (λ r. IsDerived r.value r.height ts r.rest)
  unfolding read_assign
  assign_sound ts =
      found_bind (identifier_sound ts) λ x p. found_bind (value_sound x.rest) λ v s.
      found_some (simple_derived _ v.height _ _ refl (λ h l. let u = s h l in (x.rest, p x.height (omega arith), (u.2.0, (u.0, u.1, u.2.1), u.2.2))))

  if_sound : (start ts : List TokenKind) → keyword "if" start ts → Found (read_if depth expr stmt ts) (λ r. IsDerived r.value r.height start r.rest)
  unfolding read_if read_else
  if_sound start ts w =
      found_bind (punctuator_sound "(" ts) λ r e. found_bind (sound r) λ c p. found_bind (punctuator_sound ")" c.rest) λ r2 e2. found_bind (sound_stmt r2) λ s q.
      found_choose
      (λ none. found_some (record {
        derived = λ h l. stmt_derived h (max c.height s.height) _ _ _ l (λ k lk. (ts, w, (r, e, (c.rest, p k (omega arith), (r2, e2, q.derived k (omega arith))))));
        no_else = λ _. none;
      }))
      (λ r3 some. found_bind (sound_stmt r3) λ o t. found_some (record {
        derived = λ h l. stmt_derived h (max c.height (max s.height o.height)) _ _ _ l (λ k lk. (
          kept (takes_else s.value) s.rest r3 q.no_else some,
          (ts, w, (r, e, (c.rest, p k (omega arith), (r2, e2, (s.rest, q.derived k (omega arith), (r3, (keyword_sound "else" s.rest).is r3 some, t.derived k (omega arith))))))),
        ));
        no_else = t.no_else;
      }))
    where
      kept : (b : Bool) (us r : List TokenKind) → (b ≡ true → take_keyword "else" us ≡ None) → take_keyword "else" us ≡ Some r → b ≡ false
      kept false us r none some = refl
      kept true us r none some = absurd (none-some _ (sym (none refl) ∙ some))

  for_sound : (start ts : List TokenKind) → keyword "for" start ts → Found (read_for depth expr stmt ts) (λ r. IsDerived r.value r.height start r.rest)
  unfolding read_for
  for_sound start ts w =
      found_bind (punctuator_sound "(" ts) λ r e. found_bind (loop_keyword_sound r) λ k p. found_bind (identifier_sound k.rest) λ x q.
      found_bind (keyword_sound "of" x.rest) λ r2 e2. found_bind (sound r2) λ v s. found_bind (punctuator_sound ")" v.rest) λ r3 e3. found_bind (sound_stmt r3) λ b t.
      found_some (record {
        derived = λ h l. stmt_derived h (max v.height b.height) _ _ _ l (λ j lj.
            (ts, w, (r, e, (k.rest, p k.height (omega arith), (x.rest, q x.height (omega arith), (r2, e2, (v.rest, s j (omega arith), (r3, e3, t.derived j (omega arith)))))))));
        no_else = t.no_else;
      })

  return_sound : (start ts : List TokenKind) → keyword "return" start ts → Found (read_return depth expr stmt ts) (λ r. IsDerived r.value r.height start r.rest)
  unfolding read_return
  return_sound start ts w =
      found_choose
      (λ _. found_bind (sound ts) λ v p. found_bind (punctuator_sound ";" v.rest) λ r e.
      found_some (simple_derived _ v.height _ _ refl (λ h l. (ts, w, (v.rest, p h l, e)))))
      (λ r e. found_some (simple_derived _ 0 _ _ refl (λ h l. (ts, w, (ts, refl, (punctuator_sound ";" ts).is r e)))))

  simple_sound : (ts : List TokenKind) → at_punctuator "{" ts ≡ false → Found (read_simple depth expr stmt ts) (λ r. IsDerived r.value r.height ts r.rest)
  unfolding read_simple
  simple_sound ts brace =
      found_if (λ _. assign_sound ts)
      (λ _. found_bind (sound ts) λ v p. found_bind (punctuator_sound ";" v.rest) λ r e.
      found_some (simple_derived _ v.height _ _ refl (λ h l. (v.rest, (no_punctuator "{" ts brace, p h l), e))))

  by_keyword_sound : (ts : List TokenKind) → at_punctuator "{" ts ≡ false → Found (read_by_keyword depth expr stmt ts) (λ r. IsDerived r.value r.height ts r.rest)
  unfolding read_by_keyword
  by_keyword_sound ts brace =
      found_choose (λ _. found_choose (λ _. found_choose (λ _. found_choose (λ _. found_choose (λ _. simple_sound ts brace)
      (λ r e. return_sound ts r ((keyword_sound "return" ts).is r e)))
      (λ r e. for_sound ts r ((keyword_sound "for" ts).is r e)))
      (λ r e. if_sound ts r ((keyword_sound "if" ts).is r e)))
      (λ r e. let_sound ts r ((keyword_sound "let" ts).is r e)))
      (λ r e. const_sound ts r ((keyword_sound "const" ts).is r e))

  any_stmt_sound : SoundStmt (read_any_stmt depth expr stmt)
  unfolding read_any_stmt
  any_stmt_sound ts =
      found_choose
      (λ _. found_if
      (λ _. found_bind (block_sound ts) λ ss p. found_some (simple_derived _ ss.height _ _ refl (λ h l.
      subst (λ (xs : List StmtTree). block h (expr_at h) (stmt_at h) xs ts ss.rest) (sym (stmts_of-to ss.value)) (p h l))))
      (λ brace. by_keyword_sound ts brace))
      (λ r e. found_some (simple_derived _ 0 _ _ refl (λ h l. (punctuator_sound ";" ts).is r e)))

mutual
  unfolding read_expr read_stmt

  pub expr_sound : (depth : ℕ) → Sound (λ h. expr_at h any_expr) (read_expr depth)
  expr_sound zero ts = found_none
  expr_sound (suc depth) ts = any_sound depth (read_expr depth) (read_stmt depth) (expr_sound depth) (stmt_sound depth) ts

  pub stmt_sound : (depth : ℕ) → SoundStmt (read_stmt depth)
  stmt_sound zero ts = found_none
  stmt_sound (suc depth) ts = any_stmt_sound depth (read_expr depth) (read_stmt depth) (expr_sound depth) (stmt_sound depth) ts

-- The readers of items and declarations are sound: what is read is derived at the start.
use Rattle.std.proofs.Common.{ℕ, zero, suc, ◌≤◌, List, [], ◌∷◌, length, refl, sym, subst, arith}
use Rattle.dscript_lex.specs.declared.token.TokenKind.{TokenKind}
use Rattle.dscript_grammar.specs.Language.{keyword, punctuator, identifier, string, ◌⋅◌, many, separated}
use Rattle.dscript_grammar.specs.Reading.{Reader, read_identifier}
use Rattle.dscript_ast.specs.TypeTree.{TypeTree}
use Rattle.dscript_grammar.specs.TypeGrammar.{any_type, type_at}
use Rattle.dscript_grammar.specs.TypeReading.{read_type}
use Rattle.dscript_grammar.specs.ExprGrammar.{any_expr, expr_at}
use Rattle.dscript_grammar.specs.ExprReading.{read_expr, read_stmt}
use Rattle.dscript_ast.specs.FileTree.{MarkedTree, Marked, DeclTree, ItemTree, Declared, Empty}
use Rattle.dscript_grammar.specs.FileGrammar.{import_name, mark, type_params, extends, decl_node, marked_at, item_at}
use Rattle.dscript_grammar.specs.FileReading.{read_import_name, read_mark, read_type_params, read_extends, read_const, read_function, read_namespace, read_interface, read_alias, read_decl, read_declared, read_marked, read_source, read_import_all, read_import_names, read_import, read_item, read_called}
use Rattle.dscript_ast.specs.declared.file.Mark.{Mark}
use Rattle.dscript_grammar.proofs.Combinators.{Found, Sound, found_some, found_none, found_bind, found_choose, punctuator_sound, keyword_sound, identifier_sound, string_sound, many_sound, separated_sound, list_sound}
use Rattle.dscript_ast.proofs.TreeLists.{marked_of-to}
use Rattle.dscript_grammar.proofs.TypeSound.{type_sound, body_sound}
use Rattle.dscript_grammar.proofs.ExprSound.{expr_sound, stmt_sound, note_sound, params_sound, block_sound, value_sound}

import_name_sound : Sound (λ h. import_name) read_import_name
unfolding read_import_name
import_name_sound ts =
    found_bind (identifier_sound ts) λ x p. found_choose
    (λ _. found_some (λ h l. (x.rest, p x.height (omega arith), refl)))
    (λ r e. found_bind (identifier_sound r) λ y q. found_some (λ h l. (x.rest, p x.height (omega arith), (r, (keyword_sound "as" x.rest).is r e, q y.height (omega arith)))))

mark_sound : Sound (λ h. mark) read_mark
unfolding read_mark
mark_sound ts =
    found_choose
    (λ _. found_choose (λ _. found_some (λ h l. refl)) (λ r e. found_some (λ h l. (keyword_sound "export" ts).is r e)))
    (λ r e. found_bind (keyword_sound "public" r) λ r2 e2. found_bind (keyword_sound "export" r2) λ r3 e3. found_some (λ h l. (r, (punctuator_sound "@@" ts).is r e, (r2, e2, e3))))

type_params_sound : Sound (λ h. type_params) read_type_params
unfolding read_type_params
type_params_sound ts =
    found_choose (λ _. found_some (λ h l. refl)) λ r e. found_bind (separated_sound (λ h. identifier) read_identifier identifier_sound "," (length r) r) λ xs p. found_bind (punctuator_sound ">" xs.rest) λ r2 e2.
    found_some (λ h l. some_params xs.value ts r xs.rest r2 ((punctuator_sound "<" ts).is r e) (p xs.height (omega arith)) e2)
  where
    some_params : (xs : List (List ℕ)) (ts r mid rest : List TokenKind) → punctuator "<" ts r → separated "," identifier xs r mid → punctuator ">" mid rest → type_params xs ts rest
    some_params [] ts r mid rest e p e2 = absurd p
    some_params (x ∷ more) ts r mid rest e p e2 = (r, e, (mid, p, e2))

extends_sound : (depth : ℕ) → Sound extends (read_extends depth)
unfolding read_extends
extends_sound depth ts =
    found_choose (λ _. found_some (λ h l. refl)) λ r e.
    record { is = λ x is h l. some_extends h x.value ts r x.rest ((keyword_sound "extends" ts).is r e) ((separated_sound (λ h. type_at h any_type) (read_type depth) (type_sound depth) "," (length r) r).is x is h l) }
  where
    some_extends : (h : ℕ) (xs : List TypeTree) (ts r rest : List TokenKind) → keyword "extends" ts r → separated "," (type_at h any_type) xs r rest → extends h xs ts rest
    some_extends h [] ts r rest e p = absurd p
    some_extends h (x ∷ more) ts r rest e p = (r, e, p)

marked_derived : (h n : ℕ) → suc n ≤ h → (m : Mark) (d : DeclTree) (ts mid rest : List TokenKind) → mark m ts mid → ((k : ℕ) → n ≤ k → decl_node k (marked_at k) d mid rest) → marked_at h (Marked m d) ts rest
unfolding marked_at
marked_derived zero n l m d ts mid rest p q = absurd (omega arith)
marked_derived (suc h) n l m d ts mid rest p q = (mid, p, q h (omega arith))

module _ (depth : ℕ) (marked : Reader MarkedTree) (sound : Sound marked_at marked) where
  const_sound : (start ts : List TokenKind) → keyword "const" start ts → Found (read_const depth marked ts) (λ r. (h : ℕ) → r.height ≤ h → decl_node h (marked_at h) r.value start r.rest)
  unfolding read_const
  const_sound start ts w =
      found_bind (identifier_sound ts) λ x p. found_bind (note_sound depth (read_expr depth) (read_stmt depth) (expr_sound depth) (stmt_sound depth) x.rest) λ t q.
      found_bind (value_sound depth (read_expr depth) (read_stmt depth) (expr_sound depth) (stmt_sound depth) t.rest) λ e s.
      found_some (λ h l. (ts, w, (x.rest, p x.height (omega arith), (t.rest, q h (omega arith), s h (omega arith)))))

  function_sound : (start ts : List TokenKind) → keyword "function" start ts → Found (read_function depth marked ts) (λ r. (h : ℕ) → r.height ≤ h → decl_node h (marked_at h) r.value start r.rest)
  unfolding read_function
  function_sound start ts w =
      found_bind (identifier_sound ts) λ x p. found_bind (type_params_sound x.rest) λ ps q.
      found_bind (params_sound depth (read_expr depth) (read_stmt depth) (expr_sound depth) (stmt_sound depth) ps.rest) λ xs s.
      found_bind (note_sound depth (read_expr depth) (read_stmt depth) (expr_sound depth) (stmt_sound depth) xs.rest) λ t u.
      found_bind (block_sound depth (read_expr depth) (read_stmt depth) (expr_sound depth) (stmt_sound depth) t.rest) λ ss v.
      found_some (λ h l. (ts, w, (x.rest, p x.height (omega arith), (ps.rest, q ps.height (omega arith), (xs.rest, s h (omega arith), (t.rest, u h (omega arith), v h (omega arith)))))))

  namespace_sound : (start ts : List TokenKind) → keyword "namespace" start ts → Found (read_namespace depth marked ts) (λ r. (h : ℕ) → r.height ≤ h → decl_node h (marked_at h) r.value start r.rest)
  unfolding read_namespace
  namespace_sound start ts w =
      found_bind (separated_sound (λ h. identifier) read_identifier identifier_sound "." (length ts) ts) λ xs p. found_bind (punctuator_sound "{" xs.rest) λ r e.
      found_bind (many_sound marked_at marked sound _ (suc (length r)) r) λ ms q. found_bind (punctuator_sound "}" ms.rest) λ r2 e2.
      found_some (λ h l. (ts, w, (xs.rest, p xs.height (omega arith), (r, e, (ms.rest, subst (λ (ys : List MarkedTree). many (marked_at h) ys r ms.rest) (sym (marked_of-to ms.value)) (q h l), e2)))))

  interface_sound : (start ts : List TokenKind) → keyword "interface" start ts → Found (read_interface depth marked ts) (λ r. (h : ℕ) → r.height ≤ h → decl_node h (marked_at h) r.value start r.rest)
  unfolding read_interface
  interface_sound start ts w =
      found_bind (identifier_sound ts) λ x p. found_bind (type_params_sound x.rest) λ ps q. found_bind (extends_sound depth ps.rest) λ es s.
      found_bind (body_sound (read_type depth) (type_sound depth) es.rest) λ ms u.
      found_some (λ h l. (ts, w, (x.rest, p x.height (omega arith), (ps.rest, q ps.height (omega arith), (es.rest, s h (omega arith), u h (omega arith))))))

  alias_sound : (start ts : List TokenKind) → keyword "type" start ts → Found (read_alias depth marked ts) (λ r. (h : ℕ) → r.height ≤ h → decl_node h (marked_at h) r.value start r.rest)
  unfolding read_alias
  alias_sound start ts w =
      found_bind (identifier_sound ts) λ x p. found_bind (type_params_sound x.rest) λ ps q. found_bind (punctuator_sound "=" ps.rest) λ r e. found_bind (type_sound depth r) λ t s.
      found_bind (punctuator_sound ";" t.rest) λ r2 e2.
      found_some (λ h l. (ts, w, (x.rest, p x.height (omega arith), (ps.rest, q ps.height (omega arith), (r, e, (t.rest, s h l, e2))))))

  decl_sound : Sound (λ h. decl_node h (marked_at h)) (read_decl depth marked)
  unfolding read_decl
  decl_sound ts =
      found_choose (λ _. found_choose (λ _. found_choose (λ _. found_choose (λ _. found_bind (keyword_sound "type" ts) λ r e. alias_sound ts r e)
      (λ r e. interface_sound ts r ((keyword_sound "interface" ts).is r e)))
      (λ r e. namespace_sound ts r ((keyword_sound "namespace" ts).is r e)))
      (λ r e. function_sound ts r ((keyword_sound "function" ts).is r e)))
      (λ r e. const_sound ts r ((keyword_sound "const" ts).is r e))

  declared_sound : Sound marked_at (read_declared depth marked)
  unfolding read_declared
  declared_sound ts =
      found_bind (mark_sound ts) λ m p. found_bind (decl_sound m.rest) λ d q. found_some (λ h l. marked_derived h d.height l m.value d.value ts m.rest d.rest (p m.height (omega arith)) q)

pub marked_sound : (depth : ℕ) → Sound marked_at (read_marked depth)
unfolding read_marked
marked_sound zero ts = found_none
marked_sound (suc depth) ts = declared_sound depth (read_marked depth) (marked_sound depth) ts

source_sound : Sound (λ h s. keyword "from" ⋅ string s ⋅ punctuator ";") read_source
unfolding read_source
source_sound ts =
    found_bind (keyword_sound "from" ts) λ r e. found_bind (string_sound r) λ s p. found_bind (punctuator_sound ";" s.rest) λ r2 e2. found_some (λ h l. (r, e, (s.rest, p s.height (omega arith), e2)))

item_derived : (h : ℕ) (i : ItemTree) (ts rest : List TokenKind) → 1 ≤ h → ((k : ℕ) → item_at (suc k) i ts rest) → item_at h i ts rest
item_derived zero i ts rest l p = absurd (omega arith)
item_derived (suc k) i ts rest l p = p k

import_sound : (start ts : List TokenKind) → keyword "import" start ts → Found (read_import ts) (λ r. (h : ℕ) → r.height ≤ h → item_at h r.value start r.rest)
unfolding read_import read_import_all read_import_names item_at
import_sound start ts w =
    found_choose
    (λ _. found_bind (punctuator_sound "{" ts) λ r e. found_bind (list_sound (λ h. import_name) read_import_name import_name_sound "}" (suc (length r)) r) λ xs p. found_bind (punctuator_sound "}" xs.rest) λ r2 e2.
    found_bind (source_sound r2) λ s q. found_some (λ h l. item_derived h _ _ _ l (λ k. (ts, w, (r, e, (xs.rest, p xs.height (omega arith), (r2, e2, q s.height (omega arith))))))))
    (λ r e. found_bind (keyword_sound "as" r) λ r2 e2. found_bind (identifier_sound r2) λ x p. found_bind (source_sound x.rest) λ s q.
    found_some (λ h l. item_derived h _ _ _ l (λ k. (ts, w, (r, (punctuator_sound "*" ts).is r e, (r2, e2, (x.rest, p x.height (omega arith), q s.height (omega arith))))))))

declared_item : (h : ℕ) (m : MarkedTree) (ts rest : List TokenKind) → marked_at h m ts rest → item_at h (Declared m) ts rest
unfolding item_at marked_at
declared_item zero m ts rest p = absurd p
declared_item (suc h) m ts rest p = p

pub item_sound : (depth : ℕ) → Sound item_at (read_item depth)
unfolding read_item item_at
item_sound zero ts = found_none
item_sound (suc depth) ts =
    found_choose
    (λ _. found_choose
    (λ _. found_bind (marked_sound (suc depth) ts) λ m p. found_some (λ h l. declared_item h m.value ts m.rest (p h l)))
    (λ r e. import_sound ts r ((keyword_sound "import" ts).is r e)))
    (λ r e. found_some (λ h l. item_derived h Empty ts r l (λ k. (punctuator_sound ";" ts).is r e)))

pub called_sound : (depth : ℕ) → Sound (λ h e. punctuator "(" ⋅ expr_at h any_expr e ⋅ punctuator ")" ⋅ punctuator ";") (read_called depth)
unfolding read_called
called_sound depth ts =
    found_bind (punctuator_sound "(" ts) λ r e. found_bind (expr_sound depth r) λ x p. found_bind (punctuator_sound ")" x.rest) λ r2 e2. found_bind (punctuator_sound ";" r2) λ r3 e3.
    found_some (λ h l. (r, e, (x.rest, p h l, (r2, e2, e3))))

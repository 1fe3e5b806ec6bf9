-- The reader of types is sound: a type that is read is derived at the start.
use Rattle.std.proofs.Common.{◌≡◌, ℕ, zero, suc, ◌≤◌, max, Bool, true, List, [], ◌∷◌, length, Option, Some, None, nat_le, codes, refl, ap, sym, subst, inl, inr, arith}
use Rattle.std.proofs.lemmas.Slice.Eq.{bytes_eq-Decides}
use Rattle.std.proofs.lemmas.Bool.Decides.{nat_tests}
use Rattle.dscript_lex.specs.declared.token.TokenKind.{TokenKind}
use Rattle.dscript_lex.specs.declared.token.TokenKind.TheVariants as kinds
use Rattle.dscript_grammar.specs.Language.{punctuator, name, identifier, ◌⋅◌, only_if, times, separated, list}
use Rattle.dscript_grammar.specs.Reading.{Read, Reader, choose, take_punctuator, read_identifier}
use Rattle.dscript_ast.specs.TypeTree.{TypeTree, Undefined, True, False, FieldTree, MemberTree, to_types}
use Rattle.dscript_grammar.specs.TypeGrammar.{type_precedence, any_type, last_type, earlier_type, base_type, union, arguments, field, member, member_end, body, type_node, type_at}
use Rattle.dscript_grammar.specs.TypeReading.{above, read_field, read_fields, read_method, read_member, after_member_end, read_ended, read_body, read_arguments, read_named, read_literal, read_enclosed, read_base, read_function, read_brackets, as_array, read_array, read_union, as_union, read_any, read_type}
use Rattle.dscript_grammar.proofs.Combinators.{Found, Sound, found_some, found_none, found_bind, found_choose, found_if, punctuator_sound, name_sound, identifier_sound, flag_sound, many_sound, separated_sound, list_sound}
use Rattle.dscript_ast.proofs.TreeLists.{types_of-to, fields_of-to, members_of-to}

-- a node, and a pair of parentheses, at each great enough height
pub node_derived : (h n : ℕ) (level : ℕ) (t : TypeTree) (ts rest : List TokenKind) → suc n ≤ h → type_precedence t ≤ level
    → ((k : ℕ) → n ≤ k → type_node (type_at k) t ts rest) → type_at h level t ts rest
unfolding type_at
node_derived zero n level t ts rest l tight p = absurd (omega arith)
node_derived (suc k) n level t ts rest l tight p = inl (tight, p k (omega arith))

pub enclosed_derived : (h n : ℕ) (level : ℕ) (t : TypeTree) (ts rest : List TokenKind) → suc n ≤ h
    → ((k : ℕ) → n ≤ k → (punctuator "(" ⋅ type_at k any_type t ⋅ punctuator ")") ts rest) → type_at h level t ts rest
unfolding type_at
enclosed_derived zero n level t ts rest l p = absurd (omega arith)
enclosed_derived (suc k) n level t ts rest l p = inr (p k (omega arith))

-- a type of a level is also derived where a looser level is allowed
pub looser : (h l m : ℕ) (t : TypeTree) (ts rest : List TokenKind) → l ≤ m → type_at h l t ts rest → type_at h m t ts rest
unfolding type_at
looser zero l m t ts rest le p = p
looser (suc h) l m t ts rest le (inl p) = inl (omega (arith, p.0), p.1)
looser (suc h) l m t ts rest le (inr p) = inr p

pub above_sound : {X : Type 0} (depth n : ℕ) (x : X) (rest : List TokenKind) {Q : Read X → Type 0}
    → Q (record { value = x; height = suc n; rest = rest }) → Found (above depth n x rest) Q
unfolding above
above_sound depth n x rest q = found_if (λ e. found_some q) (λ e. found_none)

after_member_end-derived : (ts : List TokenKind) → member_end ts (after_member_end ts)
unfolding after_member_end choose
after_member_end-derived ts = by (take_punctuator ";" ts) (take_punctuator "," ts) (punctuator_sound ";" ts).is (punctuator_sound "," ts).is
  where
    by : (m n : Option (List TokenKind)) → ((r : List TokenKind) → m ≡ Some r → punctuator ";" ts r) → ((r : List TokenKind) → n ≡ Some r → punctuator "," ts r)
        → member_end ts (choose m (choose n ts (λ r. r)) (λ r. r))
    by (Some r) n p q = inl (p r refl)
    by None (Some r) p q = inr (inl (q r refl))
    by None None p q = inr (inr refl)

module _ (type : Reader TypeTree) (sound : Sound (λ h. type_at h any_type) type) where
  pub field_sound : Sound (λ h. field (type_at h)) (read_field type)
  unfolding read_field
  field_sound ts =
      found_bind (identifier_sound ts) λ x p. found_bind (flag_sound "?" x.rest) λ o q. found_bind (punctuator_sound ":" o.rest) λ r e.
      found_bind (sound r) λ t s.
      found_some (λ h l. (x.rest, p x.height (omega arith), (o.rest, q o.height (omega arith), (r, e, s h l))))

  pub fields_sound : Sound (λ h xs. punctuator "(" ⋅ list (field (type_at h)) xs ⋅ punctuator ")") (read_fields type)
  unfolding read_fields
  fields_sound ts =
      found_bind (punctuator_sound "(" ts) λ r e. found_bind (list_sound (λ h. field (type_at h)) (read_field type) field_sound ")" (suc (length r)) r) λ fs p.
      found_bind (punctuator_sound ")" fs.rest) λ r2 e2.
      found_some (λ h l. (r, e, (fs.rest, p h l, e2)))

  method_sound : (x : List ℕ) (o : Bool) (ts : List TokenKind)
      → Found (read_method type x o ts) (λ r. (h : ℕ) → r.height ≤ h → (start mid : List TokenKind) → name x start mid → only_if o (punctuator "?") mid ts → member (type_at h) r.value start r.rest)
  unfolding read_method
  method_sound x o ts =
      found_bind (fields_sound ts) λ fs p. found_bind (punctuator_sound ":" fs.rest) λ r e. found_bind (sound r) λ t s.
      found_some (λ h l start mid n f.
      let q = p h (omega arith) in
      let q1 = subst (λ (xs : List FieldTree). list (field (type_at h)) xs q.0 q.2.0) (sym (fields_of-to fs.value)) q.2.1 in
      (mid, n, (ts, f, (q.0, q.1, (q.2.0, q1, (fs.rest, q.2.2, (r, e, s h (omega arith))))))))

  pub member_sound : Sound (λ h. member (type_at h)) (read_member type)
  unfolding read_member
  member_sound ts =
      found_bind (name_sound ts) λ x p. found_bind (flag_sound "?" x.rest) λ o q.
      found_choose
      (λ e. record { is = λ r is h l. (method_sound x.value o.value o.rest).is r is h l ts x.rest (p x.height (omega arith)) (q o.height (omega arith)) })
      (λ r e. found_bind (sound r) λ t s.
      found_some (λ h l. (x.rest, p x.height (omega arith), (o.rest, q o.height (omega arith), (r, (punctuator_sound ":" o.rest).is r e, s h l)))))

  pub ended_sound : Sound (λ h m. member (type_at h) m ⋅ member_end) (read_ended type)
  unfolding read_ended
  ended_sound ts = found_bind (member_sound ts) λ m p. found_some (λ h l. (m.rest, p h l, after_member_end-derived m.rest))

  pub body_sound : Sound (λ h. body (type_at h)) (read_body type)
  unfolding read_body
  body_sound ts =
      found_bind (punctuator_sound "{" ts) λ r e. found_bind (many_sound (λ h m. member (type_at h) m ⋅ member_end) (read_ended type) ended_sound _ (suc (length r)) r) λ ms p.
      found_bind (punctuator_sound "}" ms.rest) λ r2 e2.
      found_some (λ h l. (r, e, (ms.rest, p h l, e2)))

  arguments_sound : Sound (λ h. arguments (type_at h)) (read_arguments type)
  unfolding read_arguments
  arguments_sound ts =
      found_choose (λ e. found_some (λ h l. refl)) λ r e.
      found_bind (separated_sound (λ h. type_at h any_type) type sound "," (length r) r) λ args p.
      found_bind (punctuator_sound ">" args.rest) λ r2 e2.
      found_some (λ h l. some_arguments h args.value ((punctuator_sound "<" ts).is r e) (p h l) e2)
    where
      some_arguments : (h : ℕ) (xs : List TypeTree) {ts r mid : List TokenKind} {rest : List TokenKind} → punctuator "<" ts r → separated "," (type_at h any_type) xs r mid → punctuator ">" mid rest → arguments (type_at h) (to_types xs) ts rest
      some_arguments h [] e p e2 = absurd p
      some_arguments h (x ∷ xs) {ts = ts} {r = r} {mid = mid} {rest = rest} e p e2 =
          (r, e, (mid, subst (λ (ys : List TypeTree). separated "," (type_at h any_type) (x ∷ ys) r mid) (sym (types_of-to xs)) p, e2))

  named_sound : Sound (λ h. type_at h base_type) (read_named type)
  unfolding read_named
  named_sound ts =
      found_bind (separated_sound (λ h. identifier) read_identifier identifier_sound "." (length ts) ts) λ xs p. found_bind (arguments_sound xs.rest) λ args q.
      found_some (λ h l. node_derived h args.height base_type _ _ _ l (omega arith) (λ k lk. (xs.rest, p xs.height (omega arith), q k lk)))

  literal_sound : Sound (λ h. type_at h base_type) read_literal
  unfolding read_literal
  literal_sound [] = found_none
  literal_sound (kinds.Str s ∷ ts) = found_some (λ h l. node_derived h 0 base_type _ _ _ l (omega arith) (λ k lk. refl))
  literal_sound (kinds.Number n ∷ ts) = found_some (λ h l. node_derived h 0 base_type _ _ _ l (omega arith) (λ k lk. refl))
  literal_sound (kinds.Word w ∷ ts) =
      found_if (λ e. found_some (λ h l. node_derived h 0 base_type Undefined _ _ l (omega arith) (λ k lk. ap (λ v. kinds.Word v ∷ ts) ((bytes_eq-Decides w (codes "undefined")).0 e)))) λ _.
      found_if (λ e. found_some (λ h l. node_derived h 0 base_type True _ _ l (omega arith) (λ k lk. ap (λ v. kinds.Word v ∷ ts) ((bytes_eq-Decides w (codes "true")).0 e)))) λ _.
      found_if (λ e. found_some (λ h l. node_derived h 0 base_type False _ _ l (omega arith) (λ k lk. ap (λ v. kinds.Word v ∷ ts) ((bytes_eq-Decides w (codes "false")).0 e)))) λ _.
      found_none
  literal_sound (_ ∷ ts) = found_none

  base_sound : Sound (λ h. type_at h base_type) (read_base type)
  unfolding read_base read_enclosed
  base_sound ts =
      found_choose
      (λ _. found_if
      (λ e. found_bind (body_sound ts) λ ms p. found_some (λ h l. node_derived h ms.height base_type _ _ _ l (omega arith) (λ k lk.
      subst (λ (xs : List MemberTree). body (type_at k) xs ts ms.rest) (sym (members_of-to ms.value)) (p k lk))))
      (λ e. found_if (λ e. named_sound ts) (λ e. literal_sound ts)))
      (λ r e. found_bind (sound r) λ t p. found_bind (punctuator_sound ")" t.rest) λ r2 e2.
      found_some (λ h l. enclosed_derived h t.height base_type _ _ _ l (λ k lk. (r, (punctuator_sound "(" ts).is r e, (t.rest, p k lk, e2)))))

  function_sound : Sound (λ h. type_at h last_type) (read_function type)
  unfolding read_function
  function_sound ts =
      found_bind (fields_sound ts) λ fs p. found_bind (punctuator_sound "=>" fs.rest) λ r e. found_bind (sound r) λ t s.
      found_some (λ h l. node_derived h (max fs.height t.height) last_type _ _ _ l (omega arith) (λ k lk.
      let q = p k (omega arith) in
      let q1 = subst (λ (xs : List FieldTree). list (field (type_at k)) xs q.0 q.2.0) (sym (fields_of-to fs.value)) q.2.1 in
      (q.0, q.1, (q.2.0, q1, (fs.rest, q.2.2, (r, e, s k (omega arith)))))))

  brackets_sound : (n : ℕ) → Sound (λ h k. times k (punctuator "[" ⋅ punctuator "]")) (read_brackets n)
  unfolding read_brackets
  brackets_sound zero ts = found_some (λ h l. refl)
  brackets_sound (suc n) ts =
      found_choose (λ _. found_some (λ h l. refl)) λ r e. found_bind (punctuator_sound "]" r) λ r2 e2. found_bind (brackets_sound n r2) λ k p.
      found_some (λ h l. (r2, (r, (punctuator_sound "[" ts).is r e, e2), p k.height (omega arith)))

  module _ (depth : ℕ) where
    array_sound : Sound (λ h. type_at h earlier_type) (read_array type depth)
    unfolding read_array as_array
    array_sound ts =
        found_bind (base_sound ts) λ t p. found_bind (brackets_sound (length t.rest) t.rest) λ k q.
        found_if
        (λ e. found_some (λ h l. no_brackets h t.value k.value ts t.rest k.rest e (p h l) (q k.height (omega arith))))
        (λ e. above_sound depth t.height _ k.rest (λ h l. node_derived h t.height earlier_type _ _ _ l (omega arith) (λ j lj.
        (grind (arith, nat_tests), (t.rest, p j lj, q k.height (omega arith))))))
      where
        no_brackets : (h : ℕ) (t : TypeTree) (k : ℕ) (ts mid rest : List TokenKind) → nat_le k 0 ≡ true → type_at h base_type t ts mid → times k (punctuator "[" ⋅ punctuator "]") mid rest → type_at h earlier_type t ts rest
        no_brackets h t zero ts mid rest e p q = subst (λ (r : List TokenKind). type_at h earlier_type t ts r) q (looser h 0 1 t ts _ (omega arith) p)
        no_brackets h t (suc k) ts mid rest e p q = absurd (grind (arith, nat_tests))

    union_sound : (n : ℕ) → Sound (λ h. union (type_at h)) (read_union type depth n)
    unfolding read_union
    union_sound zero ts = found_none
    union_sound (suc n) ts =
        found_if
        (λ _. found_bind (function_sound ts) λ t p. found_some (λ h l. p h l))
        (λ _. found_bind (array_sound ts) λ t p. found_choose (λ _. found_some (λ h l. looser h 1 2 t.value ts t.rest (omega arith) (p h l))) λ r e.
        found_bind (union_sound n r) λ more q. found_some (λ h l. union_more h t.value more.value ts t.rest r more.rest (p h (omega arith)) ((punctuator_sound "|" t.rest).is r e) (q h (omega arith))))
      where
        union_more : (h : ℕ) (t : TypeTree) (more : List TypeTree) (ts mid r rest : List TokenKind) → type_at h earlier_type t ts mid → punctuator "|" mid r → union (type_at h) more r rest → union (type_at h) (t ∷ more) ts rest
        union_more h t [] ts mid r rest p e q = absurd q
        union_more h t (u ∷ more) ts mid r rest p e q = (mid, p, (r, e, q))

    any_sound : Sound (λ h. type_at h any_type) (read_any type depth)
    unfolding read_any as_union
    any_sound ts = found_bind (union_sound (suc (length ts)) ts) λ parts p. as_union_sound parts.value parts.height parts.rest p
      where
        as_union_sound : (xs : List TypeTree) (n : ℕ) (rest : List TokenKind) → ((h : ℕ) → n ≤ h → union (type_at h) xs ts rest) → Found (as_union type depth xs n rest) (λ r. (h : ℕ) → r.height ≤ h → type_at h any_type r.value ts r.rest)
        as_union_sound [] n rest p = found_none
        as_union_sound (t ∷ []) n rest p = found_some (λ h l. looser h 2 3 t ts rest (omega arith) (p h l))
        as_union_sound (t ∷ u ∷ more) n rest p =
            above_sound depth n _ rest (λ h l. node_derived h n any_type _ _ _ l (omega arith) (λ k lk.
            (omega arith, subst (λ (xs : List TypeTree). union (type_at k) (t ∷ u ∷ xs) ts rest) (sym (types_of-to more)) (p k lk))))

pub type_sound : (depth : ℕ) → Sound (λ h. type_at h any_type) (read_type depth)
unfolding read_type
type_sound zero ts = found_none
type_sound (suc depth) ts = any_sound (read_type depth) (type_sound depth) depth ts

-- The tokens that are printed of a type derive it, within the height within which other tokens do.
use Rattle.std.proofs.Common.{◌≡◌, ℕ, zero, suc, ◌≤◌, ◌<◌, Bool, true, false, List, [], ◌∷◌, ◌++◌, map, nat_lt, refl, ap, sym, subst, inl, inr, arith}
use Rattle.std.proofs.lemmas.Bool.Decides.{nat_tests}
use Rattle.dscript_lex.specs.declared.token.TokenKind.{TokenKind}
use Rattle.dscript_lex.specs.declared.token.TokenKind.TheVariants as kinds
use Rattle.dscript_grammar.specs.Language.{Language, punctuator, name, identifier, ◌⋅◌, only_if, many, separated, list}
use Rattle.dscript_ast.specs.TypeTree.{TypeTree, Union, Array, Named, Str, Number, Undefined, True, False, Body, Function, FieldTree, Field, MemberTree, Property, Method, TypeTrees, no_types, more_types, FieldTrees, no_fields, more_fields, MemberTrees, no_members, more_members, types_of, fields_of, members_of}
use Rattle.dscript_grammar.specs.TypeGrammar.{type_precedence, any_type, last_type, earlier_type, base_type, union, arguments, field, member, member_end, body, type_node, type_at}
use Rattle.dscript_print.specs.Runs.{punct, enclosed, enclosed_if, run_if, concat_tokens, separate, word_run}
use Rattle.dscript_print.specs.TypeKinds.{argument_run, optional_name, type_node_kinds, union_kinds, types_kinds, field_kinds, fields_kinds, member_kinds, members_kinds, type_kinds}
use Rattle.dscript_print.proofs.Spelled.{balanced_token, semicolon}
use Rattle.dscript_print.proofs.Reprint.{AllSpell, token_left, reprints_in_braces, IsReprint, Reprints, reprints_seq, reprints_nothing, reprints_token, reprints_after, reprints_id, reprints_after_id, reprints_given, reprints_if, reprints_times, reprints_many, reprints_separated, reprints_list, reprints_alone, reprint_enclosed}

pub types_runs : (ts : TypeTrees) → types_kinds ts ≡ map (type_kinds any_type) (types_of ts)
unfolding types_kinds
types_runs no_types = refl
types_runs (more_types t ts) = ap (λ xs. type_kinds any_type t ∷ xs) (types_runs ts)

pub fields_runs : (xs : FieldTrees) → fields_kinds xs ≡ map field_kinds (fields_of xs)
unfolding fields_kinds
fields_runs no_fields = refl
fields_runs (more_fields x xs) = ap (λ ys. field_kinds x ∷ ys) (fields_runs xs)

pub members_runs : (xs : MemberTrees) → members_kinds xs ≡ map member_kinds (members_of xs)
unfolding members_kinds
members_runs no_members = refl
members_runs (more_members x xs) = ap (λ ys. member_kinds x ∷ ys) (members_runs xs)

module _ (type type2 : ℕ → TypeTree → Language)
    (one : (level : ℕ) (t : TypeTree) → Reprints (type level t) (type2 level t) (type_kinds level t)) where
  reprints_name : (x : List ℕ) (optional : Bool) → Reprints (name x ⋅ only_if optional (punctuator "?")) (name x ⋅ only_if optional (punctuator "?")) (optional_name x optional)
  reprints_name x optional = reprints_after (kinds.Word x) refl _ _ (run_if optional (punct "?" ∷ [])) (reprints_if optional (punctuator "?") (punctuator "?") _ (reprints_token (punct "?") refl))

  pub reprints_note : (t : TypeTree) → Reprints (punctuator ":" ⋅ type any_type t) (punctuator ":" ⋅ type2 any_type t) (punct ":" ∷ type_kinds any_type t)
  reprints_note t = reprints_after (punct ":") refl (type any_type t) (type2 any_type t) _ (one any_type t)

  pub reprints_field : (x : FieldTree) → Reprints (field type x) (field type2 x) (field_kinds x)
  unfolding field_kinds
  reprints_field (Field x optional t) =
      reprints_after_id x _ _ _ (reprints_seq (only_if optional (punctuator "?")) (only_if optional (punctuator "?")) _ _ (run_if optional (punct "?" ∷ [])) _ (reprints_if optional (punctuator "?") (punctuator "?") _ (reprints_token (punct "?") refl)) (reprints_note t))

  pub reprints_fields : (B B2 : Language) (ys : List TokenKind) (xs : FieldTrees) → Reprints B B2 ys
      → Reprints (punctuator "(" ⋅ list (field type) (fields_of xs) ⋅ B) (punctuator "(" ⋅ list (field type2) (fields_of xs) ⋅ B2) (punct "(" ∷ (separate "," (fields_kinds xs) ++ ys))
  reprints_fields B B2 ys xs b =
      subst (λ (runs : List (List TokenKind)). Reprints (punctuator "(" ⋅ list (field type) (fields_of xs) ⋅ B) (punctuator "(" ⋅ list (field type2) (fields_of xs) ⋅ B2) (punct "(" ∷ (separate "," runs ++ ys))) (sym (fields_runs xs))
      (reprints_after (punct "(") refl _ _ _ (reprints_seq (list (field type) (fields_of xs)) (list (field type2) (fields_of xs)) B B2 (separate "," (map field_kinds (fields_of xs))) ys
      (reprints_list (field type) (field type2) field_kinds reprints_field (fields_of xs)) b))

  reprints_end : Reprints member_end member_end (punct ";" ∷ [])
  reprints_end ts rest fine (inl e) = record { derived = λ more. inl refl; fine = balanced_token (punct ";") refl semicolon; left = (token_left _ ts rest fine e).1 }
  reprints_end ts rest fine (inr (inl e)) = record { derived = λ more. inl refl; fine = balanced_token (punct ";") refl semicolon; left = (token_left _ ts rest fine e).1 }
  reprints_end ts rest fine (inr (inr e)) = record { derived = λ more. inl refl; fine = balanced_token (punct ";") refl semicolon; left = subst AllSpell e fine }

  pub reprints_member : (x : MemberTree) → Reprints (member type x ⋅ member_end) (member type2 x ⋅ member_end) (member_kinds x)
  unfolding member_kinds
  reprints_member (Property x optional t) =
      reprints_seq _ _ member_end member_end _ (punct ";" ∷ [])
      (reprints_after (kinds.Word x) refl _ _ _ (reprints_seq (only_if optional (punctuator "?")) (only_if optional (punctuator "?")) _ _ (run_if optional (punct "?" ∷ [])) _ (reprints_if optional (punctuator "?") (punctuator "?") _ (reprints_token (punct "?") refl)) (reprints_note t)))
      reprints_end
  reprints_member (Method x optional fields t) =
      reprints_seq _ _ member_end member_end _ (punct ";" ∷ [])
      (reprints_after (kinds.Word x) refl _ _ _ (reprints_seq (only_if optional (punctuator "?")) (only_if optional (punctuator "?")) _ _ (run_if optional (punct "?" ∷ [])) _ (reprints_if optional (punctuator "?") (punctuator "?") _ (reprints_token (punct "?") refl))
      (reprints_fields _ _ _ fields (reprints_after (punct ")") refl _ _ _ (reprints_note t)))))
      reprints_end

  pub reprints_members : (xs : List MemberTree)
      → Reprints (body type xs) (body type2 xs) (punct "{" ∷ (concat_tokens (map member_kinds xs) ++ (punct "}" ∷ [])))
  reprints_members xs =
      reprints_in_braces (many (λ m. member type m ⋅ member_end) xs) (many (λ m. member type2 m ⋅ member_end) xs) (concat_tokens (map member_kinds xs))
      (reprints_many (λ m. member type m ⋅ member_end) (λ m. member type2 m ⋅ member_end) member_kinds reprints_member xs)

  reprints_union : (ts : TypeTrees) → Reprints (union type (types_of ts)) (union type2 (types_of ts)) (union_kinds ts)
  unfolding union_kinds
  reprints_union no_types = λ ts rest fine d. absurd d
  reprints_union (more_types t no_types) = reprints_alone (type2 last_type t) (type last_type t) (type_kinds last_type t) (one last_type t)
  reprints_union (more_types t (more_types u more)) =
      reprints_seq (type earlier_type t) (type2 earlier_type t) _ _ (type_kinds earlier_type t) _ (one earlier_type t)
      (reprints_after (punct "|") refl _ _ (union_kinds (more_types u more)) (reprints_union (more_types u more)))

  reprints_arguments : (ts : TypeTrees) → Reprints (arguments type ts) (arguments type2 ts) (argument_run ts (separate "," (types_kinds ts)))
  reprints_arguments no_types = reprints_nothing
  reprints_arguments (more_types t more) =
      subst (λ (runs : List (List TokenKind)). Reprints (arguments type (more_types t more)) (arguments type2 (more_types t more)) (punct "<" ∷ (separate "," runs ++ (punct ">" ∷ [])))) (sym (types_runs (more_types t more)))
      (reprints_after (punct "<") refl _ _ _ (reprints_seq (separated "," (type any_type) (t ∷ types_of more)) (separated "," (type2 any_type) (t ∷ types_of more)) (punctuator ">") (punctuator ">") (separate "," (map (type_kinds any_type) (t ∷ types_of more))) (punct ">" ∷ [])
      (reprints_separated (type any_type) (type2 any_type) (type_kinds any_type) (one any_type) "," refl (t ∷ types_of more))
      (reprints_token (punct ">") refl)))

  pub reprints_names : (xs : List (List ℕ)) → Reprints (separated "." identifier xs) (separated "." identifier xs) (separate "." (map word_run xs))
  reprints_names xs = reprints_separated identifier identifier word_run reprints_id "." refl xs

  pub reprints_type_node : (t : TypeTree) → Reprints (type_node type t) (type_node type2 t) (type_node_kinds t)
  unfolding type_node_kinds
  reprints_type_node (Union ts) = reprints_given _ _ _ _ (reprints_union ts)
  reprints_type_node (Array t n) =
      reprints_given _ _ _ _ (reprints_seq (type base_type t) (type2 base_type t) _ _ (type_kinds base_type t) _ (one base_type t)
      (reprints_times n (punctuator "[" ⋅ punctuator "]") (punct "[" ∷ punct "]" ∷ []) (reprints_after (punct "[") refl _ _ _ (reprints_token (punct "]") refl))))
  reprints_type_node (Named names args) =
      reprints_seq (separated "." identifier names) (separated "." identifier names) (arguments type args) (arguments type2 args) (separate "." (map word_run names)) _
      (reprints_names names) (reprints_arguments args)
  reprints_type_node (Str s) = reprints_token _ refl
  reprints_type_node (Number n) = reprints_token _ refl
  reprints_type_node Undefined = reprints_token _ refl
  reprints_type_node True = reprints_token _ refl
  reprints_type_node False = reprints_token _ refl
  reprints_type_node (Body members) =
      subst (λ (runs : List (List TokenKind)). Reprints (body type (members_of members)) (body type2 (members_of members)) (punct "{" ∷ (concat_tokens runs ++ (punct "}" ∷ [])))) (sym (members_runs members))
      (reprints_members (members_of members))
  reprints_type_node (Function fields t) =
      reprints_fields _ _ _ fields (reprints_after (punct ")") refl _ _ _ (reprints_after (punct "=>") refl _ _ _ (one any_type t)))

-- a node that some tokens derive, below the parentheses around it
record Inner (h level : ℕ) (t : TypeTree) (rest : List TokenKind) : Type 0 where
  k : ℕ
  unbraced : List TokenKind
  back : List TokenKind
  node : type_node (type_at k) t unbraced back
  within : suc k ≤ h
  lower : (type_precedence t ≤ level → ⊥) → suc (suc k) ≤ h
  fine : AllSpell unbraced
  left : AllSpell back → AllSpell rest

tight_enough : (t : TypeTree) → type_precedence t ≤ any_type
tight_enough (Union _) = omega arith
tight_enough (Function _ _) = omega arith
tight_enough (Array _ _) = omega arith
tight_enough (Named _ _) = omega arith
tight_enough (Str _) = omega arith
tight_enough (Number _) = omega arith
tight_enough Undefined = omega arith
tight_enough True = omega arith
tight_enough False = omega arith
tight_enough (Body _) = omega arith

unwrapped : (h level : ℕ) (t : TypeTree) (ts rest : List TokenKind) → AllSpell ts → type_at h level t ts rest → Inner h level t rest
unfolding type_at
unwrapped zero level t ts rest fine d = absurd d
unwrapped (suc h) level t ts rest fine (inl p) =
    record { k = h; unbraced = ts; back = rest; node = p.1; within = omega arith; lower = λ n. absurd (n p.0); fine = fine; left = λ f. f }
unwrapped (suc h) level t ts rest fine (inr p) =
    let i = unwrapped h any_type t p.0 p.2.0 (token_left (punct "(") ts p.0 fine p.1).1 p.2.1 in
    record { k = i.k; unbraced = i.unbraced; back = i.back; node = i.node; within = omega (arith, i.within); lower = λ n. omega (arith, i.within); fine = i.fine; left = λ f. (token_left (punct ")") p.2.0 rest (i.left f) p.2.2).1 }

abbrev Layer : ℕ → Type 0
Layer k = (m : ℕ) → k ≤ m → (t : TypeTree) → Reprints (type_node (type_at k) t) (type_node (type_at m) t) (type_node_kinds t)

-- a node that is derived, at each great enough height
node_placed : (m k level : ℕ) (t : TypeTree) (unbraced back : List TokenKind) → suc k ≤ m → type_precedence t ≤ level → Layer k → AllSpell unbraced → type_node (type_at k) t unbraced back
    → IsReprint (type_at m level t) (type_node_kinds t) back
unfolding type_at
node_placed zero k level t unbraced back le fits layer fine d = absurd (omega (arith, le))
node_placed (suc m) k level t unbraced back le fits layer fine d =
    let s = layer m (omega (arith, le)) t unbraced back fine d in
    record { derived = λ more. inl (fits, s.derived more); fine = s.fine; left = s.left }

enclosed_placed : (m k level : ℕ) (t : TypeTree) (unbraced back : List TokenKind) → suc (suc k) ≤ m → Layer k → AllSpell unbraced → type_node (type_at k) t unbraced back
    → IsReprint (type_at m level t) (enclosed (type_node_kinds t)) back
unfolding type_at
enclosed_placed zero k level t unbraced back le layer fine d = absurd (omega (arith, le))
enclosed_placed (suc m) k level t unbraced back le layer fine d =
    let s = reprint_enclosed (type_at m any_type t) (type_node_kinds t) back (node_placed m k any_type t unbraced back (omega (arith, le)) (tight_enough t) layer fine d) in
    record { derived = λ more. inr (s.derived more); fine = s.fine; left = s.left }

type_placed : (h : ℕ) → ((k : ℕ) → k < h → Layer k) → (m : ℕ) → h ≤ m → (level : ℕ) (t : TypeTree) → Reprints (type_at h level t) (type_at m level t) (type_kinds level t)
type_placed h below m le level t ts rest fine d = by (nat_lt level (type_precedence t)) refl
  where
    i : Inner h level t rest
    i = unwrapped h level t ts rest fine d

    left : (xs : List TokenKind) → IsReprint (type_at m level t) xs i.back → IsReprint (type_at m level t) xs rest
    left xs s = record { derived = s.derived; fine = s.fine; left = i.left s.left }

    by : (b : Bool) → nat_lt level (type_precedence t) ≡ b → IsReprint (type_at m level t) (enclosed_if b (type_node_kinds t)) rest
    by false e =
        left (type_node_kinds t) (node_placed m i.k level t i.unbraced i.back (omega (arith, le, i.within)) (grind (arith, nat_tests, e)) (below i.k (omega (arith, i.within))) i.fine i.node)
    by true e =
        let tall = i.lower (λ l. grind (arith, nat_tests, e, l)) in
        left (enclosed (type_node_kinds t)) (enclosed_placed m i.k level t i.unbraced i.back (omega (arith, le, tall)) (below i.k (omega (arith, i.within))) i.fine i.node)

layers : (n k : ℕ) → k < n → Layer k
layers zero k l = λ m le t. absurd (omega (arith, l))
layers (suc n) k l = λ m le t. reprints_type_node (type_at k) (type_at m) (type_placed k (λ j lj. layers n j (omega (arith, l, lj))) m le) t

-- a type that tokens derive, printed within its height
pub type_reprint : (h m : ℕ) → h ≤ m → (level : ℕ) (t : TypeTree) → Reprints (type_at h level t) (type_at m level t) (type_kinds level t)
type_reprint h m le = type_placed h (λ k l. layers h k l) m le

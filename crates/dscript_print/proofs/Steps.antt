-- Loops that write parts, step by step.
use Rattle.std.proofs.Common.{◌≡◌, ℕ, zero, suc, ◌+◌, ◌<◌, ◌≤◌, List, [], ◌∷◌, ◌++◌, map, length, take, get_or, Result, Ok, Err, IfOk, refl, ap, sym, ◌∙◌, subst, append_assoc, add-one, arith}
use Rattle.std.proofs.lemmas.List.{take_more, map-append, take_all}
use Rattle.dscript_print.proofs.Spelled.{append_nil}
use Rattle.dscript_lex.specs.declared.token.TokenKind.{TokenKind}
use Prim.Native.String.{String}
use Rattle.dscript_ast.specs.TypeTree.{to_types, to_fields, to_members}
use Rattle.dscript_ast.specs.Views.{type_tree, field_tree, member_tree}
use Rattle.dscript_grammar.specs.TypeGrammar.{earlier_type, last_type}
use Rattle.dscript_ast.specs.declared.type_node.TypeNode.{TypeNode}
use Rattle.dscript_ast.specs.declared.type_node.Field as fields
use Rattle.dscript_ast.specs.declared.type_node.Member as members
use Rattle.dscript_print.specs.Runs.{punct, concat_tokens, preceded, repeated}
use Rattle.dscript_print.specs.TypeKinds.{argument_run, type_kinds, types_kinds, fields_kinds, members_kinds, union_kinds}
use Rattle.dscript_print.specs.Written.{type_run, earlier_run, field_run, member_run}

pub joined_snoc : (xs : List (List TokenKind)) (x : List TokenKind) → concat_tokens (xs ++ (x ∷ [])) ≡ concat_tokens xs ++ x
joined_snoc [] x = append_nil x
joined_snoc (y ∷ ys) x = ap (λ zs. y ++ zs) (joined_snoc ys x) ∙ sym (append_assoc y (concat_tokens ys) x)

pub led_snoc : (s : String) (xs : List (List TokenKind)) (x : List TokenKind) → preceded s (xs ++ (x ∷ [])) ≡ preceded s xs ++ (punct s ∷ x)
led_snoc s [] x = ap (λ ys. punct s ∷ ys) (append_nil x)
led_snoc s (y ∷ ys) x = ap (λ zs. punct s ∷ (y ++ zs)) (led_snoc s ys x) ∙ ap (λ zs. punct s ∷ zs) (sym (append_assoc y (preceded s ys) (punct s ∷ x)))

-- one part more
pub joined_more : {X : Type 0} (k : X → List TokenKind) (xs : List X) (i : ℕ) (x : X) → i < length xs → x ≡ get_or xs i x → concat_tokens (map k (take (i + 1) xs)) ≡ concat_tokens (map k (take i xs)) ++ k x
joined_more k xs i x l e =
    ap (λ ys. concat_tokens (map k ys)) (take_more xs i x l) ∙ ap concat_tokens (map-append k (take i xs) (get_or xs i x ∷ []))
    ∙ joined_snoc (map k (take i xs)) (k (get_or xs i x)) ∙ ap (λ y. concat_tokens (map k (take i xs)) ++ k y) (sym e)

pub led_more : {X : Type 0} (s : String) (k : X → List TokenKind) (xs : List X) (i : ℕ) (x : X) → i < length xs → x ≡ get_or xs i x → preceded s (map k (take (i + 1) xs)) ≡ preceded s (map k (take i xs)) ++ (punct s ∷ k x)
led_more s k xs i x l e =
    ap (λ ys. preceded s (map k ys)) (take_more xs i x l) ∙ ap (preceded s) (map-append k (take i xs) (get_or xs i x ∷ []))
    ∙ led_snoc s (map k (take i xs)) (k (get_or xs i x)) ∙ ap (λ y. preceded s (map k (take i xs)) ++ (punct s ∷ k y)) (sym e)

pub repeated_more : (n : ℕ) (xs : List TokenKind) → repeated (n + 1) xs ≡ repeated n xs ++ xs
repeated_more n xs = subst (λ m. repeated m xs ≡ repeated n xs ++ xs) (sym (add-one n)) (brackets_after n xs)
  where
    brackets_after : (n : ℕ) (xs : List TokenKind) → repeated (suc n) xs ≡ repeated n xs ++ xs
    brackets_after zero xs = append_nil xs
    brackets_after (suc n) xs = ap (λ ys. xs ++ ys) (brackets_after n xs) ∙ sym (append_assoc xs (repeated n xs) xs)

pub types_listed : (xs : List TypeNode) → types_kinds (to_types (map type_tree xs)) ≡ map type_run xs
unfolding types_kinds
types_listed [] = refl
types_listed (x ∷ xs) = ap (λ ys. type_run x ∷ ys) (types_listed xs)

pub fields_listed : (xs : List fields.Field) → fields_kinds (to_fields (map field_tree xs)) ≡ map field_run xs
unfolding fields_kinds
fields_listed [] = refl
fields_listed (x ∷ xs) = ap (λ ys. field_run x ∷ ys) (fields_listed xs)

pub members_listed : (xs : List members.Member) → members_kinds (to_members (map member_tree xs)) ≡ map member_run xs
unfolding members_kinds
members_listed [] = refl
members_listed (x ∷ xs) = ap (λ ys. member_run x ∷ ys) (members_listed xs)

pub union_listed : (xs : List TypeNode) (x : TypeNode) → union_kinds (to_types (map type_tree (xs ++ (x ∷ [])))) ≡ concat_tokens (map (λ t. type_kinds earlier_type (type_tree t) ++ (punct "|" ∷ [])) xs) ++ type_kinds last_type (type_tree x)
unfolding union_kinds
union_listed [] x = append_nil (type_kinds last_type (type_tree x))
union_listed (y ∷ ys) x = before y ys x (union_listed ys x)
  where
    first : (y : TypeNode) (more last : List TokenKind) → (type_kinds earlier_type (type_tree y)) ++ (punct "|" ∷ (more ++ last)) ≡ ((type_kinds earlier_type (type_tree y) ++ (punct "|" ∷ [])) ++ more) ++ last
    first y more last =
        sym (append_assoc (type_kinds earlier_type (type_tree y)) (punct "|" ∷ []) (more ++ last))
        ∙ sym (append_assoc (type_kinds earlier_type (type_tree y) ++ (punct "|" ∷ [])) more last)

    before : (y : TypeNode) (ys : List TypeNode) (x : TypeNode)
        → union_kinds (to_types (map type_tree (ys ++ (x ∷ [])))) ≡ concat_tokens (map (λ t. type_kinds earlier_type (type_tree t) ++ (punct "|" ∷ [])) ys) ++ type_kinds last_type (type_tree x)
        → union_kinds (to_types (map type_tree (y ∷ (ys ++ (x ∷ []))))) ≡ concat_tokens (map (λ t. type_kinds earlier_type (type_tree t) ++ (punct "|" ∷ [])) (y ∷ ys)) ++ type_kinds last_type (type_tree x)
    before y [] x e = ap (λ zs. type_kinds earlier_type (type_tree y) ++ (punct "|" ∷ zs)) e ∙ first y [] (type_kinds last_type (type_tree x))
    before y (z ∷ zs) x e =
        ap (λ ws. type_kinds earlier_type (type_tree y) ++ (punct "|" ∷ ws)) e
        ∙ first y (concat_tokens (map (λ t. type_kinds earlier_type (type_tree t) ++ (punct "|" ∷ [])) (z ∷ zs))) (type_kinds last_type (type_tree x))

-- one step of a loop that writes parts, and of one that writes a punctuator before each
pub joined_step : {X : Type 0} (k : X → List TokenKind) (xs : List X) (i : ℕ) (x : X) (before now after : List TokenKind)
    → now ≡ before ++ concat_tokens (map k (take i xs)) → after ≡ now ++ k x → i < length xs → x ≡ get_or xs i x → after ≡ before ++ concat_tokens (map k (take (i + 1) xs))
joined_step k xs i x before now after p q l e =
    q ∙ ap (λ ys. ys ++ k x) p ∙ append_assoc before (concat_tokens (map k (take i xs))) (k x) ∙ ap (λ ys. before ++ ys) (sym (joined_more k xs i x l e))

pub led_step : {X : Type 0} (s : String) (k : X → List TokenKind) (xs : List X) (i : ℕ) (x : X) (before now mid after : List TokenKind)
    → now ≡ before ++ preceded s (map k (take i xs)) → mid ≡ now ++ (punct s ∷ []) → after ≡ mid ++ k x → i < length xs → x ≡ get_or xs i x → after ≡ before ++ preceded s (map k (take (i + 1) xs))
led_step s k xs i x before now mid after p m q l e =
    q ∙ ap (λ ys. ys ++ k x) (m ∙ ap (λ ys. ys ++ (punct s ∷ [])) p) ∙ append_assoc (before ++ preceded s (map k (take i xs))) (punct s ∷ []) (k x)
    ∙ append_assoc before (preceded s (map k (take i xs))) (punct s ∷ k x) ∙ ap (λ ys. before ++ ys) (sym (led_more s k xs i x l e))

pub repeated_step : (n : ℕ) (a b : TokenKind) (before now mid after : List TokenKind)
    → now ≡ before ++ repeated n (a ∷ b ∷ []) → mid ≡ now ++ (a ∷ []) → after ≡ mid ++ (b ∷ []) → after ≡ before ++ repeated (n + 1) (a ∷ b ∷ [])
repeated_step n a b before now mid after p q r =
    r ∙ ap (λ ys. ys ++ (b ∷ [])) (q ∙ ap (λ ys. ys ++ (a ∷ [])) p) ∙ append_assoc (before ++ repeated n (a ∷ b ∷ [])) (a ∷ []) (b ∷ [])
    ∙ append_assoc before (repeated n (a ∷ b ∷ [])) (a ∷ b ∷ []) ∙ ap (λ ys. before ++ ys) (sym (repeated_more n (a ∷ b ∷ [])))

pub no_arguments : (xs : List TypeNode) (run : List TokenKind) → length xs ≡ 0 → argument_run (to_types (map type_tree xs)) run ≡ []
no_arguments [] run e = refl
no_arguments (x ∷ xs) run e = absurd (omega (arith, e))

pub some_arguments : (xs : List TypeNode) (run : List TokenKind) → 0 < length xs → argument_run (to_types (map type_tree xs)) run ≡ punct "<" ∷ (run ++ (punct ">" ∷ []))
some_arguments [] run e = absurd (omega (arith, e))
some_arguments (x ∷ xs) run e = refl

-- one step of such a loop, where K gives the tokens of each part of a list
module _ {X : Type 0} (K : List X → List (List TokenKind)) (k : X → List TokenKind) (listed : (xs : List X) → K xs ≡ map k xs) where
  pub joined_turn : (xs : List X) (i : ℕ) (x : X) (before now after : List TokenKind)
      → now ≡ before ++ concat_tokens (K (take i xs)) → after ≡ now ++ k x → i < length xs → x ≡ get_or xs i x → after ≡ before ++ concat_tokens (K (take (i + 1) xs))
  joined_turn xs i x before now after p q l e =
      joined_step k xs i x before now after (p ∙ ap (λ r. before ++ concat_tokens r) (listed (take i xs))) q l e ∙ ap (λ r. before ++ concat_tokens r) (sym (listed (take (i + 1) xs)))

  pub led_turn : (s : String) (xs : List X) (i : ℕ) (x : X) (before now mid after : List TokenKind)
      → now ≡ before ++ preceded s (K (take i xs)) → mid ≡ now ++ (punct s ∷ []) → after ≡ mid ++ k x → i < length xs → x ≡ get_or xs i x → after ≡ before ++ preceded s (K (take (i + 1) xs))
  led_turn s xs i x before now mid after p m q l e =
      led_step s k xs i x before now mid after (p ∙ ap (λ r. before ++ preceded s r) (listed (take i xs))) m q l e ∙ ap (λ r. before ++ preceded s r) (sym (listed (take (i + 1) xs)))

-- what a call adds, where it went well
pub if_ok : {R E : Type 0} {P Q : R → Type 0} (r : Result R E) → ((x : R) → P x → Q x) → IfOk r P → IfOk r Q
if_ok (Ok x) f p = f x p
if_ok (Err e) f p = p

pub union_written : (xs all : List TypeNode) (x : TypeNode) (i : ℕ) (before now after : List TokenKind)
    → all ≡ xs ++ (x ∷ []) → length xs ≤ i → now ≡ before ++ concat_tokens (map earlier_run (take i xs)) → after ≡ now ++ type_kinds last_type (type_tree x) → after ≡ before ++ union_kinds (to_types (map type_tree all))
union_written xs all x i before now after whole l p q =
    q ∙ ap (λ ys. ys ++ type_kinds last_type (type_tree x)) (p ∙ ap (λ ys. before ++ concat_tokens (map earlier_run ys)) (take_all i xs l))
    ∙ append_assoc before (concat_tokens (map earlier_run xs)) (type_kinds last_type (type_tree x))
    ∙ ap (λ ys. before ++ ys) (sym (union_listed xs x)) ∙ ap (λ ys. before ++ union_kinds (to_types (map type_tree ys))) (sym whole)

pub union_none : (xs : List TypeNode) (before : List TokenKind) → length xs ≡ 0 → before ≡ before ++ union_kinds (to_types (map type_tree xs))
unfolding union_kinds
union_none [] before e = sym (append_nil before)
union_none (x ∷ xs) before e = absurd (omega (arith, e))

pub maps_listed : {A B C : Type 0} (f : B → C) (g : A → B) (xs : List A) → map f (map g xs) ≡ map (λ x. f (g x)) xs
maps_listed f g [] = refl
maps_listed f g (x ∷ xs) = ap (λ ys. f (g x) ∷ ys) (maps_listed f g xs)

-- The first tokens of expressions, by which one rule is chosen.
use Prim.Native.String.{String as Letters}
use Rattle.std.proofs.Common.{◌≡◌, ℕ, zero, suc, ◌≤◌, Bool, true, false, not, ◌||◌, List, [], ◌∷◌, Option, Some, None, codes, bytes_eq, refl, ap, sym, ◌∙◌, subst, inl, inr, arith}
use Rattle.std.proofs.lemmas.Bool.{false≢true, false_from_ne_true}
use Rattle.dscript_lex.specs.declared.token.TokenKind.{TokenKind}
use Rattle.dscript_lex.specs.declared.token.TokenKind.TheVariants as kinds
use Rattle.dscript_grammar.specs.Language.{punctuator, identifier, is_one_of, is_reserved}
use Rattle.dscript_grammar.specs.Reading.{choose, pick, is_punctuator, is_keyword, at_punctuator, take_punctuator, take_keyword, take_keyword_bytes, at_punctuator_bytes}
use Rattle.dscript_ast.specs.ExprTree.{Single, Params, ExprTree, Arrow, BlockArrow, Cond, Chain, Unary, Postfix, Number, Str, True, False, Undefined, Template, Path, Name, Elements, Object, Operand, no_operands, more_operands, Member, Index, Call, no_parts, more_parts, HoleTrees, no_holes, more_holes, holes_of}
use Rattle.dscript_ast.specs.Operators.{spelling}
use Rattle.dscript_grammar.specs.ExprGrammar.{any_expr, operator, letter, template, expr_at, stmt_at}
use Rattle.dscript_grammar.specs.ExprReading.{optional_param, closes_params, at_template, ends_param, at_params, at_arrow, at_assign}
use Rattle.dscript_ast.specs.declared.operator.BinaryOp.{BinaryOp}
use Rattle.dscript_ast.specs.declared.operator.BinaryOp.TheVariants as binary
use Rattle.dscript_ast.specs.declared.expr.PathKind.{PathKind}
use Rattle.dscript_ast.specs.declared.expr.PathKind.TheVariants as letters
use Rattle.dscript_ast.specs.declared.operator.UnaryOp.TheVariants as unary
use Rattle.dscript_grammar.proofs.Combinators.{is_punctuator-same, is_keyword-same, punctuator_taken}
use Rattle.dscript_grammar.proofs.TypeComplete.{not_taken, at_first}

pub for_all_operators : (P : List ℕ → Type 0) → P (codes "||") → P (codes "&&") → P (codes "===") → P (codes "!==") → P (codes "<") → P (codes "<=") → P (codes ">") → P (codes ">=") → P (codes "+") → P (codes "-") → P (codes "*")
    → (op : BinaryOp) → P (codes (spelling op))
for_all_operators P a b c d e f g h i j k binary.Or = a
for_all_operators P a b c d e f g h i j k binary.And = b
for_all_operators P a b c d e f g h i j k binary.Equal = c
for_all_operators P a b c d e f g h i j k binary.NotEqual = d
for_all_operators P a b c d e f g h i j k binary.Less = e
for_all_operators P a b c d e f g h i j k binary.LessOrEqual = f
for_all_operators P a b c d e f g h i j k binary.Greater = g
for_all_operators P a b c d e f g h i j k binary.GreaterOrEqual = h
for_all_operators P a b c d e f g h i j k binary.Add = i
for_all_operators P a b c d e f g h i j k binary.Subtract = j
for_all_operators P a b c d e f g h i j k binary.Multiply = k

-- the tokens that an expression may begin with
unfoldable pub starts_expr : TokenKind → Bool
starts_expr (kinds.Word w) = not (is_reserved w) || is_one_of w (codes "true" ∷ codes "false" ∷ codes "undefined" ∷ [])
starts_expr (kinds.Punct p) = is_one_of p (codes "(" ∷ codes "[" ∷ codes "{" ∷ codes "!" ∷ codes "-" ∷ [])
starts_expr (kinds.Middle s) = false
starts_expr (kinds.Tail s) = false
starts_expr _ = true

pub record First (ts : List TokenKind) : Type 0 where
  pub token : TokenKind
  pub rest : List TokenKind
  pub is : ts ≡ token ∷ rest
  pub starts : starts_expr token ≡ true

-- a token that passes a test is none that fails it
pub excluded_punctuator : (f : TokenKind → Bool) (s : Letters) (t : TokenKind) → f (kinds.Punct (codes s)) ≡ false → f t ≡ true → is_punctuator s t ≡ false
excluded_punctuator f s t out in_set = false_from_ne_true _ (λ e. false≢true (sym out ∙ ap f (sym (is_punctuator-same s t e)) ∙ in_set))

pub excluded_keyword : (f : TokenKind → Bool) (w : Letters) (t : TokenKind) → f (kinds.Word (codes w)) ≡ false → f t ≡ true → is_keyword w t ≡ false
excluded_keyword f w t out in_set = false_from_ne_true _ (λ e. false≢true (sym out ∙ ap f (sym (is_keyword-same w t e)) ∙ in_set))

pub not_first : (s : Letters) {ts : List TokenKind} → starts_expr (kinds.Punct (codes s)) ≡ false → First ts → at_punctuator s ts ≡ false
not_first s out f = at_first s f.is ∙ excluded_punctuator starts_expr s f.token out f.starts

pub keyword_not_taken : (w : Letters) {t : TokenKind} {ts r : List TokenKind} → ts ≡ t ∷ r → is_keyword w t ≡ false → take_keyword w ts ≡ None
unfolding take_keyword_bytes pick
keyword_not_taken w {r = r} e f = ap (take_keyword w) e ∙ ap (λ b. pick b (Some r) None) f

pub not_first_word : (w : Letters) {ts : List TokenKind} → starts_expr (kinds.Word (codes w)) ≡ false → First ts → take_keyword w ts ≡ None
not_first_word w out f = keyword_not_taken w f.is (excluded_keyword starts_expr w f.token out f.starts)

first_token : (t : TokenKind) {ts r : List TokenKind} → starts_expr t ≡ true → ts ≡ t ∷ r → First ts
first_token t {r = r} s e = record { token = t; rest = r; is = e; starts = s }

pub first_identifier : (x : List ℕ) (ts r : List TokenKind) → identifier x ts r → First ts
unfolding starts_expr
first_identifier x ts r p = first_token (kinds.Word x) (ap (λ b. not b || is_one_of x (codes "true" ∷ codes "false" ∷ codes "undefined" ∷ [])) p.1) p.0

first_letter : (k : PathKind) (ts r : List TokenKind) → letter k ts r → First ts
unfolding starts_expr is_reserved
first_letter letters.Path ts r e = first_token _ refl e
first_letter letters.File ts r e = first_token _ refl e
first_letter letters.Directory ts r e = first_token _ refl e
first_letter letters.Relative ts r e = first_token _ refl e
first_letter letters.Atom ts r e = first_token _ refl e

pub expr_first : (h l : ℕ) (e : ExprTree) (ts rest : List TokenKind) → expr_at h l e ts rest → First ts
unfolding expr_at starts_expr is_reserved
expr_first zero l e ts rest p = absurd p
expr_first (suc h) l e ts rest (inr p) = first_token _ refl p.1
expr_first (suc h) l (Arrow (Single x) body) ts rest (inl p) = first_identifier x ts p.1.0 p.1.1
expr_first (suc h) l (Arrow (Params ps) body) ts rest (inl p) = first_token _ refl p.1.1.1
expr_first (suc h) l (BlockArrow (Single x) body) ts rest (inl p) = first_identifier x ts p.1.0 p.1.1
expr_first (suc h) l (BlockArrow (Params ps) body) ts rest (inl p) = first_token _ refl p.1.1.1
expr_first (suc h) l (Cond c a b) ts rest (inl p) = expr_first h 8 c ts p.1.0 p.1.1
expr_first (suc h) l (Chain zero e row) ts rest (inl p) = absurd p.1.1
expr_first (suc h) l (Chain (suc k) e row) ts rest (inl p) = expr_first h k e ts p.1.1.1.0 p.1.1.1.1
expr_first (suc h) l (Unary [] e) ts rest (inl p) = absurd (omega (arith, p.1.0))
expr_first (suc h) l (Unary (unary.Not ∷ ops) e) ts rest (inl p) = first_token _ refl p.1.1.1.1
expr_first (suc h) l (Unary (unary.Negate ∷ ops) e) ts rest (inl p) = first_token _ refl p.1.1.1.1
expr_first (suc h) l (Postfix e row) ts rest (inl p) = expr_first h 0 e ts p.1.1.0 p.1.1.1
expr_first (suc h) l (Number n) ts rest (inl p) = first_token _ refl p.1
expr_first (suc h) l (Str s) ts rest (inl p) = first_token _ refl p.1
expr_first (suc h) l True ts rest (inl p) = first_token _ refl p.1
expr_first (suc h) l False ts rest (inl p) = first_token _ refl p.1
expr_first (suc h) l Undefined ts rest (inl p) = first_token _ refl p.1
expr_first (suc h) l (Template x no_holes) ts rest (inl p) = first_token _ refl p.1
expr_first (suc h) l (Template x (more_holes y ys)) ts rest (inl p) = first_token _ refl p.1.1
expr_first (suc h) l (Path k x row) ts rest (inl p) = first_letter k ts p.1.0 p.1.1
expr_first (suc h) l (Name x) ts rest (inl p) = first_identifier x ts rest p.1
expr_first (suc h) l (Elements row) ts rest (inl p) = first_token _ refl p.1.1
expr_first (suc h) l (Object row) ts rest (inl p) = first_token _ refl p.1.1

-- tokens that begin an expression, other than words and `(`
unfoldable pub is_other : TokenKind → Bool
is_other (kinds.Word w) = false
is_other (kinds.Punct p) = is_one_of p (codes "[" ∷ codes "{" ∷ codes "!" ∷ codes "-" ∷ [])
is_other _ = true

-- The first token of an expression of at most this level: a word, `(`, or another token. After a word, mid is the rest.
pub data Atom (l : ℕ) (ts mid : List TokenKind) : Type 0 where
  a_word : (w : List ℕ) → ts ≡ kinds.Word w ∷ mid → Atom l ts mid
  a_letter : (w : List ℕ) (us : List TokenKind) → ts ≡ kinds.Word w ∷ us → at_template us ≡ true → Atom l ts mid
  an_arrow : (w : List ℕ) (us r : List TokenKind) → 10 ≤ l → ts ≡ kinds.Word w ∷ us → punctuator "=>" us r → Atom l ts mid
  an_enclosed : (h : ℕ) (e : ExprTree) (m1 m2 : List TokenKind) → punctuator "(" ts m1 → expr_at h any_expr e m1 m2 → punctuator ")" m2 mid → Atom l ts mid
  some_params : (r : List TokenKind) → 10 ≤ l → punctuator "(" ts r → Atom l ts mid
  another : (t : TokenKind) (r : List TokenKind) → ts ≡ t ∷ r → is_other t ≡ true → Atom l ts mid

-- the tokens after it: those after the expression, or those that continue it
pub data Follows (mid rest : List TokenKind) : Type 0 where
  the_rest : mid ≡ rest → Follows mid rest
  an_operator : (op : BinaryOp) (r : List TokenKind) → operator op mid r → Follows mid rest
  a_dot : (r : List TokenKind) → punctuator "." mid r → Follows mid rest
  a_bracket : (r : List TokenKind) → punctuator "[" mid r → Follows mid rest
  a_parenthesis : (r : List TokenKind) → punctuator "(" mid r → Follows mid rest
  a_question : (r : List TokenKind) → punctuator "?" mid r → First r → Follows mid rest

pub record Leftmost (l : ℕ) (ts rest : List TokenKind) : Type 0 where
  pub mid : List TokenKind
  pub atom : Atom l ts mid
  pub follows : Follows mid rest

onward : (mid m rest : List TokenKind) → Follows mid m → Follows m rest → Follows mid rest
onward mid m rest (the_rest e) f = subst (λ (u : List TokenKind). Follows u rest) (sym e) f
onward mid m rest (an_operator op r p) f = an_operator op r p
onward mid m rest (a_dot r p) f = a_dot r p
onward mid m rest (a_bracket r p) f = a_bracket r p
onward mid m rest (a_parenthesis r p) f = a_parenthesis r p
onward mid m rest (a_question r p q) f = a_question r p q

tight_atom : (l m : ℕ) (ts mid : List TokenKind) → l ≤ m → Atom l ts mid → Atom m ts mid
tight_atom l m ts mid le (a_word w e) = a_word w e
tight_atom l m ts mid le (a_letter w us e t) = a_letter w us e t
tight_atom l m ts mid le (an_arrow w us r k e f) = an_arrow w us r (omega arith) e f
tight_atom l m ts mid le (an_enclosed h e m1 m2 p q r) = an_enclosed h e m1 m2 p q r
tight_atom l m ts mid le (some_params r k e) = some_params r (omega arith) e
tight_atom l m ts mid le (another t r e o) = another t r e o

widened : (l k : ℕ) (ts m rest : List TokenKind) → k ≤ l → Leftmost k ts m → Follows m rest → Leftmost l ts rest
widened l k ts m rest le x f = record { mid = x.mid; atom = tight_atom k l ts x.mid le x.atom; follows = onward x.mid m rest x.follows f }

here : (l : ℕ) (ts rest : List TokenKind) → Atom l ts rest → Leftmost l ts rest
here l ts rest a = record { mid = rest; atom = a; follows = the_rest refl }

template_start : (h : ℕ) (x : List ℕ) (row : HoleTrees) (ts rest : List TokenKind) → template h (expr_at h) (stmt_at h) x (holes_of row) ts rest → at_template ts ≡ true
unfolding at_template
template_start h x no_holes ts rest p = ap at_template p
template_start h x (more_holes y ys) ts rest p = ap at_template p.1

letter_atom : (l : ℕ) (k : PathKind) (ts us rest : List TokenKind) → letter k ts us → at_template us ≡ true → Atom l ts rest
letter_atom l letters.Path ts us rest e t = a_letter _ us e t
letter_atom l letters.File ts us rest e t = a_letter _ us e t
letter_atom l letters.Directory ts us rest e t = a_letter _ us e t
letter_atom l letters.Relative ts us rest e t = a_letter _ us e t
letter_atom l letters.Atom ts us rest e t = a_letter _ us e t

pub leftmost : (h l : ℕ) (e : ExprTree) (ts rest : List TokenKind) → expr_at h l e ts rest → Leftmost l ts rest
unfolding expr_at is_other
leftmost zero l e ts rest p = absurd p
leftmost (suc h) l e ts rest (inr (m1, p, (m2, q, r))) = here l ts rest (an_enclosed h e m1 m2 p q r)
leftmost (suc h) l (Arrow (Single x) body) ts rest (inl (le, (m, p, (m2, q, r)))) = here l ts rest (an_arrow x m m2 le p.0 q)
leftmost (suc h) l (Arrow (Params ps) body) ts rest (inl (le, (m, p, q))) = here l ts rest (some_params p.0 le p.1)
leftmost (suc h) l (BlockArrow (Single x) body) ts rest (inl (le, (m, p, (m2, q, r)))) = here l ts rest (an_arrow x m m2 le p.0 q)
leftmost (suc h) l (BlockArrow (Params ps) body) ts rest (inl (le, (m, p, q))) = here l ts rest (some_params p.0 le p.1)
leftmost (suc h) l (Cond c a b) ts rest (inl (le, (m, p, (m2, q, (m3, r, s))))) =
    widened l 8 ts m rest (omega arith) (leftmost h 8 c ts m p) (a_question m2 q (expr_first h 10 a m2 m3 r))
leftmost (suc h) l (Chain zero e row) ts rest (inl p) = absurd p.1.1
leftmost (suc h) l (Chain (suc k) e no_operands) ts rest (inl p) = absurd (omega (arith, p.1.1.0))
leftmost (suc h) l (Chain (suc k) e (more_operands (Operand op x) row)) ts rest (inl (le, (bounds, (some, (m, p, (m2, q, r)))))) =
    widened l k ts m rest (omega arith) (leftmost h k e ts m p) (an_operator op q.1.0 q.1.1)
leftmost (suc h) l (Unary [] e) ts rest (inl p) = absurd (omega (arith, p.1.0))
leftmost (suc h) l (Unary (unary.Not ∷ ops) e) ts rest (inl p) = here l ts rest (another _ _ p.1.1.1.1 refl)
leftmost (suc h) l (Unary (unary.Negate ∷ ops) e) ts rest (inl p) = here l ts rest (another _ _ p.1.1.1.1 refl)
leftmost (suc h) l (Postfix e no_parts) ts rest (inl p) = absurd (omega (arith, p.1.0))
leftmost (suc h) l (Postfix e (more_parts (Member x) row)) ts rest (inl (le, (some, (m, p, (m2, q, r))))) =
    widened l 0 ts m rest (omega arith) (leftmost h 0 e ts m p) (a_dot q.0 q.1)
leftmost (suc h) l (Postfix e (more_parts (Index x) row)) ts rest (inl (le, (some, (m, p, (m2, q, r))))) =
    widened l 0 ts m rest (omega arith) (leftmost h 0 e ts m p) (a_bracket q.0 q.1)
leftmost (suc h) l (Postfix e (more_parts (Call xs) row)) ts rest (inl (le, (some, (m, p, (m2, q, r))))) =
    widened l 0 ts m rest (omega arith) (leftmost h 0 e ts m p) (a_parenthesis q.0 q.1)
leftmost (suc h) l (Number n) ts rest (inl p) = here l ts rest (another _ _ p.1 refl)
leftmost (suc h) l (Str s) ts rest (inl p) = here l ts rest (another _ _ p.1 refl)
leftmost (suc h) l True ts rest (inl p) = here l ts rest (a_word _ p.1)
leftmost (suc h) l False ts rest (inl p) = here l ts rest (a_word _ p.1)
leftmost (suc h) l Undefined ts rest (inl p) = here l ts rest (a_word _ p.1)
leftmost (suc h) l (Template x no_holes) ts rest (inl p) = here l ts rest (another _ _ p.1 refl)
leftmost (suc h) l (Template x (more_holes y ys)) ts rest (inl p) = here l ts rest (another _ _ p.1.1 refl)
leftmost (suc h) l (Path k x row) ts rest (inl p) = here l ts rest (letter_atom l k ts p.1.0 rest p.1.1 (template_start h x row p.1.0 rest p.1.2))
leftmost (suc h) l (Name x) ts rest (inl p) = here l ts rest (a_word x p.1.0)
leftmost (suc h) l (Elements row) ts rest (inl p) = here l ts rest (another _ _ p.1.1 refl)
leftmost (suc h) l (Object row) ts rest (inl p) = here l ts rest (another _ _ p.1.1 refl)

-- The choices that look ahead.

template_no_punctuator : (s : Letters) (us : List TokenKind) → at_template us ≡ true → at_punctuator s us ≡ false
unfolding at_template at_punctuator_bytes
template_no_punctuator s [] t = absurd (false≢true t)
template_no_punctuator s (kinds.Whole x ∷ us) t = refl
template_no_punctuator s (kinds.Head x ∷ us) t = refl
template_no_punctuator s (kinds.Word x ∷ us) t = absurd (false≢true t)
template_no_punctuator s (kinds.Number x ∷ us) t = absurd (false≢true t)
template_no_punctuator s (kinds.Str x ∷ us) t = absurd (false≢true t)
template_no_punctuator s (kinds.Middle x ∷ us) t = absurd (false≢true t)
template_no_punctuator s (kinds.Tail x ∷ us) t = absurd (false≢true t)
template_no_punctuator s (kinds.Punct x ∷ us) t = absurd (false≢true t)

operator_no_punctuator : (s : Letters) (op : BinaryOp) (us r : List TokenKind) → ((o : BinaryOp) → bytes_eq (codes (spelling o)) (codes s) ≡ false) → operator op us r → at_punctuator s us ≡ false
operator_no_punctuator s op us r none e = at_first s e ∙ none op

follows_no_punctuator : (s : Letters) (mid rest : List TokenKind) → ((o : BinaryOp) → bytes_eq (codes (spelling o)) (codes s) ≡ false)
    → bytes_eq (codes ".") (codes s) ≡ false → bytes_eq (codes "[") (codes s) ≡ false → bytes_eq (codes "(") (codes s) ≡ false → bytes_eq (codes "?") (codes s) ≡ false
    → at_punctuator s rest ≡ false → Follows mid rest → at_punctuator s mid ≡ false
follows_no_punctuator s mid rest o d b p q none (the_rest e) = ap (at_punctuator s) e ∙ none
follows_no_punctuator s mid rest o d b p q none (an_operator op r e) = operator_no_punctuator s op mid r o e
follows_no_punctuator s mid rest o d b p q none (a_dot r e) = at_first s e ∙ d
follows_no_punctuator s mid rest o d b p q none (a_bracket r e) = at_first s e ∙ b
follows_no_punctuator s mid rest o d b p q none (a_parenthesis r e) = at_first s e ∙ p
follows_no_punctuator s mid rest o d b p q none (a_question r e f) = at_first s e ∙ q

pub no_operator_is : (s : Letters) → bytes_eq (codes "||") (codes s) ≡ false → bytes_eq (codes "&&") (codes s) ≡ false → bytes_eq (codes "===") (codes s) ≡ false → bytes_eq (codes "!==") (codes s) ≡ false
    → bytes_eq (codes "<") (codes s) ≡ false → bytes_eq (codes "<=") (codes s) ≡ false → bytes_eq (codes ">") (codes s) ≡ false → bytes_eq (codes ">=") (codes s) ≡ false
    → bytes_eq (codes "+") (codes s) ≡ false → bytes_eq (codes "-") (codes s) ≡ false → bytes_eq (codes "*") (codes s) ≡ false → (o : BinaryOp) → bytes_eq (codes (spelling o)) (codes s) ≡ false
no_operator_is s = for_all_operators (λ p. bytes_eq p (codes s) ≡ false)

-- `=` after the first word of an expression is the token after the expression
pub no_assign : (h l : ℕ) (e : ExprTree) (ts rest : List TokenKind) → expr_at h l e ts rest → at_punctuator "=" rest ≡ false → at_assign ts ≡ false
unfolding at_assign is_other
no_assign h l e ts rest p none = by (leftmost h l e ts rest p)
  where
    other : (t : TokenKind) (r : List TokenKind) → is_other t ≡ true → at_assign (t ∷ r) ≡ false
    other (kinds.Word w) r o = absurd (false≢true o)
    other _ r o = refl

    by_atom : (mid : List TokenKind) → Follows mid rest → Atom l ts mid → at_assign ts ≡ false
    by_atom mid f (a_word w is) =
        ap at_assign is ∙ follows_no_punctuator "=" mid rest (no_operator_is "=" refl refl refl refl refl refl refl refl refl refl refl) refl refl refl refl none f
    by_atom mid f (a_letter w us is t) = ap at_assign is ∙ template_no_punctuator "=" us t
    by_atom mid f (an_arrow w us r k is q) = ap at_assign is ∙ at_first "=" q
    by_atom mid f (an_enclosed j x m1 m2 q r s) = ap at_assign q
    by_atom mid f (some_params r k q) = ap at_assign q
    by_atom mid f (another t r is o) = ap at_assign is ∙ other t r o

    by : Leftmost l ts rest → at_assign ts ≡ false
    by x = by_atom x.mid x.follows x.atom

-- an expression in parentheses that begins with a name is not taken for parameters
unfoldable pub word_params : List TokenKind → Bool
word_params ts =
    at_punctuator "," ts || (at_punctuator ":" ts || (choose (take_punctuator "?" ts) false ends_param || choose (take_punctuator ")" ts) false (at_punctuator "=>")))

choose_false : {A : Type 0} {m : Option A} (f : A → Bool) → m ≡ None → choose m false f ≡ false
unfolding choose
choose_false f e = ap (λ o. choose o false f) e

pub choose_is : {A : Type 0} {m : Option A} {x : A} (f : A → Bool) → m ≡ Some x → choose m false f ≡ f x
unfolding choose
choose_is f e = ap (λ o. choose o false f) e

all_false : {a b c d : Bool} → a ≡ false → b ≡ false → c ≡ false → d ≡ false → a || (b || (c || d)) ≡ false
all_false {a = a} {b = b} {c = c} {d = d} p q r s =
    ap (λ x. x || (b || (c || d))) p ∙ ap (λ x. x || (c || d)) q ∙ ap (λ x. x || d) r ∙ s

-- a token that ends no parameter
plain_params : (t : TokenKind) (us r : List TokenKind) → us ≡ t ∷ r → is_punctuator "," t ≡ false → is_punctuator ":" t ≡ false → is_punctuator "?" t ≡ false → is_punctuator ")" t ≡ false → word_params us ≡ false
unfolding word_params
plain_params t us r e c d q p =
    all_false (at_first "," e ∙ c) (at_first ":" e ∙ d) (choose_false ends_param (not_taken "?" e q)) (choose_false (at_punctuator "=>") (not_taken ")" e p))

template_params : (us : List TokenKind) → at_template us ≡ true → word_params us ≡ false
unfolding at_template
template_params [] t = absurd (false≢true t)
template_params (kinds.Whole x ∷ us) t = plain_params _ _ us refl refl refl refl refl
template_params (kinds.Head x ∷ us) t = plain_params _ _ us refl refl refl refl refl
template_params (kinds.Word x ∷ us) t = absurd (false≢true t)
template_params (kinds.Number x ∷ us) t = absurd (false≢true t)
template_params (kinds.Str x ∷ us) t = absurd (false≢true t)
template_params (kinds.Middle x ∷ us) t = absurd (false≢true t)
template_params (kinds.Tail x ∷ us) t = absurd (false≢true t)
template_params (kinds.Punct x ∷ us) t = absurd (false≢true t)

follows_params : (mid m2 rest : List TokenKind) → Follows mid m2 → punctuator ")" m2 rest → at_punctuator "=>" rest ≡ false → word_params mid ≡ false
unfolding word_params ends_param starts_expr
follows_params mid m2 rest (the_rest e) close none =
    let is = e ∙ close in
    all_false (at_first "," is) (at_first ":" is) (choose_false ends_param (not_taken "?" is refl)) (choose_is (at_punctuator "=>") (punctuator_taken ")" is) ∙ none)
follows_params mid m2 rest (an_operator op r e) close none =
    plain_params _ mid r e (no_operator_is "," refl refl refl refl refl refl refl refl refl refl refl op) (no_operator_is ":" refl refl refl refl refl refl refl refl refl refl refl op)
    (no_operator_is "?" refl refl refl refl refl refl refl refl refl refl refl op) (no_operator_is ")" refl refl refl refl refl refl refl refl refl refl refl op)
follows_params mid m2 rest (a_dot r e) close none = plain_params _ mid r e refl refl refl refl
follows_params mid m2 rest (a_bracket r e) close none = plain_params _ mid r e refl refl refl refl
follows_params mid m2 rest (a_parenthesis r e) close none = plain_params _ mid r e refl refl refl refl
follows_params mid m2 rest (a_question r e f) close none =
    all_false (at_first "," e) (at_first ":" e)
    (choose_is ends_param (punctuator_taken "?" e) ∙ ap (λ b. b || (at_punctuator "," r || at_punctuator ":" r)) (not_first ")" refl f) ∙ ap (λ b. b || at_punctuator ":" r) (not_first "," refl f) ∙ not_first ":" refl f)
    (choose_false (at_punctuator "=>") (not_taken ")" e refl))

no_params : (h l : ℕ) (e : ExprTree) (ts m2 rest : List TokenKind) → expr_at h l e ts m2 → punctuator ")" m2 rest → at_punctuator "=>" rest ≡ false → at_params ts ≡ false
unfolding at_params is_other word_params optional_param closes_params
no_params h l e ts m2 rest p close none = by (leftmost h l e ts m2 p)
  where
    other : (t : TokenKind) (r : List TokenKind) → is_other t ≡ true → at_params (t ∷ r) ≡ false
    other (kinds.Word w) r o = absurd (false≢true o)
    other (kinds.Punct x) r o = at_first ")" refl ∙ excluded_punctuator is_other ")" (kinds.Punct x) refl o
    other (kinds.Number x) r o = at_first ")" refl
    other (kinds.Str x) r o = at_first ")" refl
    other (kinds.Whole x) r o = at_first ")" refl
    other (kinds.Head x) r o = at_first ")" refl
    other (kinds.Middle x) r o = at_first ")" refl
    other (kinds.Tail x) r o = at_first ")" refl

    by_atom : (mid : List TokenKind) → Follows mid m2 → Atom l ts mid → at_params ts ≡ false
    by_atom mid f (a_word w is) = ap at_params is ∙ follows_params mid m2 rest f close none
    by_atom mid f (a_letter w us is t) = ap at_params is ∙ template_params us t
    by_atom mid f (an_arrow w us r k is q) = ap at_params is ∙ plain_params _ us r q refl refl refl refl
    by_atom mid f (an_enclosed j x m1 m3 q r s) = ap at_params q ∙ at_first ")" refl
    by_atom mid f (some_params r k q) = ap at_params q ∙ at_first ")" refl
    by_atom mid f (another t r is o) = ap at_params is ∙ other t r o

    by : Leftmost l ts m2 → at_params ts ≡ false
    by x = by_atom x.mid x.follows x.atom

-- what is no arrow function has no `=>` after what may be its parameters
pub no_arrow : (h l : ℕ) (e : ExprTree) (ts rest : List TokenKind) → l ≤ 9 → expr_at h l e ts rest → at_punctuator "=>" rest ≡ false → at_arrow ts ≡ false
unfolding at_arrow is_other choose
no_arrow h l e ts rest le p none = by (leftmost h l e ts rest p)
  where
    other : (t : TokenKind) (r : List TokenKind) → is_other t ≡ true → at_arrow (t ∷ r) ≡ false
    other (kinds.Word w) r o = absurd (false≢true o)
    other (kinds.Punct x) r o = choose_false at_params (not_taken "(" refl (excluded_punctuator is_other "(" (kinds.Punct x) refl o))
    other (kinds.Number x) r o = choose_false at_params (not_taken "(" refl refl)
    other (kinds.Str x) r o = choose_false at_params (not_taken "(" refl refl)
    other (kinds.Whole x) r o = choose_false at_params (not_taken "(" refl refl)
    other (kinds.Head x) r o = choose_false at_params (not_taken "(" refl refl)
    other (kinds.Middle x) r o = choose_false at_params (not_taken "(" refl refl)
    other (kinds.Tail x) r o = choose_false at_params (not_taken "(" refl refl)

    following : (mid : List TokenKind) → Follows mid rest → at_punctuator "=>" mid ≡ false
    following mid f = follows_no_punctuator "=>" mid rest (no_operator_is "=>" refl refl refl refl refl refl refl refl refl refl refl) refl refl refl refl none f

    by_atom : (mid : List TokenKind) → Follows mid rest → Atom l ts mid → at_arrow ts ≡ false
    by_atom mid f (a_word w is) = ap at_arrow is ∙ following mid f
    by_atom mid f (a_letter w us is t) = ap at_arrow is ∙ template_no_punctuator "=>" us t
    by_atom mid f (an_arrow w us r k is q) = absurd (omega arith)
    by_atom mid f (an_enclosed j x m1 m2 q r s) =
        ap at_arrow q ∙ choose_is at_params (punctuator_taken "(" refl) ∙ no_params j any_expr x m1 m2 mid r s (following mid f)
    by_atom mid f (some_params r k q) = absurd (omega arith)
    by_atom mid f (another t r is o) = ap at_arrow is ∙ other t r o

    by : Leftmost l ts rest → at_arrow ts ≡ false
    by x = by_atom x.mid x.follows x.atom

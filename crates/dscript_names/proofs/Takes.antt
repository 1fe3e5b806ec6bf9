-- How many tokens a language has at least.
use Prim.Native.String.{String as Letters}
use Rattle.std.proofs.Common.{◌≡◌, ℕ, ◌+◌, ◌<◌, ◌≤◌, Bool, List, [], ◌∷◌, length, Option, ap, inl, inr, arith}
use Rattle.dscript_lex.specs.declared.token.TokenKind.{TokenKind}
use Rattle.dscript_ast.specs.TypeTree.{TypeTree}
use Rattle.dscript_ast.specs.ExprTree.{ParamTree, HeadTree, Single, Params}
use Rattle.dscript_grammar.specs.ExprGrammar.{head, param, params, type_note}
use Rattle.dscript_grammar.specs.Language.{Language, never, token, punctuator, identifier, ◌⋅◌, either, given, only_if, optional, many, list, not_before}
use Rattle.dscript_grammar.proofs.Combinators.{NotLonger, Consumes, flag_not_longer, list_count}
use Rattle.dscript_grammar.proofs.ExprLengths.{note_consumes, optional_not_longer, param_consumes}
use Rattle.dscript_names.specs.Sizes.{head_size}

-- what it derives has at least this many tokens
pub record Takes (n : ℕ) (A : Language) : Type 0 where
  pub at : (ts rest : List TokenKind) → A ts rest → n + length rest ≤ length ts

pub takes_token : (t : TokenKind) → Takes 1 (token t)
takes_token t = record { at = λ ts rest e. omega (arith, ap length e) }

pub takes_identifier : (w : List ℕ) → Takes 1 (identifier w)
takes_identifier w = record { at = λ ts rest e. omega (arith, ap length e.0) }

pub takes_never : (n : ℕ) → Takes n never
takes_never n = record { at = λ ts rest e. absurd e }

pub takes_none : {A : Language} → NotLonger A → Takes 0 A
takes_none h = record { at = λ ts rest p. let l : length rest ≤ length ts = h ts rest p in omega (arith, l) }

pub takes_one : {A : Language} → Consumes A → Takes 1 A
takes_one h = record { at = λ ts rest p. let l : length rest < length ts = h ts rest p in omega (arith, l) }

pub takes_then : {A B : Language} {m n : ℕ} → Takes m A → Takes n B → Takes (m + n) (A ⋅ B)
takes_then {m = m} {n = n} a b = record {
  at = λ ts rest p.
      let l : m + length p.0 ≤ length ts = a.at ts p.0 p.1 in
      let k : n + length rest ≤ length p.0 = b.at p.0 rest p.2 in
      omega (arith, l, k);
}

pub takes_less : {A : Language} (m n : ℕ) → m ≤ n → Takes n A → Takes m A
takes_less m n le a = record {
  at = λ ts rest p. let l : n + length rest ≤ length ts = a.at ts rest p in omega (arith, le, l);
}

-- a row of two, of which the first is not counted, or the last is not
pub takes_after : {A B : Language} {m n : ℕ} → Takes m A → Takes n B → Takes n (A ⋅ B)
takes_after {m = m} {n = n} a b = takes_less n (m + n) (omega arith) (takes_then a b)

pub takes_before : {A B : Language} {m n : ℕ} → Takes m A → Takes n B → Takes m (A ⋅ B)
takes_before {m = m} {n = n} a b = takes_less m (m + n) (omega arith) (takes_then a b)

pub takes_given : {P : Type 0} {A : Language} {n : ℕ} → Takes n A → Takes n (given P A)
takes_given h = record { at = λ ts rest p. h.at ts rest p.1 }

pub takes_not_before : (s : Letters) {A : Language} {n : ℕ} → Takes n A → Takes n (not_before s A)
takes_not_before s h = record { at = λ ts rest p. h.at ts rest p.1 }

pub takes_either : {A B : Language} (n : ℕ) → Takes n A → Takes n B → Takes n (either A B)
takes_either {A} {B} n a b = record { at = λ ts rest p. by_case ts rest p }
  where
    by_case : (ts rest : List TokenKind) → either A B ts rest → n + length rest ≤ length ts
    by_case ts rest (inl p) = a.at ts rest p
    by_case ts rest (inr p) = b.at ts rest p

pub takes_flag : (s : Letters) (b : Bool) → Takes 0 (only_if b (punctuator s))
takes_flag s b = takes_none (flag_not_longer s b)

pub takes_note : (h : ℕ) (t : Option TypeTree) → Takes 0 (optional (type_note h) t)
takes_note h t = takes_none (optional_not_longer (type_note h) (note_consumes h) t)

-- ## Lists

-- the sum of a number of each
abbrev pub total : {X : Type 0} → (X → ℕ) → List X → ℕ
total size [] = 0
total size (x ∷ xs) = size x + total size xs

-- nothing, with the type that a list of no elements has
pub takes_nothing : {A : Language} → ((ts rest : List TokenKind) → A ts rest → ts ≡ rest) → Takes 0 A
takes_nothing h = record { at = λ ts rest p. omega (arith, ap length (h ts rest p)) }

module _ {X : Type 0} (size : X → ℕ) (L : X → Language) (each : (x : X) → Takes (size x) (L x)) where
  pub takes_many : (xs : List X) → Takes (total size xs) (many L xs)
  takes_many [] = takes_nothing (λ ts rest e. e)
  takes_many (x ∷ xs) = takes_then (each x) (takes_many xs)

  pub takes_list : (xs : List X) → Takes (total size xs) (list L xs)
  takes_list [] = takes_nothing (λ ts rest e. e)
  takes_list (x ∷ []) =
      takes_then (each x) (takes_either 0 (takes_less 0 1 (omega arith) (takes_token _)) (takes_nothing (λ ts rest e. e)))
  takes_list (x ∷ y ∷ xs) = takes_then (each x) (takes_after (takes_token _) (takes_list (y ∷ xs)))

-- ## Parameters

pub takes_params : (h : ℕ) (ps : List ParamTree) → Takes (length ps) (params h ps)
takes_params h ps =
    takes_after (takes_token _)
    (takes_before (let all : Takes (length ps) (list (param h) ps) = record { at = list_count (param h) (param_consumes h) ps } in all)
    (takes_token _))

pub takes_head : (h : ℕ) (x : HeadTree) → Takes (head_size x) (head h x)
takes_head h (Single x) = takes_identifier x
takes_head h (Params ps) = takes_params h ps

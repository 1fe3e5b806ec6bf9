-- Words among the tokens that a language derives.
use Prim.Native.String.{String as Letters}
use Rattle.std.proofs.Common.{◌≡◌, Bool, true, false, List, [], ◌∷◌, ◌++◌, Option, Some, None, refl, ap, sym, ◌∙◌, subst, inl, inr, append_assoc, append-nil}
use Rattle.std.proofs.Common.{ℕ}
use Rattle.std.specs.List.{flat_map}
use Rattle.dscript_lex.specs.declared.token.TokenKind.{TokenKind}
use Rattle.dscript_lex.specs.declared.token.TokenKind.TheVariants as kinds
use Rattle.dscript_grammar.specs.Language.{Language, nothing, never, token, punctuator, name, identifier, ◌⋅◌, either, given, only_if, optional, many, separated, list, not_before}
use Rattle.dscript_names_laws.specs.Met.{Occur, Words}

further : (ws : Words) (more mid rest : List TokenKind) → Occur ws mid rest → Occur ws (more ++ mid) rest
further [] more mid rest h =
    (more ++ h.0, ap (λ (ts : List TokenKind). more ++ ts) h.1 ∙ sym (append_assoc more h.0 rest))
further (w ∷ ws) more mid rest h = (
  more ++ h.0,
  h.1,
  ap (λ (ts : List TokenKind). more ++ ts) h.2 ∙ sym (append_assoc more h.0 (kinds.Word w ∷ h.1)),
  h.3,
)

one_after : (ws vs : Words) (ts mid rest : List TokenKind) → Occur ws ts mid → Occur vs mid rest → Occur (ws ++ vs) ts rest
one_after [] vs ts mid rest h k = subst (λ (l : List TokenKind). Occur vs l rest) (sym h.1) (further vs h.0 mid rest k)
one_after (w ∷ ws) vs ts mid rest h k = (h.0, h.1, h.2, one_after ws vs h.1 mid rest h.3 k)

-- in what it derives the words occur
pub record Meets (ws : Words) (A : Language) : Type 0 where
  pub at : (ts rest : List TokenKind) → A ts rest → Occur ws ts rest

pub meets_token : (t : TokenKind) → Meets [] (token t)
meets_token t = record { at = λ ts rest e. (t ∷ [], e) }

pub meets_word : (w : List ℕ) → Meets (w ∷ []) (name w)
meets_word w = record { at = λ ts rest e. ([], rest, e, ([], refl)) }

pub meets_name : (w : List ℕ) → Meets (w ∷ []) (identifier w)
meets_name w = record { at = λ ts rest e. ([], rest, e.0, ([], refl)) }

pub skips_name : (w : List ℕ) → Meets [] (identifier w)
skips_name w = record { at = λ ts rest e. (kinds.Word w ∷ [], e.0) }

pub meets_never : (ws : Words) → Meets ws never
meets_never ws = record { at = λ ts rest e. absurd e }

pub meets_nothing : Meets [] nothing
meets_nothing = record { at = λ ts rest e. ([], e) }

pub meets_then : {A B : Language} {ws vs : Words} → Meets ws A → Meets vs B → Meets (ws ++ vs) (A ⋅ B)
meets_then {ws = ws} {vs = vs} a b = record {
  at = λ ts rest p. one_after ws vs ts p.0 rest (a.at ts p.0 p.1) (b.at p.0 rest p.2);
}

-- a row of two, of which the first meets nothing
pub meets_after : {A B : Language} {vs : Words} → Meets [] A → Meets vs B → Meets vs (A ⋅ B)
meets_after {vs = vs} a b = record {
  at = λ ts rest p. one_after [] vs ts p.0 rest (a.at ts p.0 p.1) (b.at p.0 rest p.2);
}

pub meets_as : {A : Language} (ws vs : Words) → ws ≡ vs → Meets vs A → Meets ws A
meets_as ws vs e h = record { at = λ ts rest p. subst (λ (us : Words). Occur us ts rest) (sym e) (h.at ts rest p) }

-- of which the last meets nothing
pub meets_before : {A B : Language} {ws : Words} → Meets ws A → Meets [] B → Meets ws (A ⋅ B)
meets_before {ws = ws} a b = record {
  at = λ ts rest p.
      subst (λ (us : Words). Occur us ts rest) (append-nil ws)
      (one_after ws [] ts p.0 rest (a.at ts p.0 p.1) (b.at p.0 rest p.2));
}

pub meets_given : {P : Type 0} {A : Language} {ws : Words} → Meets ws A → Meets ws (given P A)
meets_given h = record { at = λ ts rest p. h.at ts rest p.1 }

pub meets_not_before : (s : Letters) {A : Language} {ws : Words} → Meets ws A → Meets ws (not_before s A)
meets_not_before s h = record { at = λ ts rest p. h.at ts rest p.1 }

pub meets_either : {A B : Language} {ws : Words} → Meets ws A → Meets ws B → Meets ws (either A B)
meets_either {A} {B} {ws} a b = record { at = λ ts rest p. by_case ts rest p }
  where
    by_case : (ts rest : List TokenKind) → either A B ts rest → Occur ws ts rest
    by_case ts rest (inl p) = a.at ts rest p
    by_case ts rest (inr p) = b.at ts rest p

pub skips_flag : (s : Letters) (b : Bool) → Meets [] (only_if b (punctuator s))
skips_flag s true = meets_token _
skips_flag s false = meets_nothing

pub skips_optional : {X : Type 0} (L : X → Language) → ((x : X) → Meets [] (L x)) → (o : Option X) → Meets [] (optional L o)
skips_optional L each None = meets_nothing
skips_optional L each (Some x) = each x

-- ## Lists

module _ {X : Type 0} (L : X → Language) (each : (x : X) → Meets [] (L x)) where
  pub skips_many : (xs : List X) → Meets [] (many L xs)
  skips_many [] = meets_nothing
  skips_many (x ∷ xs) = meets_after (each x) (skips_many xs)

  pub skips_separated : (s : Letters) (xs : List X) → Meets [] (separated s L xs)
  skips_separated s [] = meets_never []
  skips_separated s (x ∷ []) = each x
  skips_separated s (x ∷ y ∷ xs) = meets_after (each x) (meets_after (meets_token _) (skips_separated s (y ∷ xs)))

  pub skips_list : (xs : List X) → Meets [] (list L xs)
  skips_list [] = meets_nothing
  skips_list (x ∷ []) = meets_after (each x) (meets_either (meets_token _) meets_nothing)
  skips_list (x ∷ y ∷ xs) = meets_after (each x) (meets_after (meets_token _) (skips_list (y ∷ xs)))

module _ {X : Type 0} (words : X → Words) (L : X → Language) (each : (x : X) → Meets (words x) (L x)) where
  pub meets_many : (xs : List X) → Meets (flat_map words xs) (many L xs)
  meets_many [] = meets_nothing
  meets_many (x ∷ xs) = meets_then (each x) (meets_many xs)

  pub meets_list : (xs : List X) → Meets (flat_map words xs) (list L xs)
  meets_list [] = meets_nothing
  meets_list (x ∷ []) = meets_then (each x) (meets_either (meets_token _) meets_nothing)
  meets_list (x ∷ y ∷ xs) = meets_then (each x) (meets_after (meets_token _) (meets_list (y ∷ xs)))

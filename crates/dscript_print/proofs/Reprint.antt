-- Tokens that a language derives, before any other tokens.
use Prim.Native.String.{String}
use Rattle.std.proofs.Common.{◌≡◌, ℕ, zero, suc, Bool, true, false, List, [], ◌∷◌, ◌++◌, map, refl, sym, subst, inl, inr}
use Rattle.std.specs.List.{AllByRecursion}
use Rattle.dscript_lex.specs.declared.token.TokenKind.{TokenKind}
use Rattle.dscript_lex.specs.declared.token.TokenKind.TheVariants as kinds
use Rattle.dscript_grammar.specs.Language.{Language, nothing, token, punctuator, identifier, ◌⋅◌, either, given, only_if, many, times, separated, list}
use Rattle.dscript_print.specs.Runs.{punct, enclosed, run_if, concat_tokens, preceded, separate, repeated}
use Rattle.dscript_print.proofs.Spelled.{Spells, is_plain, Balanced, append_assoc, append_nil, balanced_append, balanced_token, balanced_braces, open_paren, close_paren}

-- each token has a spelling
abbrev pub AllSpell : List TokenKind → Type 0
AllSpell ts = AllByRecursion Spells ts

-- The printed tokens are derived, before any others, and can be written wherever those after them can; and the tokens
-- after those that were read have spellings.
pub record IsReprint (B : Language) (xs rest : List TokenKind) : Type 0 where
  pub derived : (more : List TokenKind) → B (xs ++ more) more
  pub fine : Balanced xs
  pub left : AllSpell rest

-- where A derives tokens, B derives these
abbrev pub Reprints : Language → Language → List TokenKind → Type 0
Reprints A B xs = (ts rest : List TokenKind) → AllSpell ts → A ts rest → IsReprint B xs rest

pub token_left : (t : TokenKind) (ts rest : List TokenKind) → AllSpell ts → ts ≡ t ∷ rest → Spells t × AllSpell rest
token_left t ts rest fine e = subst AllSpell e fine

pub seq_holds : (A B : Language) (xs ys : List TokenKind) → ((more : List TokenKind) → A (xs ++ more) more) → ((more : List TokenKind) → B (ys ++ more) more)
    → (more : List TokenKind) → (A ⋅ B) ((xs ++ ys) ++ more) more
seq_holds A B xs ys a b more =
    (ys ++ more, subst (λ (zs : List TokenKind). A zs (ys ++ more)) (sym (append_assoc xs ys more)) (a (ys ++ more)), b more)

pub reprint_seq : (A B : Language) (xs ys mid rest : List TokenKind)
    → IsReprint A xs mid → (AllSpell mid → IsReprint B ys rest) → IsReprint (A ⋅ B) (xs ++ ys) rest
reprint_seq A B xs ys mid rest a f =
    let b = f a.left in
    record { derived = seq_holds A B xs ys a.derived b.derived; fine = balanced_append xs ys a.fine b.fine; left = b.left }

pub reprints_seq : (A A2 B B2 : Language) (xs ys : List TokenKind) → Reprints A A2 xs → Reprints B B2 ys → Reprints (A ⋅ B) (A2 ⋅ B2) (xs ++ ys)
reprints_seq A A2 B B2 xs ys a b ts rest fine d =
    reprint_seq A2 B2 xs ys d.0 rest (a ts d.0 fine d.1) (λ f. b d.0 rest f d.2)

pub reprints_nothing : Reprints nothing nothing []
reprints_nothing ts rest fine e = record { derived = λ more. refl; fine = λ bs more a. a; left = subst AllSpell e fine }

pub reprints_token : (t : TokenKind) → is_plain t ≡ true → Reprints (token t) (token t) (t ∷ [])
reprints_token t plain ts rest fine e =
    let both = token_left t ts rest fine e in
    record { derived = λ more. refl; fine = balanced_token t plain both.0; left = both.1 }

-- a token, and those after it
pub reprints_after : (t : TokenKind) → is_plain t ≡ true → (B B2 : Language) (ys : List TokenKind) → Reprints B B2 ys → Reprints (token t ⋅ B) (token t ⋅ B2) (t ∷ ys)
reprints_after t plain B B2 ys b = reprints_seq (token t) (token t) B B2 (t ∷ []) ys (reprints_token t plain) b

pub reprints_id : (w : List ℕ) → Reprints (identifier w) (identifier w) (kinds.Word w ∷ [])
reprints_id w ts rest fine d =
    let both = token_left (kinds.Word w) ts rest fine d.0 in
    record { derived = λ more. (refl, d.1); fine = balanced_token (kinds.Word w) refl both.0; left = both.1 }

pub reprints_after_id : (w : List ℕ) (B B2 : Language) (ys : List TokenKind) → Reprints B B2 ys → Reprints (identifier w ⋅ B) (identifier w ⋅ B2) (kinds.Word w ∷ ys)
reprints_after_id w B B2 ys b = reprints_seq (identifier w) (identifier w) B B2 (kinds.Word w ∷ []) ys (reprints_id w) b

-- tokens in braces, and those after them
pub reprints_braces : (A A2 B B2 : Language) (xs ys : List TokenKind) → Reprints A A2 xs → Reprints B B2 ys
    → Reprints (punctuator "{" ⋅ A ⋅ punctuator "}" ⋅ B) (punctuator "{" ⋅ A2 ⋅ punctuator "}" ⋅ B2) (punct "{" ∷ (xs ++ (punct "}" ∷ ys)))
reprints_braces A A2 B B2 xs ys a b ts rest fine d =
    let p = a d.0 d.2.0 (token_left (punct "{") ts d.0 fine d.1).1 d.2.1 in
    let q = b d.2.2.0 rest (token_left (punct "}") d.2.0 d.2.2.0 p.left d.2.2.1).1 d.2.2.2 in
    record {
      derived = λ more. ((xs ++ (punct "}" ∷ ys)) ++ more, refl, seq_holds A2 (punctuator "}" ⋅ B2) xs (punct "}" ∷ ys) p.derived (λ m. (ys ++ m, refl, q.derived m)) more);
      fine = balanced_braces xs ys p.fine q.fine;
      left = q.left;
    }

pub reprints_in_braces : (A A2 : Language) (xs : List TokenKind) → Reprints A A2 xs → Reprints (punctuator "{" ⋅ A ⋅ punctuator "}") (punctuator "{" ⋅ A2 ⋅ punctuator "}") (punct "{" ∷ (xs ++ (punct "}" ∷ [])))
reprints_in_braces A A2 xs a ts rest fine d =
    let p = a d.0 d.2.0 (token_left (punct "{") ts d.0 fine d.1).1 d.2.1 in
    record {
      derived = λ more. ((xs ++ (punct "}" ∷ [])) ++ more, refl, seq_holds A2 (punctuator "}") xs (punct "}" ∷ []) p.derived (λ m. refl) more);
      fine = balanced_braces xs [] p.fine (λ bs more a. a);
      left = (token_left (punct "}") d.2.0 rest p.left d.2.2).1;
    }

pub reprints_given : (P : Type 0) (A B : Language) (xs : List TokenKind) → Reprints A B xs → Reprints (given P A) (given P B) xs
reprints_given P A B xs a ts rest fine d =
    let s = a ts rest fine d.1 in
    record { derived = λ more. (d.0, s.derived more); fine = s.fine; left = s.left }

pub reprints_if : (b : Bool) (A B : Language) (xs : List TokenKind) → Reprints A B xs → Reprints (only_if b A) (only_if b B) (run_if b xs)
reprints_if true A B xs a = a
reprints_if false A B xs a = reprints_nothing

pub reprints_times : (n : ℕ) (A : Language) (xs : List TokenKind) → Reprints A A xs → Reprints (times n A) (times n A) (repeated n xs)
reprints_times zero A xs a = reprints_nothing
reprints_times (suc n) A xs a = reprints_seq A A (times n A) (times n A) xs (repeated n xs) a (reprints_times n A xs a)

pub reprints_alone : (B A : Language) (xs : List TokenKind) → Reprints A B xs → Reprints A B (xs ++ [])
reprints_alone B A xs a = subst (Reprints A B) (sym (append_nil xs)) a

module _ {X : Type 0} (A B : X → Language) (k : X → List TokenKind) (one : (x : X) → Reprints (A x) (B x) (k x)) where
  pub reprints_many : (xs : List X) → Reprints (many A xs) (many B xs) (concat_tokens (map k xs))
  reprints_many [] = reprints_nothing
  reprints_many (x ∷ xs) = reprints_seq (A x) (B x) (many A xs) (many B xs) (k x) (concat_tokens (map k xs)) (one x) (reprints_many xs)

  pub reprints_separated : (s : String) → is_plain (punct s) ≡ true → (xs : List X) → Reprints (separated s A xs) (separated s B xs) (separate s (map k xs))
  reprints_separated s plain [] = λ ts rest fine d. absurd d
  reprints_separated s plain (x ∷ []) = reprints_alone (B x) (A x) (k x) (one x)
  reprints_separated s plain (x ∷ y ∷ more) =
      reprints_seq (A x) (B x) _ _ (k x) (preceded s (map k (y ∷ more))) (one x)
      (reprints_after (punct s) plain (separated s A (y ∷ more)) (separated s B (y ∷ more)) (separate s (map k (y ∷ more))) (reprints_separated s plain (y ∷ more)))

  pub reprints_list : (xs : List X) → Reprints (list A xs) (list B xs) (separate "," (map k xs))
  reprints_list [] = reprints_nothing
  reprints_list (x ∷ []) = reprints_seq (A x) (B x) (either (punctuator ",") nothing) (either (punctuator ",") nothing) (k x) [] (one x) no_comma
    where
      no_comma : Reprints (either (punctuator ",") nothing) (either (punctuator ",") nothing) []
      no_comma ts rest fine (inl e) = record { derived = λ more. inr refl; fine = λ bs more a. a; left = (token_left (punct ",") ts rest fine e).1 }
      no_comma ts rest fine (inr e) = record { derived = λ more. inr refl; fine = λ bs more a. a; left = subst AllSpell e fine }
  reprints_list (x ∷ y ∷ more) =
      reprints_seq (A x) (B x) _ _ (k x) (preceded "," (map k (y ∷ more))) (one x)
      (reprints_after (punct ",") refl (list A (y ∷ more)) (list B (y ∷ more)) (separate "," (map k (y ∷ more))) (reprints_list (y ∷ more)))

-- tokens in parentheses
pub reprint_enclosed : (A : Language) (xs rest : List TokenKind) → IsReprint A xs rest → IsReprint (punctuator "(" ⋅ A ⋅ punctuator ")") (enclosed xs) rest
reprint_enclosed A xs rest s =
    record {
      derived = λ more. ((xs ++ (punct ")" ∷ [])) ++ more, refl, seq_holds A (punctuator ")") xs (punct ")" ∷ []) s.derived (λ m. refl) more);
      fine =
          balanced_append (punct "(" ∷ []) (xs ++ (punct ")" ∷ [])) (balanced_token (punct "(") refl open_paren)
          (balanced_append xs (punct ")" ∷ []) s.fine (balanced_token (punct ")") refl close_paren));
      left = s.left;
    }

-- Tokens that have spellings, and lists of tokens that close each bracket that they open.
use Rattle.std.proofs.Common.{◌≡◌, ℕ, Bool, true, false, not, ◌&&◌, ◌||◌, ◌==◌, List, [], ◌∷◌, ◌++◌, Option, Some, None, codes, refl, ap, sym, ◌∙◌, subst, arith, if◌then◌else◌}
use Rattle.std.proofs.lemmas.Bool.{false≢true, and_parts}
use Rattle.std.proofs.lemmas.Option.{none-some}
use Rattle.std.proofs.lemmas.Bool.Decides.{nat_tests}
use Rattle.dscript_lex.specs.declared.token.TokenKind.{TokenKind}
use Rattle.dscript_lex.specs.declared.token.TokenKind.TheVariants as kinds
use Rattle.dscript_lex.specs.declared.brackets.Bracket.{Bracket}
use Rattle.dscript_lex.specs.declared.brackets.Bracket.TheVariants.{Hole, Brace}
use Rattle.dscript_lex.specs.declared.lexeme.LexemeKind.{LexemeKind}
use Rattle.dscript_lex.specs.declared.lexeme.LexemeKind.TheVariants.{Spelled}
use Rattle.dscript_lex.specs.Lexemes.{lexeme_of, lexeme_as, enclosed, Enclosed, part_lexeme, part_kind}
use Rattle.dscript_lex.specs.declared.opening.Opening.{Opening}
use Rattle.dscript_lex.specs.declared.opening.Opening.TheVariants as openings
use Rattle.dscript_lex.specs.Bytes.{is_blank, is_word_start}
use Rattle.std.specs.Char.{is_ascii_digit}
use Rattle.dscript_lex.specs.Punctuators.{is_punctuator}
use Rattle.dscript_lex.specs.Tokens.{brackets_after, after_punctuator, closed, in_hole}
use Rattle.dscript_print_tokens.specs.Spellable.{HasSpelling, AreSpellableAfter, AreSpellable}
use Rattle.dscript_print.specs.Runs.{punct}

-- the token has a spelling, inside a hole or not
abbrev pub Spells : TokenKind → Type 0
Spells t = (is_in_hole : Bool) × HasSpelling is_in_hole t

-- tokens that open and close no bracket
abbrev pub is_plain_punctuator : List ℕ → Bool
is_plain_punctuator (b ∷ []) = not (b == 0x7b) && not (b == 0x7d)
is_plain_punctuator _ = true

abbrev pub is_plain : TokenKind → Bool
is_plain (kinds.Word _) = true
is_plain (kinds.Number _) = true
is_plain (kinds.Str _) = true
is_plain (kinds.Whole _) = true
is_plain (kinds.Punct s) = is_plain_punctuator s
is_plain _ = false

-- tokens whose spelling is one both inside a hole and elsewhere
abbrev is_movable_punctuator : List ℕ → Bool
is_movable_punctuator (b ∷ []) = not (b == 0x7d)
is_movable_punctuator _ = true

abbrev is_movable : TokenKind → Bool
is_movable (kinds.Middle _) = false
is_movable (kinds.Tail _) = false
is_movable (kinds.Punct s) = is_movable_punctuator s
is_movable _ = true

-- a part of a template after a hole
abbrev is_later : TokenKind → Bool
is_later (kinds.Middle _) = true
is_later (kinds.Tail _) = true
is_later _ = false

abbrev kind_of : Option LexemeKind → TokenKind
kind_of (Some (Spelled t)) = t
kind_of _ = kinds.Word []

movable_if_plain : (t : TokenKind) → is_plain t ≡ true → is_movable t ≡ true
movable_if_plain (kinds.Word _) e = refl
movable_if_plain (kinds.Number _) e = refl
movable_if_plain (kinds.Str _) e = refl
movable_if_plain (kinds.Whole _) e = refl
movable_if_plain (kinds.Head _) e = refl
movable_if_plain (kinds.Middle _) e = e
movable_if_plain (kinds.Tail _) e = e
movable_if_plain (kinds.Punct []) e = refl
movable_if_plain (kinds.Punct (b ∷ [])) e = (and_parts (not (b == 0x7b)) (not (b == 0x7d)) e).1
movable_if_plain (kinds.Punct (b ∷ c ∷ bs)) e = refl

-- the lexeme that a byte begins, by whether it begins the next part of a template
abbrev opening_with : Bool → ℕ → Opening
opening_with goes_on b =
    if is_blank b then openings.Blank
    else (if is_word_start b then openings.Word
    else (if is_ascii_digit b then openings.Number
    else (if b == 0x22 || b == 0x27 then openings.Quote
    else (if b == 0x60 then openings.Template
    else (if goes_on then openings.Part
    else openings.Other)))))

-- a lexeme that does not begin with `}` does not depend on the brackets that are open
alike : (b : Bool) (c : ℕ) (cs : List ℕ) → (c == 0x7d) ≡ false → lexeme_of true (c ∷ cs) ≡ lexeme_of b (c ∷ cs)
unfolding lexeme_of
alike true c cs e = refl
alike false c cs e = ap (λ x. lexeme_as (opening_with x c) c cs) e

-- the kind of a lexeme that begins with `}`
abbrev by_brace : Bool → Option LexemeKind → Type 0
by_brace b o = (t : TokenKind) → o ≡ Some (Spelled t) → (is_movable t ≡ false) × (is_later t ≡ b)

brace_part : (o : Option Enclosed) → by_brace true (part_lexeme false o)
brace_part None t e = absurd (none-some _ e)
brace_part (Some r) t e = of_hole r.hole e
  where
    of_hole : (hole : Bool) → Some (Spelled (part_kind false hole r.value)) ≡ Some (Spelled t) → (is_movable t ≡ false) × (is_later t ≡ true)
    of_hole true e = (sym (ap (λ o. is_movable (kind_of o)) e), sym (ap (λ o. is_later (kind_of o)) e))
    of_hole false e = (sym (ap (λ o. is_movable (kind_of o)) e), sym (ap (λ o. is_later (kind_of o)) e))

brace_punctuator : (cs : List ℕ) → by_brace false (lexeme_of false (0x7d ∷ cs))
unfolding lexeme_of lexeme_as is_punctuator
brace_punctuator [] t e = (sym (ap (λ o. is_movable (kind_of o)) e), sym (ap (λ o. is_later (kind_of o)) e))
brace_punctuator (a ∷ []) t e = absurd (none-some _ e)
brace_punctuator (a ∷ b ∷ []) t e = absurd (none-some _ e)
brace_punctuator (a ∷ b ∷ c ∷ cs) t e = absurd (none-some _ e)

brace : (b : Bool) (cs : List ℕ) → by_brace b (lexeme_of b (0x7d ∷ cs))
unfolding lexeme_of lexeme_as
brace true cs = brace_part (enclosed 0x60 cs)
brace false cs = brace_punctuator cs

-- a spelling is one inside a hole and elsewhere, unless it begins with `}`
spelled_at : (b : Bool) (t : TokenKind) (h : Bool) (text : List ℕ) → lexeme_of h text ≡ Some (Spelled t)
    → ((cs : List ℕ) → lexeme_of h (0x7d ∷ cs) ≡ Some (Spelled t) → HasSpelling b t) → HasSpelling b t
unfolding lexeme_of
spelled_at b t h [] e other = absurd (none-some _ e)
spelled_at b t h (c ∷ cs) e other = by (c == 0x7d) refl
  where
    by : (test : Bool) → (c == 0x7d) ≡ test → HasSpelling b t
    by false ne = record { text = c ∷ cs; is = sym (alike b c cs ne) ∙ alike h c cs ne ∙ e }
    by true eq =
        let same : c ≡ 0x7d = grind (arith, nat_tests, eq) in
        other cs (subst (λ x. lexeme_of h (x ∷ cs) ≡ Some (Spelled t)) same e)

movable_anywhere : (t : TokenKind) → is_movable t ≡ true → Spells t → (b : Bool) → HasSpelling b t
movable_anywhere t m s b =
    spelled_at b t s.0 s.1.text s.1.is (λ cs e. absurd (false≢true (sym (brace s.0 cs t e).0 ∙ m)))

later_in_hole : (t : TokenKind) → is_later t ≡ true → Spells t → HasSpelling true t
later_in_hole t m s = by s.0 s.1
  where
    by : (h : Bool) → HasSpelling h t → HasSpelling true t
    by true p = p
    by false p = spelled_at true t false p.text p.is (λ cs e. absurd (false≢true (sym (brace false cs t e).1 ∙ m)))

-- a punctuator or a word, whose spelling does not depend on the brackets that are open
fixed_anywhere : (t : TokenKind) (text : List ℕ) → lexeme_of true text ≡ Some (Spelled t) → lexeme_of false text ≡ Some (Spelled t) → (b : Bool) → HasSpelling b t
fixed_anywhere t text p q true = record { text = text; is = p }
fixed_anywhere t text p q false = record { text = text; is = q }

-- tokens that can be written wherever those after them can
abbrev pub Balanced : List TokenKind → Type 0
Balanced xs = (open_ones : List Bracket) (more : List TokenKind) → AreSpellableAfter open_ones more → AreSpellableAfter open_ones (xs ++ more)

-- tokens of a hole, which they close
abbrev pub Closes : List TokenKind → Type 0
Closes xs = (open_ones : List Bracket) (more : List TokenKind) → AreSpellableAfter open_ones more → AreSpellableAfter (Hole ∷ open_ones) (xs ++ more)

pub append_assoc : {A : Type 0} (xs ys zs : List A) → (xs ++ ys) ++ zs ≡ xs ++ (ys ++ zs)
append_assoc [] ys zs = refl
append_assoc (x ∷ xs) ys zs = ap (λ ws. x ∷ ws) (append_assoc xs ys zs)

pub append_nil : (xs : List TokenKind) → xs ++ [] ≡ xs
append_nil [] = refl
append_nil (x ∷ xs) = ap (λ zs. x ∷ zs) (append_nil xs)

pub balanced_append : (xs ys : List TokenKind) → Balanced xs → Balanced ys → Balanced (xs ++ ys)
balanced_append xs ys p q bs more a =
    subst (AreSpellableAfter bs) (sym (append_assoc xs ys more)) (p bs (ys ++ more) (q bs more a))

after_punctuator_plain : (s : List ℕ) (bs : List Bracket) → is_plain_punctuator s ≡ true → after_punctuator s bs ≡ bs
after_punctuator_plain [] bs e = refl
after_punctuator_plain (b ∷ c ∷ s) bs e = refl
after_punctuator_plain (b ∷ []) bs e = by (b == 0x7b) (b == 0x7d) (and_parts (not (b == 0x7b)) (not (b == 0x7d)) e).0 (and_parts (not (b == 0x7b)) (not (b == 0x7d)) e).1
  where
    by : (x y : Bool) → not x ≡ true → not y ≡ true → (if x then Brace ∷ bs else (if y then closed bs else bs)) ≡ bs
    by false false p q = refl
    by true y p q = absurd (false≢true p)
    by false true p q = absurd (false≢true q)

brackets_after_plain : (t : TokenKind) (bs : List Bracket) → is_plain t ≡ true → brackets_after (Spelled t) bs ≡ bs
brackets_after_plain (kinds.Word _) bs e = refl
brackets_after_plain (kinds.Number _) bs e = refl
brackets_after_plain (kinds.Str _) bs e = refl
brackets_after_plain (kinds.Whole _) bs e = refl
brackets_after_plain (kinds.Head _) bs e = absurd (false≢true e)
brackets_after_plain (kinds.Middle _) bs e = absurd (false≢true e)
brackets_after_plain (kinds.Tail _) bs e = absurd (false≢true e)
brackets_after_plain (kinds.Punct s) bs e = after_punctuator_plain s bs e

pub balanced_token : (t : TokenKind) → is_plain t ≡ true → Spells t → Balanced (t ∷ [])
balanced_token t p s bs more a =
    (movable_anywhere t (movable_if_plain t p) s (in_hole bs), subst (λ (os : List Bracket). AreSpellableAfter os more) (sym (brackets_after_plain t bs p)) a)

pub balanced_braces : (xs ys : List TokenKind) → Balanced xs → Balanced ys → Balanced (punct "{" ∷ (xs ++ (punct "}" ∷ ys)))
unfolding lexeme_of lexeme_as is_punctuator
balanced_braces xs ys p q bs more a = (
  fixed_anywhere (punct "{") (codes "{") refl refl (in_hole bs),
  subst (AreSpellableAfter (Brace ∷ bs)) (sym (append_assoc xs (punct "}" ∷ ys) more))
      (p (Brace ∷ bs) (punct "}" ∷ (ys ++ more)) (record { text = codes "}"; is = refl }, q bs more a)),
)

pub open_paren : Spells (punct "(")
unfolding lexeme_of lexeme_as is_punctuator
open_paren = (false, record { text = codes "("; is = refl })

pub close_paren : Spells (punct ")")
unfolding lexeme_of lexeme_as is_punctuator
close_paren = (false, record { text = codes ")"; is = refl })

pub semicolon : Spells (punct ";")
unfolding lexeme_of lexeme_as is_punctuator
semicolon = (false, record { text = codes ";"; is = refl })

-- the parts of a template
pub closes_tail : (text : List ℕ) → Spells (kinds.Tail text) → Closes (kinds.Tail text ∷ [])
closes_tail text s bs more a = (later_in_hole (kinds.Tail text) refl s, a)

pub closes_middle : (text : List ℕ) (xs : List TokenKind) → Spells (kinds.Middle text) → Closes xs → Closes (kinds.Middle text ∷ xs)
closes_middle text xs s p bs more a = (later_in_hole (kinds.Middle text) refl s, p bs more a)

pub closes_after : (xs ys : List TokenKind) → Balanced xs → Closes ys → Closes (xs ++ ys)
closes_after xs ys p q bs more a =
    subst (AreSpellableAfter (Hole ∷ bs)) (sym (append_assoc xs ys more)) (p (Hole ∷ bs) (ys ++ more) (q bs more a))

pub balanced_head : (text : List ℕ) (xs : List TokenKind) → Spells (kinds.Head text) → Closes xs → Balanced (kinds.Head text ∷ xs)
balanced_head text xs s p bs more a = (movable_anywhere (kinds.Head text) refl s (in_hole bs), p bs more a)

pub spellable : (xs : List TokenKind) → Balanced xs → AreSpellable xs
spellable xs p = subst AreSpellable (append_nil xs) (p [] [] tt)

-- What has a spelling can be written: kind by kind, by what its first byte begins.
use Rattle.std.proofs.Common.{◌≡◌, ℕ, ◌≤◌, Bool, true, false, cond, ◌&&◌, ◌||◌, eqb, leb, List, [], ◌∷◌, Option, Some, None, pos, subst, arith, refl}
use Rattle.std.specs.List.{list_all}
use Rattle.std.specs.Char.{is_ascii_digit}
use Rattle.std.proofs.lemmas.Bool.{leb-true, and_from, and_right, not_from_false, and_parts}
use Rattle.dscript_lex.specs.declared.limits.TheConstants.{MAX_NUMBER}
use Rattle.dscript_lex.specs.declared.token.TokenKind.{TokenKind}
use Rattle.dscript_lex.specs.declared.token.TokenKind.TheVariants.{Word, Number, Str, Punct}
use Rattle.dscript_lex.specs.declared.lexeme.LexemeKind.TheVariants.{Comment, Spelled}
use Rattle.dscript_lex.specs.declared.opening.Opening.{Opening}
use Rattle.dscript_lex.specs.declared.opening.Opening.TheVariants as openings
use Rattle.dscript_lex.specs.Bytes.{is_blank, is_word_start, is_word_byte}
use Rattle.dscript_lex.specs.Punctuators.{is_punctuator}
use Rattle.dscript_lex.specs.Lexemes.{opening_of, Enclosed, enclosed, number_of, numeral_of, at_most_max, is_comment, string_lexeme, part_lexeme, part_kind, number_lexeme, lexeme_as, lexeme_of}
use Rattle.dscript_print_tokens.specs.Spellable.{HasSpelling}
use Rattle.dscript_print_tokens.specs.Writable.{is_closing_brace, IsWritable}

-- what the first byte is, where it begins that
abbrev by_tests : Bool → Bool → Bool → Bool → Bool → Bool → Opening
by_tests t u v w x y =
    cond t openings.Blank (cond u openings.Word (cond v openings.Number (cond w openings.Quote (cond x openings.Template (cond y openings.Part openings.Other)))))

tests_word : (t u v w x y : Bool) → by_tests t u v w x y ≡ openings.Word → u ≡ true
tests_word true u v w x y e = cc
tests_word false true v w x y e = refl
tests_word false false true w x y e = cc
tests_word false false false true x y e = cc
tests_word false false false false true y e = cc
tests_word false false false false false true e = cc
tests_word false false false false false false e = cc

tests_sign : (t u v w x y : Bool) → by_tests t u v w x y ≡ openings.Other → y ≡ false
tests_sign true u v w x y e = cc
tests_sign false true v w x y e = cc
tests_sign false false true w x y e = cc
tests_sign false false false true x y e = cc
tests_sign false false false false true y e = cc
tests_sign false false false false false true e = cc
tests_sign false false false false false false e = refl

tests_part : (t u v w x y : Bool) → by_tests t u v w x y ≡ openings.Part → y ≡ true
tests_part true u v w x y e = cc
tests_part false true v w x y e = cc
tests_part false false true w x y e = cc
tests_part false false false true x y e = cc
tests_part false false false false true y e = cc
tests_part false false false false false true e = refl
tests_part false false false false false false e = cc

opens_word : (hole : Bool) (b : ℕ) → opening_of hole b ≡ openings.Word → is_word_start b ≡ true
opens_word hole b e = tests_word (is_blank b) (is_word_start b) (is_ascii_digit b) (eqb b 0x22 || eqb b 0x27) (eqb b 0x60) (hole && eqb b 0x7d) e

opens_other : (hole : Bool) (b : ℕ) → opening_of hole b ≡ openings.Other → (hole && eqb b 0x7d) ≡ false
opens_other hole b e = tests_sign (is_blank b) (is_word_start b) (is_ascii_digit b) (eqb b 0x22 || eqb b 0x27) (eqb b 0x60) (hole && eqb b 0x7d) e

opens_part : (hole : Bool) (b : ℕ) → opening_of hole b ≡ openings.Part → hole ≡ true
opens_part hole b e = (and_parts hole (eqb b 0x7d) (tests_part (is_blank b) (is_word_start b) (is_ascii_digit b) (eqb b 0x22 || eqb b 0x27) (eqb b 0x60) (hole && eqb b 0x7d) e)).0

-- the token that the bytes are can be written, and so the one that they are said to be
as_said : (hole : Bool) (is said : TokenKind) → IsWritable hole is → Some (Spelled is) ≡ Some (Spelled said) → IsWritable hole said
as_said hole is said fits e = let same : is ≡ said = cc in subst (IsWritable hole) same fits

pub the_some : {A : Type 0} (t : Bool) (x y : A) → cond t (Some x) None ≡ Some y → Some x ≡ Some y
the_some true x y e = e
the_some false x y e = cc

all_true : {A : Type 0} (t : Bool) (x y : A) → cond t (Some x) None ≡ Some y → t ≡ true
all_true true x y e = refl
all_true false x y e = cc

no_closing : (hole : Bool) (b : ℕ) (bs : List ℕ) → (hole && eqb b 0x7d) ≡ false → (hole && is_closing_brace (b ∷ bs)) ≡ false
no_closing hole b [] none = none
no_closing hole b (c ∷ bs) none = and_right hole false refl

punctuator_fits : (hole : Bool) (b : ℕ) (bs : List ℕ) (kind : TokenKind) (t : Bool) → opening_of hole b ≡ openings.Other → cond t (Some Comment) (cond (is_punctuator (b ∷ bs)) (Some (Spelled (Punct (b ∷ bs)))) None) ≡ Some (Spelled kind) → IsWritable hole kind
punctuator_fits hole b bs kind true opens is = absurd (no_token kind is)
  where
    no_token : (k : TokenKind) → Some Comment ≡ Some (Spelled k) → ⊥
    no_token k e = cc
punctuator_fits hole b bs kind false opens is =
    let alone = not_from_false (hole && is_closing_brace (b ∷ bs)) (no_closing hole b bs (opens_other hole b opens)) in
    as_said hole (Punct (b ∷ bs)) kind (and_from (is_punctuator (b ∷ bs)) _ (all_true (is_punctuator (b ∷ bs)) _ _ is) alone) (the_some (is_punctuator (b ∷ bs)) _ _ is)

small : (x : Option ℕ) (n : ℕ) → at_most_max x ≡ Some n → n ≤ MAX_NUMBER
small None n is = cc
small (Some m) n is = by_m (leb m MAX_NUMBER) refl is
  where
    by_m : (t : Bool) → leb m MAX_NUMBER ≡ t → cond t (Some m) None ≡ Some n → n ≤ MAX_NUMBER
    by_m true le e = let same : m ≡ n = cc in omega (arith, leb-true m MAX_NUMBER le)
    by_m false le e = cc

number_fits : (hole : Bool) (b : ℕ) (bs : List ℕ) (kind : TokenKind) (x : Option ℕ) → number_of (b ∷ bs) ≡ x → number_lexeme x ≡ Some (Spelled kind) → IsWritable hole kind
number_fits hole b bs kind None e is = cc
number_fits hole b bs kind (Some n) e is = as_said hole (Number (pos n)) kind (small (numeral_of (b ∷ bs)) n e) is

string_fits : (hole : Bool) (kind : TokenKind) (x : Option Enclosed) → string_lexeme x ≡ Some (Spelled kind) → IsWritable hole kind
string_fits hole kind None is = cc
string_fits hole kind (Some e) is = as_said hole (Str e.value) kind tt is

first_fits : (hole at_hole : Bool) (value : List ℕ) → IsWritable hole (part_kind true at_hole value)
first_fits hole true value = tt
first_fits hole false value = tt

later_fits : (hole at_hole : Bool) (value : List ℕ) → hole ≡ true → IsWritable hole (part_kind false at_hole value)
later_fits hole true value in_hole = in_hole
later_fits hole false value in_hole = in_hole

part_fits : (hole first : Bool) (kind : TokenKind) (x : Option Enclosed) → ((at_hole : Bool) (value : List ℕ) → IsWritable hole (part_kind first at_hole value)) → part_lexeme first x ≡ Some (Spelled kind) → IsWritable hole kind
part_fits hole first kind None fits is = cc
part_fits hole first kind (Some e) fits is = as_said hole (part_kind first e.hole e.value) kind (fits e.hole e.value) is

fits_as : (hole : Bool) (b : ℕ) (bs : List ℕ) (kind : TokenKind) (o : Opening) → opening_of hole b ≡ o → lexeme_as o b bs ≡ Some (Spelled kind) → IsWritable hole kind
unfolding lexeme_as
fits_as hole b [] kind openings.Blank opens is = cc
fits_as hole b (c ∷ bs) kind openings.Blank opens is = cc
fits_as hole b bs kind openings.Word opens is = as_said hole (Word (b ∷ bs)) kind (and_from (is_word_start b) (list_all is_word_byte bs) (opens_word hole b opens) (all_true (list_all is_word_byte bs) _ _ is)) (the_some (list_all is_word_byte bs) _ _ is)
fits_as hole b bs kind openings.Number opens is = number_fits hole b bs kind (number_of (b ∷ bs)) refl is
fits_as hole b bs kind openings.Quote opens is = string_fits hole kind (enclosed b bs) is
fits_as hole b bs kind openings.Template opens is = part_fits hole true kind (enclosed 0x60 bs) (first_fits hole) is
fits_as hole b bs kind openings.Part opens is = part_fits hole false kind (enclosed 0x60 bs) (λ at_hole value. later_fits hole at_hole value (opens_part hole b opens)) is
fits_as hole b bs kind openings.Other opens is = punctuator_fits hole b bs kind (is_comment (b ∷ bs)) opens is

fits_text : (hole : Bool) (text : List ℕ) (kind : TokenKind) → lexeme_of hole text ≡ Some (Spelled kind) → IsWritable hole kind
unfolding lexeme_of
fits_text hole [] kind is = cc
fits_text hole (b ∷ bs) kind is = fits_as hole b bs kind (opening_of hole b) refl is

-- what has a spelling can be written
pub writable : (hole : Bool) (kind : TokenKind) → HasSpelling hole kind → IsWritable hole kind
writable hole kind has = fits_text hole has.text kind has.is

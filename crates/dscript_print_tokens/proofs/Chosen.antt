-- What is written of a token that can be written is a spelling of it.
use Rattle.std.proofs.Common.{◌≡◌, ℕ, Bool, true, false, not, ◌&&◌, ◌||◌, eqb, List, [], ◌∷◌, ◌++◌, Some, None, pos, negsuc, refl, ap, ◌∙◌, arith}
use Rattle.std.specs.List.{list_all}
use Rattle.std.specs.Char.{is_ascii_digit}
use Rattle.std.proofs.lemmas.Bool.{cond-true, cond-false, and_parts, and_left, and_right, or_parts, not-true, both_ways, false_from_ne_true}
use Rattle.std.proofs.lemmas.Bool.Decides.{nat_tests}
use Rattle.dscript_lex.specs.declared.token.TokenKind.{TokenKind}
use Rattle.dscript_lex.specs.declared.token.TokenKind.TheVariants.{Word, Number, Str, Whole, Head, Middle, Tail, Punct}
use Rattle.dscript_lex.specs.declared.lexeme.LexemeKind.TheVariants.{Comment, Spelled}
use Rattle.dscript_lex.specs.declared.opening.Opening.TheVariants as openings
use Rattle.dscript_lex.specs.Bytes.{is_blank, is_word_start, is_word_byte}
use Rattle.dscript_lex.specs.Punctuators.{is_punctuator}
use Rattle.dscript_lex.specs.Lexemes.{opening_of, enclosed, is_comment, string_lexeme, part_lexeme, part_kind, lexeme_as, lexeme_of}
use Rattle.dscript_lex.proofs.PunctuatorExact.{one_slash, empty_is_no_punctuator}
use Rattle.dscript_print_tokens.specs.Spellable.{HasSpelling}
use Rattle.dscript_print_tokens.specs.Writable.{is_word, is_closing_brace, IsWritable}
use Rattle.dscript_print_tokens.specs.Spellings.{in_part, spelling}
use Rattle.dscript_print_tokens.proofs.Between.{string_enclosed, part_enclosed}
use Rattle.dscript_print_tokens.proofs.Decimals.{number_is}
use Rattle.dscript_print_tokens.proofs.Apart.{punctuator_begins, brace_alone}

no_blank : (b : ℕ) → is_word_start b ≡ true → is_blank b ≡ false
no_blank b start = grind (arith, nat_tests)

word_is : (hole : Bool) (word : List ℕ) → is_word word ≡ true → lexeme_of hole word ≡ Some (Spelled (Word word))
unfolding lexeme_of lexeme_as
word_is hole [] is = cc
word_is hole (b ∷ bs) is =
    let parts = and_parts (is_word_start b) (list_all is_word_byte bs) is in
    let opens : opening_of hole b ≡ openings.Word = cond-false (is_blank b) _ _ (no_blank b parts.0) ∙ cond-true (is_word_start b) _ _ parts.0 in
    ap (λ o. lexeme_as o b bs) opens ∙ cond-true (list_all is_word_byte bs) _ None parts.1

no_comment : (b : ℕ) (bs : List ℕ) → is_punctuator (b ∷ bs) ≡ true → is_comment (b ∷ bs) ≡ false
no_comment b [] punctuator = refl
no_comment b (c ∷ bs) punctuator = and_left (eqb b 0x2f) _ (false_from_ne_true (eqb b 0x2f) (λ slash. let none : c ∷ bs ≡ [] = one_slash b (c ∷ bs) slash punctuator in cc))

no_part : (hole : Bool) (b : ℕ) (bs : List ℕ) → is_punctuator (b ∷ bs) ≡ true → (hole && is_closing_brace (b ∷ bs)) ≡ false → (hole && eqb b 0x7d) ≡ false
no_part hole b [] punctuator none = none
no_part hole b (c ∷ bs) punctuator none = and_right hole (eqb b 0x7d) (brace_alone b c bs punctuator)

opens_other : (hole : Bool) (b : ℕ) (bs : List ℕ) → is_punctuator (b ∷ bs) ≡ true → (hole && is_closing_brace (b ∷ bs)) ≡ false → opening_of hole b ≡ openings.Other
opens_other hole b bs punctuator none =
    let begins = or_parts (is_blank b || is_word_byte b || (eqb b 0x22 || eqb b 0x27)) (eqb b 0x60) (not-true _ (punctuator_begins b bs punctuator)) in
    let quotes = or_parts (is_blank b || is_word_byte b) (eqb b 0x22 || eqb b 0x27) begins.0 in
    let words = or_parts (is_blank b) (is_word_byte b) quotes.0 in
    let starts = or_parts (is_word_start b) (is_ascii_digit b) words.1 in
    cond-false (is_blank b) _ _ words.0
    ∙ cond-false (is_word_start b) _ _ starts.0
    ∙ cond-false (is_ascii_digit b) _ _ starts.1
    ∙ cond-false (eqb b 0x22 || eqb b 0x27) _ _ quotes.1
    ∙ cond-false (eqb b 0x60) _ _ begins.1
    ∙ cond-false (hole && eqb b 0x7d) _ _ (no_part hole b bs punctuator none)

pub is_a_punctuator : (hole : Bool) (punctuator : List ℕ) → (is_punctuator punctuator && not (hole && is_closing_brace punctuator)) ≡ true → is_punctuator punctuator ≡ true
is_a_punctuator hole punctuator is = (and_parts (is_punctuator punctuator) _ is).0

punctuator_is : (hole : Bool) (punctuator : List ℕ) → (is_punctuator punctuator && not (hole && is_closing_brace punctuator)) ≡ true → lexeme_of hole punctuator ≡ Some (Spelled (Punct punctuator))
unfolding lexeme_of lexeme_as
punctuator_is hole [] is = absurd (both_ways (is_punctuator []) empty_is_no_punctuator (is_a_punctuator hole [] is))
punctuator_is hole (b ∷ bs) is =
    let parts = and_parts (is_punctuator (b ∷ bs)) _ is in
    ap (λ o. lexeme_as o b bs) (opens_other hole b bs parts.0 (not-true _ parts.1))
    ∙ cond-false (is_comment (b ∷ bs)) (Some Comment) _ (no_comment b bs parts.0)
    ∙ cond-true (is_punctuator (b ∷ bs)) _ None parts.0

later_part : (hole : Bool) (value end : List ℕ) (at_hole : Bool) → hole ≡ true → enclosed 0x60 (in_part value ++ end) ≡ Some (record { value = value; hole = at_hole }) → lexeme_of hole (0x7d ∷ (in_part value ++ end)) ≡ Some (Spelled (part_kind false at_hole value))
unfolding lexeme_of lexeme_as
later_part hole value end at_hole in_hole is = ap (λ h. lexeme_of h (0x7d ∷ (in_part value ++ end))) in_hole ∙ ap (part_lexeme false) is

pub spelling_is : (hole : Bool) (kind : TokenKind) → IsWritable hole kind → lexeme_of hole (spelling kind) ≡ Some (Spelled kind)
unfolding lexeme_of lexeme_as spelling
spelling_is hole (Word word) is = word_is hole word is
spelling_is hole (Number (pos n)) is = number_is hole n is
spelling_is hole (Number (negsuc n)) is = absurd is
spelling_is hole (Str value) is = ap string_lexeme (string_enclosed value)
spelling_is hole (Whole value) is = ap (part_lexeme true) (part_enclosed value (0x60 ∷ []) false refl (unfold enclosed in refl))
spelling_is hole (Head value) is = ap (part_lexeme true) (part_enclosed value (0x24 ∷ 0x7b ∷ []) true refl (unfold enclosed in refl))
spelling_is hole (Middle value) is = later_part hole value (0x24 ∷ 0x7b ∷ []) true is (part_enclosed value (0x24 ∷ 0x7b ∷ []) true refl (unfold enclosed in refl))
spelling_is hole (Tail value) is = later_part hole value (0x60 ∷ []) false is (part_enclosed value (0x60 ∷ []) false refl (unfold enclosed in refl))
spelling_is hole (Punct punctuator) is = punctuator_is hole punctuator is

pub has_spelling : (hole : Bool) (kind : TokenKind) → IsWritable hole kind → HasSpelling hole kind
has_spelling hole kind is = record { text = spelling kind; is = spelling_is hole kind is }

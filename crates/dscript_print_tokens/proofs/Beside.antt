-- No byte joins the token before it, where the two do not run together.
use Rattle.std.proofs.Common.{◌≡◌, ℕ, Bool, true, false, List, [], ◌∷◌, ◌++◌, pos, negsuc, refl}
use Rattle.std.specs.List.{list_all}
use Rattle.std.specs.Char.{is_ascii_digit}
use Rattle.std.specs.Fmt.{decimal}
use Rattle.std.proofs.lemmas.Bool.{or_left, or_parts, and_parts, not-true, both_ways}
use Rattle.dscript_lex.specs.declared.token.TokenKind.{TokenKind}
use Rattle.dscript_lex.specs.declared.token.TokenKind.TheVariants.{Word, Number, Str, Whole, Head, Middle, Tail, Punct}
use Rattle.dscript_lex.specs.Bytes.{is_word_start, is_word_byte, begins_with}
use Rattle.dscript_lex.specs.Punctuators.{is_punctuator}
use Rattle.dscript_lex.proofs.PunctuatorExact.{empty_is_no_punctuator}
use Rattle.dscript_print_tokens.specs.declared.laid.Gap.{Gap}
use Rattle.dscript_print_tokens.specs.declared.laid.Gap.TheVariants as gaps
use Rattle.dscript_print_tokens.specs.declared.side.Side.{Side}
use Rattle.dscript_print_tokens.specs.declared.side.Side.TheVariants as sides
use Rattle.dscript_print_tokens.specs.Sides.{side_of, punctuator_side, run_together, joins}
use Rattle.dscript_print_tokens.specs.Writable.{is_word, IsWritable}
use Rattle.dscript_print_tokens.specs.Spellings.{spelling}
use Rattle.dscript_print_tokens.specs.Layout.{blanks}
use Rattle.dscript_print_tokens.proofs.Apart.{keeps_apart, apart_is_no_more, punctuator_begins}
use Rattle.dscript_print_tokens.proofs.Decimals.{number_begins}
use Rattle.dscript_print_tokens.proofs.Chosen.{is_a_punctuator}

-- nothing of these bytes joins such a token
abbrev pub IsApart : Side → List ℕ → Type 0
IsApart before text = begins_with (joins before) text ≡ false

nothing_joins : (text : List ℕ) → IsApart sides.Other text
nothing_joins [] = refl
nothing_joins (b ∷ bs) = refl

-- a blank, a quote, a backquote and a `}` join nothing
byte_apart : (before : Side) (b : ℕ) → is_word_byte b ≡ false → keeps_apart b ≡ true → joins before b ≡ false
byte_apart sides.Word b no_word apart = no_word
byte_apart (sides.Punctuator first) b no_word apart = apart_is_no_more first b apart
byte_apart sides.Other b no_word apart = refl

word_apart : (first : ℕ) (text rest : List ℕ) → begins_with is_word_byte text ≡ true → IsApart (sides.Punctuator first) (text ++ rest)
word_apart first [] rest begins = cc
word_apart first (b ∷ bs) rest begins = apart_is_no_more first b (or_left _ _ (or_left _ _ (or_left _ _ (or_left _ _ begins))))

word_beside : (before : Side) (text rest : List ℕ) → run_together before sides.Word ≡ false → begins_with is_word_byte text ≡ true → IsApart before (text ++ rest)
word_beside sides.Word text rest not_together begins = cc
word_beside (sides.Punctuator first) text rest not_together begins = word_apart first text rest begins
word_beside sides.Other text rest not_together begins = nothing_joins (text ++ rest)

no_word_byte : (b : ℕ) (bs : List ℕ) → is_punctuator (b ∷ bs) ≡ true → is_word_byte b ≡ false
no_word_byte b bs punctuator = (or_parts _ _ (or_parts _ _ (or_parts _ _ (not-true _ (punctuator_begins b bs punctuator))).0).0).1

punctuator_beside : (before : Side) (punctuator rest : List ℕ) → run_together before (punctuator_side punctuator) ≡ false → is_punctuator punctuator ≡ true → IsApart before (punctuator ++ rest)
punctuator_beside before [] rest not_together punctuator = absurd (both_ways (is_punctuator []) empty_is_no_punctuator punctuator)
punctuator_beside sides.Word (b ∷ bs) rest not_together punctuator = no_word_byte b bs punctuator
punctuator_beside (sides.Punctuator first) (b ∷ bs) rest not_together punctuator = not_together
punctuator_beside sides.Other (b ∷ bs) rest not_together punctuator = refl

word_begins : (word : List ℕ) → is_word word ≡ true → begins_with is_word_byte word ≡ true
word_begins [] is = cc
word_begins (b ∷ bs) is = or_left (is_word_start b) (is_ascii_digit b) (and_parts (is_word_start b) (list_all is_word_byte bs) is).0

pub beside : (hole : Bool) (kind : TokenKind) → IsWritable hole kind → (before : Side) → run_together before (side_of kind) ≡ false → (rest : List ℕ) → IsApart before (spelling kind ++ rest)
unfolding spelling
beside hole (Word word) is before not_together rest = word_beside before word rest not_together (word_begins word is)
beside hole (Number (pos n)) is before not_together rest = word_beside before (decimal n) rest not_together (number_begins n is)
beside hole (Number (negsuc n)) is before not_together rest = absurd is
beside hole (Str value) is before not_together rest = byte_apart before 0x22 refl refl
beside hole (Whole value) is before not_together rest = byte_apart before 0x60 refl refl
beside hole (Head value) is before not_together rest = byte_apart before 0x60 refl refl
beside hole (Middle value) is before not_together rest = byte_apart before 0x7d refl refl
beside hole (Tail value) is before not_together rest = byte_apart before 0x7d refl refl
beside hole (Punct punctuator) is before not_together rest = punctuator_beside before punctuator rest not_together (is_a_punctuator hole punctuator is)

-- the gap keeps them apart where they would run together
gap_beside : (gap : Gap) (before : Side) (together : Bool) (text : List ℕ) → (together ≡ false → IsApart before text) → IsApart before (blanks gap together ++ text)
gap_beside gaps.None before true text apart = byte_apart before 0x20 refl refl
gap_beside gaps.None before false text apart = apart refl
gap_beside gaps.Space before together text apart = byte_apart before 0x20 refl refl
gap_beside (gaps.Line levels) before together text apart = byte_apart before 0x0a refl refl

pub laid_beside : (hole : Bool) (kind : TokenKind) → IsWritable hole kind → (gap : Gap) (before : Side) (rest : List ℕ) → IsApart before (blanks gap (run_together before (side_of kind)) ++ (spelling kind ++ rest))
laid_beside hole kind is gap before rest =
    gap_beside gap before (run_together before (side_of kind)) (spelling kind ++ rest) (λ not_together. beside hole kind is before not_together rest)

pub end_beside : (before : Side) → IsApart before (0x0a ∷ [])
end_beside before = byte_apart before 0x0a refl refl

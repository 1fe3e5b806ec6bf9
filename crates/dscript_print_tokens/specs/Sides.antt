-- Which tokens would run together, the one directly after the other.
use Rattle.std.specs.Prelude.{ℕ, Bool, true, false, ◌&&◌, ◌||◌, ◌==◌, List, [], ◌∷◌}
use Rattle.dscript_lex.specs.declared.token.TokenKind.{TokenKind}
use Rattle.dscript_lex.specs.declared.token.TokenKind.TheVariants as kinds
use Rattle.dscript_lex.specs.Bytes.{is_word_byte}
use Rattle.dscript_lex.specs.Punctuators.{is_punctuator}
use Rattle.dscript_print_tokens.specs.declared.side.Side.{Side}
use Rattle.dscript_print_tokens.specs.declared.side.Side.TheVariants as sides

-- Whether a punctuator that begins with the one byte could be lexed as a longer one before the other, or
-- as a comment: the two are a punctuator, or begin `...`, `//` or `/*`.
unfoldable pub goes_on : ℕ → ℕ → Bool
goes_on first next =
    is_punctuator (first ∷ next ∷ []) || (first == 0x2e && next == 0x2e)
    || (first == 0x2f && (next == 0x2f || next == 0x2a))

-- what a token is to its neighbours
abbrev pub punctuator_side : List ℕ → Side
punctuator_side [] = sides.Other
punctuator_side (b ∷ bs) = sides.Punctuator b

abbrev pub side_of : TokenKind → Side
side_of (kinds.Word word) = sides.Word
side_of (kinds.Number n) = sides.Word
side_of (kinds.Punct punctuator) = punctuator_side punctuator
side_of _ = sides.Other

-- two words or numbers run together, and two punctuators of which the first could go on with the second
abbrev pub run_together : Side → Side → Bool
run_together sides.Word sides.Word = true
run_together (sides.Punctuator first) (sides.Punctuator next) = goes_on first next
run_together _ _ = false

-- whether this byte must not come directly after such a token
abbrev pub joins : Side → ℕ → Bool
joins sides.Word b = is_word_byte b
joins (sides.Punctuator first) b = goes_on first b
joins sides.Other b = false

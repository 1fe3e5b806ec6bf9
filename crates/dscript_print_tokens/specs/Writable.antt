-- Which tokens have a spelling, kind by kind.
use Rattle.std.specs.Prelude.{ℕ, ◌≤◌, Bool, false, not, ◌&&◌, ◌==◌, List, [], ◌∷◌, IsTrue, pos, negsuc}
use Rattle.std.specs.List.{list_all}
use Rattle.dscript_lex.specs.declared.limits.TheConstants.{MAX_NUMBER}
use Rattle.dscript_lex.specs.declared.token.TokenKind.{TokenKind}
use Rattle.dscript_lex.specs.declared.token.TokenKind.TheVariants.{Word, Number, Middle, Tail, Punct}
use Rattle.dscript_lex.specs.Bytes.{is_word_start, is_word_byte}
use Rattle.dscript_lex.specs.Punctuators.{is_punctuator}

-- a byte that a word begins with, and bytes that it goes on with
abbrev pub is_word : List ℕ → Bool
is_word [] = false
is_word (b ∷ bs) = is_word_start b && list_all is_word_byte bs

abbrev pub is_closing_brace : List ℕ → Bool
is_closing_brace (b ∷ []) = b == 0x7d
is_closing_brace _ = false

-- A word and a punctuator have their own bytes, which have to be those of a word or of a punctuator, and
-- a `}` in a hole is no punctuator, since it closes the hole. A number is not negative, and not above the
-- largest. A further part of a template comes after a hole. Strings and templates have any bytes as values.
abbrev pub IsWritable : Bool → TokenKind → Type 0
IsWritable is_in_hole (Word word) = IsTrue (is_word word)
IsWritable is_in_hole (Number (pos n)) = n ≤ MAX_NUMBER
IsWritable is_in_hole (Number (negsuc n)) = ⊥
IsWritable is_in_hole (Middle value) = IsTrue is_in_hole
IsWritable is_in_hole (Tail value) = IsTrue is_in_hole
IsWritable is_in_hole (Punct punctuator) =
    IsTrue (is_punctuator punctuator && not (is_in_hole && is_closing_brace punctuator))
IsWritable is_in_hole _ = Unit {0}

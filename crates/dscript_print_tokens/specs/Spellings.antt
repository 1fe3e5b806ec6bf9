-- The spelling that a token is given.
use Rattle.std.specs.Prelude.{ℕ, Bool, ◌&&◌, ◌||◌, ◌==◌, List, [], ◌∷◌, ◌++◌, if◌then◌else◌}
use Rattle.std.specs.List.{flat_map}
use Rattle.std.specs.Fmt.{signed_decimal}
use Rattle.dscript_lex.specs.declared.token.TokenKind.{TokenKind}
use Rattle.dscript_lex.specs.declared.token.TokenKind.TheVariants.{Word, Number, Str, Whole, Head, Middle}
use Rattle.dscript_lex.specs.declared.token.TokenKind.TheVariants.{Tail, Punct}
use Rattle.dscript_lex.specs.Bytes.{begins_with}

-- a byte after a backslash
abbrev pub escaped : ℕ → List ℕ
escaped b = 0x5c ∷ b ∷ []

-- In a string in `"` a newline is `\n`, a quote and a backslash get a backslash before them, and
-- every other byte spells itself.
abbrev pub string_byte : ℕ → List ℕ
string_byte b = if b == 0x0a then escaped 0x6e else (if b == 0x22 || b == 0x5c then escaped b else b ∷ [])

abbrev pub in_string : List ℕ → List ℕ
in_string value = flat_map string_byte value

-- In a template a backslash, a backquote and a `$` before a `{` get a backslash before them, and every
-- other byte spells itself.
abbrev pub ends_a_part : ℕ → List ℕ → Bool
ends_a_part b rest = b == 0x5c || b == 0x60 || (b == 0x24 && begins_with (λ c. c == 0x7b) rest)

abbrev pub part_byte : ℕ → List ℕ → List ℕ
part_byte b rest = if ends_a_part b rest then escaped b else b ∷ []

abbrev pub in_part : List ℕ → List ℕ
in_part [] = []
in_part (b ∷ bs) = part_byte b bs ++ in_part bs

unfoldable pub spelling : TokenKind → List ℕ
spelling (Word word) = word
spelling (Number n) = signed_decimal n
spelling (Str value) = 0x22 ∷ (in_string value ++ 0x22 ∷ [])
spelling (Whole value) = 0x60 ∷ (in_part value ++ 0x60 ∷ [])
spelling (Head value) = 0x60 ∷ (in_part value ++ 0x24 ∷ 0x7b ∷ [])
spelling (Middle value) = 0x7d ∷ (in_part value ++ 0x24 ∷ 0x7b ∷ [])
spelling (Tail value) = 0x7d ∷ (in_part value ++ 0x60 ∷ [])
spelling (Punct punctuator) = punctuator

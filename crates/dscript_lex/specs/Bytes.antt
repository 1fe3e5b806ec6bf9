-- Which bytes are of which kind.
use Rattle.std.specs.Prelude.{ℕ, ◌-◌, Bool, false, not, ◌&&◌, ◌||◌, ◌==◌, nat_le, List, [], ◌∷◌, Option, Some}
use Rattle.std.specs.Prelude.{None, if◌then◌else◌}
use Rattle.std.specs.Char.{is_ascii_digit, is_ascii_alphabetic}

-- tab, newline, carriage return or space
abbrev pub is_blank : ℕ → Bool
is_blank b = b == 9 || b == 10 || b == 13 || b == 32

-- what a word begins with: a letter, `_` or `$`
abbrev pub is_word_start : ℕ → Bool
is_word_start b = is_ascii_alphabetic b || b == 0x5f || b == 0x24

-- what a word goes on with
abbrev pub is_word_byte : ℕ → Bool
is_word_byte b = is_word_start b || is_ascii_digit b

-- what a digit counts, decimal or hexadecimal
abbrev pub digit_value : ℕ → ℕ
digit_value b = if nat_le b 0x39 then b - 0x30 else (if nat_le b 0x46 then b - 0x37 else b - 0x57)

-- whether the text begins with such a byte
abbrev pub begins_with : (ℕ → Bool) → List ℕ → Bool
begins_with test [] = false
begins_with test (b ∷ bs) = test b

-- a printable byte of ASCII that is no digit, `x` or `u`: after a backslash it spells itself, unless it
-- is a letter that names a control byte
abbrev pub is_escaped_as_itself : ℕ → Bool
is_escaped_as_itself b =
    nat_le 0x20 b && nat_le b 0x7e && not (is_ascii_digit b) && not (b == 0x78) && not (b == 0x75)

-- The byte that a backslash and this byte spell: `\n \r \t \b \f \v` spell control bytes, `\0` spells
-- the byte 0 where no digit follows, and the others spell themselves.
abbrev pub escape_of : ℕ → List ℕ → Option ℕ
escape_of b rest =
    if b == 0x6e then Some 10
    else (if b == 0x72 then Some 13
    else (if b == 0x74 then Some 9
    else (if b == 0x62 then Some 8
    else (if b == 0x66 then Some 12
    else (if b == 0x76 then Some 11
    else (if b == 0x30 then (if begins_with is_ascii_digit rest then None else Some 0)
    else (if is_escaped_as_itself b then Some b else None)))))))

-- Lines and columns of the bytes of a text.
use Rattle.std.specs.Prelude.{ℕ, ◌+◌, ◌==◌, Bool, not, List, length, map, get_or, take}
use Rattle.std.specs.List.{count_by, suffix_len}
use Rattle.dscript_lex.specs.declared.token.Token.{Token}
use Rattle.dscript_program.specs.declared.place.Place.{Place}

abbrev pub is_newline : ℕ → Bool
is_newline byte = byte == 10

-- the line after these bytes: one more than the number of newlines among them
abbrev pub line_after : List ℕ → ℕ
line_after bytes = count_by is_newline bytes + 1

-- the column after these bytes: one more than the number of bytes after the last newline among them
abbrev pub column_after : List ℕ → ℕ
column_after bytes = suffix_len (λ byte. not (is_newline byte)) bytes + 1

-- the place of the byte with this number, counted from 0, or of the text's end where there is no such byte
abbrev pub place_of : List ℕ → ℕ → Place
place_of text at = record { line = line_after (take at text); column = column_after (take at text) }

-- where the token with this number starts, counted from 0, or the text's end where there is no such token
abbrev pub start_of : List ℕ → List Token → ℕ → ℕ
start_of text tokens at = get_or (map (λ t. t.start) tokens) at (length text)

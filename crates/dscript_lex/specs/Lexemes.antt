-- What a whole text is, where it is one lexeme: a blank, a comment, or the spelling of one token.
use Rattle.std.specs.Prelude.{ℕ, ◌+◌, ◌*◌, Bool, true, false, not, ◌&&◌, ◌||◌, ◌==◌, nat_le, List, [], ◌∷◌}
use Rattle.std.specs.Prelude.{Option, Some, None, pos, if◌then◌else◌, fold}
use Rattle.std.specs.List.{list_all}
use Rattle.std.specs.Char.{is_ascii_digit, is_ascii_hexdigit}
use Rattle.dscript_lex.specs.declared.limits.TheConstants.{MAX_NUMBER}
use Rattle.dscript_lex.specs.declared.token.TokenKind.{TokenKind}
use Rattle.dscript_lex.specs.declared.token.TokenKind.TheVariants.{Word, Number, Str, Whole, Head, Middle}
use Rattle.dscript_lex.specs.declared.token.TokenKind.TheVariants.{Tail, Punct}
use Rattle.dscript_lex.specs.declared.lexeme.LexemeKind.{LexemeKind}
use Rattle.dscript_lex.specs.declared.lexeme.LexemeKind.TheVariants.{Blank, Comment, Spelled}
use Rattle.dscript_lex.specs.declared.opening.Opening.{Opening}
use Rattle.dscript_lex.specs.declared.opening.Opening.TheVariants as openings
use Rattle.dscript_lex.specs.Bytes.{is_blank, is_word_start, is_word_byte, digit_value, begins_with}
use Rattle.dscript_lex.specs.Bytes.{escape_of}
use Rattle.dscript_lex.specs.Punctuators.{is_punctuator}

-- Which lexeme a byte begins. A `}` begins the next part of a template in a hole, and is a punctuator
-- elsewhere. Bytes that begin nothing are left to the punctuators, whose spellings have none of them.
abbrev pub opening_of : Bool → ℕ → Opening
opening_of in_hole b =
    if is_blank b then openings.Blank
    else (if is_word_start b then openings.Word
    else (if is_ascii_digit b then openings.Number
    else (if b == 0x22 || b == 0x27 then openings.Quote
    else (if b == 0x60 then openings.Template
    else (if in_hole && b == 0x7d then openings.Part
    else openings.Other)))))

-- the value of digits in a base, after digits of value n
abbrev pub value_after : ℕ → ℕ → List ℕ → ℕ
value_after base n ds = fold (λ m d. base * m + digit_value d) n ds

abbrev pub value_in : ℕ → List ℕ → ℕ
value_in base ds = value_after base 0 ds

-- The number that a text spells: `0`, decimal digits that begin with no 0, or `0x` and hexadecimal
-- digits.
abbrev pub hexadecimal_of : List ℕ → Option ℕ
hexadecimal_of [] = None
hexadecimal_of (d ∷ ds) = if list_all is_ascii_hexdigit (d ∷ ds) then Some (value_in 16 (d ∷ ds)) else None

abbrev pub after_zero : List ℕ → Option ℕ
after_zero [] = Some 0
after_zero (b ∷ ds) = if b == 0x78 then hexadecimal_of ds else None

abbrev pub numeral_of : List ℕ → Option ℕ
numeral_of [] = None
numeral_of (d ∷ ds) =
    if d == 0x30 then after_zero ds
    else (if list_all is_ascii_digit (d ∷ ds) then Some (value_in 10 (d ∷ ds)) else None)

-- a number that is not too large
abbrev pub at_most_max : Option ℕ → Option ℕ
at_most_max None = None
at_most_max (Some n) = if nat_le n MAX_NUMBER then Some n else None

abbrev pub number_of : List ℕ → Option ℕ
number_of text = at_most_max (numeral_of text)

-- the value between two delimiters, and whether the second opens a hole
pub record Enclosed : Type 0 where
  pub value : List ℕ
  pub hole : Bool

-- a value with one byte more at its start
abbrev pub with_byte : Option ℕ → Option Enclosed → Option Enclosed
with_byte (Some b) (Some e) = Some (record { value = b ∷ e.value; hole = e.hole })
with_byte _ _ = None

-- The value of the bytes after an opening delimiter, where they reach to the closing one and no
-- further. A string ends at the quote that it began with, and has no newline. A template, or a part
-- of one, ends at a backquote or at the `${` of a hole. A byte after a backslash ends nothing.
unfoldable pub enclosed : ℕ → List ℕ → Option Enclosed
enclosed delimiter [] = None
enclosed delimiter (b ∷ []) = if b == delimiter then Some (record { value = []; hole = false }) else None
enclosed delimiter (b ∷ c ∷ bs) =
    if b == delimiter then None
    else (if b == 0x5c then with_byte (escape_of c bs) (enclosed delimiter bs)
    else (if delimiter == 0x60 && b == 0x24 && c == 0x7b then only_end bs
    else (if not (delimiter == 0x60) && b == 0x0a then None
    else with_byte (Some b) (enclosed delimiter (c ∷ bs)))))
  where
    only_end : List ℕ → Option Enclosed
    only_end [] = Some (record { value = []; hole = true })
    only_end (x ∷ xs) = None

-- whether the first `*/` of the text is at its end
abbrev pub closes_at_end : List ℕ → Bool
closes_at_end [] = false
closes_at_end (a ∷ []) = false
closes_at_end (a ∷ b ∷ bs) = if a == 0x2a && b == 0x2f then is_empty bs else closes_at_end (b ∷ bs)
  where
    is_empty : List ℕ → Bool
    is_empty [] = true
    is_empty (x ∷ xs) = false

-- whether the text is a comment: `//` and no newline, or `/*` up to the first `*/` after it
abbrev pub is_comment : List ℕ → Bool
is_comment [] = false
is_comment (a ∷ []) = false
is_comment (a ∷ b ∷ bs) =
    a == 0x2f && ((b == 0x2f && list_all (λ c. not (c == 0x0a)) bs) || (b == 0x2a && closes_at_end bs))

-- what a string, a template or a part of one, or a number is
abbrev pub string_lexeme : Option Enclosed → Option LexemeKind
string_lexeme None = None
string_lexeme (Some e) = Some (Spelled (Str e.value))

-- a template, or the part of one before or after a hole
abbrev pub part_kind : Bool → Bool → List ℕ → TokenKind
part_kind true false value = Whole value
part_kind true true value = Head value
part_kind false true value = Middle value
part_kind false false value = Tail value

abbrev pub part_lexeme : Bool → Option Enclosed → Option LexemeKind
part_lexeme is_first None = None
part_lexeme is_first (Some e) = Some (Spelled (part_kind is_first e.hole e.value))

abbrev pub number_lexeme : Option ℕ → Option LexemeKind
number_lexeme None = None
number_lexeme (Some n) = Some (Spelled (Number (pos n)))

-- what the text of a byte and more bytes is, by what its first byte begins
unfoldable pub lexeme_as : Opening → ℕ → List ℕ → Option LexemeKind
lexeme_as openings.Blank b [] = Some Blank
lexeme_as openings.Blank b (c ∷ bs) = None
lexeme_as openings.Word b bs = if list_all is_word_byte bs then Some (Spelled (Word (b ∷ bs))) else None
lexeme_as openings.Number b bs = number_lexeme (number_of (b ∷ bs))
lexeme_as openings.Quote b bs = string_lexeme (enclosed b bs)
lexeme_as openings.Template b bs = part_lexeme true (enclosed 0x60 bs)
lexeme_as openings.Part b bs = part_lexeme false (enclosed 0x60 bs)
lexeme_as openings.Other b bs =
    if is_comment (b ∷ bs) then Some Comment
    else (if is_punctuator (b ∷ bs) then Some (Spelled (Punct (b ∷ bs))) else None)

-- What the whole text is as one lexeme, if it is one. What a `}` is depends on whether it closes the
-- hole of a template.
unfoldable pub lexeme_of : Bool → List ℕ → Option LexemeKind
lexeme_of in_hole [] = None
lexeme_of in_hole (b ∷ bs) = lexeme_as (opening_of in_hole b) b bs

-- whether the lexeme may come before the rest of a text: no word byte follows a number
abbrev pub may_precede : LexemeKind → List ℕ → Bool
may_precede (Spelled (Number n)) rest = not (begins_with is_word_byte rest)
may_precede _ rest = true

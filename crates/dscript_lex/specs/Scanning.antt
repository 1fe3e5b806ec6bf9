-- The longest lexeme at the start of a text, as it is scanned from the start.
use Rattle.std.specs.Prelude.{◌≡◌, ℕ, zero, suc, ◌+◌, ◌<◌, ◌≤◌, Bool, true, false, not, ◌&&◌, ◌==◌, List, []}
use Rattle.std.specs.Prelude.{◌∷◌, length, take, drop, Option, Some, None, pos, IfSome, if◌then◌else◌}
use Rattle.std.specs.List.{prefix_len}
use Rattle.dscript_lex.specs.declared.token.TokenKind.TheVariants.{Word, Number, Str, Punct}
use Rattle.dscript_lex.specs.declared.lexeme.LexemeKind.TheVariants.{Blank, Comment, Spelled}
use Rattle.dscript_lex.specs.declared.lexeme.Scanned.{Scanned}
use Rattle.dscript_lex.specs.declared.enclosed.Reach.{Reach}
use Rattle.dscript_lex.specs.declared.enclosed.Step.{Step}
use Rattle.dscript_lex.specs.declared.enclosed.Step.TheVariants.{Byte, End, Bad}
use Rattle.dscript_lex.specs.declared.opening.Opening.{Opening}
use Rattle.dscript_lex.specs.declared.opening.Opening.TheVariants as openings
use Rattle.dscript_lex.specs.Bytes.{is_word_byte, escape_of}
use Rattle.dscript_lex.specs.Punctuators.{is_punctuator}
use Rattle.dscript_lex.specs.Lexemes.{opening_of, number_of, part_kind}

-- a value with one byte more at its start, whose spelling takes n bytes
abbrev pub further : Option ℕ → ℕ → Option Reach → Option Reach
further (Some b) n (Some r) = Some (record { value = b ∷ r.value; hole = r.hole; len = n + r.len })
further _ n _ = None

-- The value after an opening delimiter, whether a hole ends it, and how many bytes it takes with its
-- closing delimiter, whatever comes after that.
unfoldable pub reach : ℕ → List ℕ → Option Reach
reach delimiter [] = None
reach delimiter (b ∷ []) =
    if b == delimiter then Some (record { value = []; hole = false; len = 1 }) else None
reach delimiter (b ∷ c ∷ bs) =
    if b == delimiter then Some (record { value = []; hole = false; len = 1 })
    else (if b == 0x5c then further (escape_of c bs) 2 (reach delimiter bs)
    else (if delimiter == 0x60 && b == 0x24 && c == 0x7b
    then Some (record { value = []; hole = true; len = 2 })
    else (if not (delimiter == 0x60) && b == 0x0a then None
    else further (Some b) 1 (reach delimiter (c ∷ bs)))))

-- what these bytes begin with: a byte of the value, plain or escaped, or the closing delimiter
abbrev pub escaped_step : Option ℕ → Step
escaped_step None = Bad
escaped_step (Some b) = Byte b 2

unfoldable pub step_of : ℕ → List ℕ → Step
step_of delimiter [] = Bad
step_of delimiter (b ∷ []) = if b == delimiter then End false 1 else Bad
step_of delimiter (b ∷ c ∷ bs) =
    if b == delimiter then End false 1
    else (if b == 0x5c then escaped_step (escape_of c bs)
    else (if delimiter == 0x60 && b == 0x24 && c == 0x7b then End true 2
    else (if not (delimiter == 0x60) && b == 0x0a then Bad
    else Byte b 1)))

-- the value that begins with a step goes on after that step
abbrev pub Means : ℕ → List ℕ → Step → Option Reach → Type 0
Means d s (Byte b n) r = (0 < n) × (n ≤ length s) × (r ≡ further (Some b) n (reach d (drop n s)))
Means d s (End hole n) r = (n ≤ length s) × (r ≡ Some (record { value = []; hole = hole; len = n }))
Means d s Bad r = r ≡ None

-- how many bytes there are up to the end of the first `*/`
abbrev pub option_more : ℕ → Option ℕ → Option ℕ
option_more n None = None
option_more n (Some m) = Some (n + m)

unfoldable pub close_len : List ℕ → Option ℕ
close_len [] = None
close_len (a ∷ []) = None
close_len (a ∷ b ∷ bs) = if a == 0x2a && b == 0x2f then Some 2 else option_more 1 (close_len (b ∷ bs))

-- no `/*` among these bytes has a `*/` after it
abbrev pub NeverCloses : List ℕ → Type 0
NeverCloses bytes = (n : ℕ) → close_len (drop (n + 2) bytes) ≡ None

-- how many bytes the comment at the start takes
abbrev pub comment_len : List ℕ → Option ℕ
comment_len [] = None
comment_len (a ∷ []) = None
comment_len (a ∷ b ∷ bs) =
    if a == 0x2f && b == 0x2f then Some (2 + prefix_len (λ c. not (c == 0x0a)) bs)
    else (if a == 0x2f && b == 0x2a then option_more 2 (close_len bs) else None)

-- how many bytes the longest punctuator at the start takes, or 0
abbrev pub one_len : ℕ → ℕ
one_len a = if is_punctuator (a ∷ []) then 1 else 0

abbrev pub two_len : ℕ → ℕ → ℕ
two_len a b = if is_punctuator (a ∷ b ∷ []) then 2 else one_len a

unfoldable pub punctuator_len : List ℕ → ℕ
punctuator_len [] = 0
punctuator_len (a ∷ []) = one_len a
punctuator_len (a ∷ b ∷ []) = two_len a b
punctuator_len (a ∷ b ∷ c ∷ bs) = if is_punctuator (a ∷ b ∷ c ∷ []) then 3 else two_len a b

-- the lexeme at the start, by what its first byte opens
abbrev pub scanned_word : ℕ → List ℕ → Option Scanned
scanned_word len bytes = Some (record { kind = Spelled (Word (take len bytes)); len = len })

abbrev pub scanned_string : Option Reach → Option Scanned
scanned_string None = None
scanned_string (Some r) = Some (record { kind = Spelled (Str r.value); len = 1 + r.len })

abbrev pub scanned_part : Bool → Option Reach → Option Scanned
scanned_part is_first None = None
scanned_part is_first (Some r) =
    Some (record { kind = Spelled (part_kind is_first r.hole r.value); len = 1 + r.len })

abbrev pub scanned_number : ℕ → Option ℕ → Option Scanned
scanned_number len None = None
scanned_number len (Some n) = Some (record { kind = Spelled (Number (pos n)); len = len })

abbrev pub scanned_punctuator : List ℕ → ℕ → Option Scanned
scanned_punctuator bytes zero = None
scanned_punctuator bytes (suc n) = Some (record { kind = Spelled (Punct (take (suc n) bytes)); len = suc n })

abbrev pub scanned_other : List ℕ → Option ℕ → Option Scanned
scanned_other bytes (Some n) = Some (record { kind = Comment; len = n })
scanned_other bytes None = scanned_punctuator bytes (punctuator_len bytes)

unfoldable pub scan_as : Opening → ℕ → List ℕ → Option Scanned
scan_as openings.Blank b bs = Some (record { kind = Blank; len = 1 })
scan_as openings.Word b bs = scanned_word (1 + prefix_len is_word_byte bs) (b ∷ bs)
scan_as openings.Number b bs =
    let len = 1 + prefix_len is_word_byte bs in scanned_number len (number_of (take len (b ∷ bs)))
scan_as openings.Quote b bs = scanned_string (reach b bs)
scan_as openings.Template b bs = scanned_part true (reach 0x60 bs)
scan_as openings.Part b bs = scanned_part false (reach 0x60 bs)
scan_as openings.Other b bs = scanned_other (b ∷ bs) (comment_len (b ∷ bs))

-- the longest lexeme at the start of a text, if one begins there
unfoldable pub scan_of : Bool → List ℕ → Option Scanned
scan_of in_hole [] = None
scan_of in_hole (b ∷ bs) = scan_as (opening_of in_hole b) b bs

-- what is scanned has bytes, and at most n of them
abbrev pub IsWithin : ℕ → Option Scanned → Type 0
IsWithin n scanned = IfSome scanned (λ s. (0 < s.len) × (s.len ≤ n))

-- The tokens of a text, and the place at which a text has none. A text is cut into lexemes: blanks,
-- comments and the spellings of tokens. At each place the longest lexeme is cut off.
use Rattle.std.specs.Prelude.{◌≡◌, ℕ, ◌+◌, ◌<◌, ◌≤◌, Bool, true, false, ◌==◌, nat_eq, List, [], ◌∷◌, ◌++◌}
use Rattle.std.specs.Prelude.{length, drop, slice_range, Some, if◌then◌else◌}
use Rattle.std.specs.List.{flat_map, starts_with, AllByRecursion}
use Rattle.dscript_lex.specs.declared.token.Token.{Token}
use Rattle.dscript_lex.specs.declared.token.TokenKind.TheVariants.{Head, Middle, Tail, Punct}
use Rattle.dscript_lex.specs.declared.fault.LexFault.{LexFault}
use Rattle.dscript_lex.specs.declared.fault.LexFault.TheVariants as faults
use Rattle.dscript_lex.specs.declared.brackets.Bracket.{Bracket}
use Rattle.dscript_lex.specs.declared.brackets.Bracket.TheVariants.{Hole, Brace}
use Rattle.dscript_lex.specs.declared.lexeme.LexemeKind.{LexemeKind}
use Rattle.dscript_lex.specs.declared.lexeme.LexemeKind.TheVariants.{Spelled}
use Rattle.dscript_lex.specs.Lexemes.{lexeme_of, may_precede}

-- a lexeme of a text: its bytes, and what they are
pub record Lexeme : Type 0 where
  pub text : List ℕ
  pub kind : LexemeKind

-- the bytes of the lexemes, one after another
abbrev pub texts : List Lexeme → List ℕ
texts ls = flat_map (λ l. l.text) ls

-- these bytes are a lexeme of that kind, which may come before the rest
pub record IsLexeme (in_hole : Bool) (text rest : List ℕ) (kind : LexemeKind) : Type 0 where
  pub is : lexeme_of in_hole text ≡ Some kind
  pub before : may_precede kind rest ≡ true

-- a lexeme before this rest, and no longer one begins where it begins
pub record IsLongest (in_hole : Bool) (text rest : List ℕ) (kind : LexemeKind) : Type 0 where
  pub lexeme : IsLexeme in_hole text rest kind
  pub longest : (prefix suffix : List ℕ) (other : LexemeKind) →
      text ++ rest ≡ prefix ++ suffix → IsLexeme in_hole prefix suffix other → length prefix ≤ length text

-- no lexeme begins at the start of this rest
abbrev pub NothingBegins : Bool → List ℕ → Type 0
NothingBegins in_hole rest =
    (text others : List ℕ) (kind : LexemeKind) →
    rest ≡ text ++ others → IsLexeme in_hole text others kind → ⊥

-- Which brackets are open after a lexeme, the innermost first: the holes of templates, and braces. The
-- first part of a template opens a hole, a middle part closes one and opens the next, and the last
-- part closes one. A `}` where nothing is open closes nothing.
abbrev pub closed : List Bracket → List Bracket
closed [] = []
closed (innermost ∷ others) = others

abbrev pub after_punctuator : List ℕ → List Bracket → List Bracket
after_punctuator (b ∷ []) brackets =
    if b == 0x7b then Brace ∷ brackets else (if b == 0x7d then closed brackets else brackets)
after_punctuator _ brackets = brackets

abbrev pub brackets_after : LexemeKind → List Bracket → List Bracket
brackets_after (Spelled (Head _)) brackets = Hole ∷ brackets
brackets_after (Spelled (Middle _)) brackets = Hole ∷ closed brackets
brackets_after (Spelled (Tail _)) brackets = closed brackets
brackets_after (Spelled (Punct punctuator)) brackets = after_punctuator punctuator brackets
brackets_after _ brackets = brackets

-- whether the innermost open bracket is a hole: a `}` then begins the next part of its template
abbrev pub in_hole : List Bracket → Bool
in_hole [] = false
in_hole (Hole ∷ _) = true
in_hole (Brace ∷ _) = false

-- no template has a hole open
abbrev pub NoHole : List Bracket → Type 0
NoHole [] = Unit {0}
NoHole (Hole ∷ _) = ⊥
NoHole (Brace ∷ others) = NoHole others

-- Where these brackets are open before them, the lexemes are each the longest at its place, a rest comes
-- after them, and those brackets are open before the rest.
abbrev pub CutTo : List Bracket → List Lexeme → List ℕ → List Bracket → Type 0
CutTo before [] rest after = before ≡ after
CutTo before (l ∷ ls) rest after =
    IsLongest (in_hole before) l.text (texts ls ++ rest) l.kind
    × CutTo (brackets_after l.kind before) ls rest after

-- how many bytes the byte order mark EF BB BF takes, with which a text may begin
abbrev pub mark_len : List ℕ → ℕ
mark_len bytes = if starts_with nat_eq bytes (0xef ∷ 0xbb ∷ 0xbf ∷ []) then 3 else 0

-- the text is cut into these lexemes up to a rest, and these brackets are open after them
pub record IsCut (bytes : List ℕ) (lexemes : List Lexeme) (rest : List ℕ)
    (after : List Bracket) : Type 0 where
  pub whole : texts lexemes ++ rest ≡ drop (mark_len bytes) bytes
  pub longest : CutTo [] lexemes rest after

-- the tokens among the lexemes, the first of which begins at this byte
abbrev pub token_of : ℕ → ℕ → LexemeKind → List Token
token_of start end (Spelled kind) = record { kind = kind; start = start; end = end } ∷ []
token_of start end _ = []

abbrev pub tokens_of : ℕ → List Lexeme → List Token
tokens_of start [] = []
tokens_of start (l ∷ ls) =
    let end = start + length l.text in token_of start end l.kind ++ tokens_of end ls

-- These are the tokens of the text: it is cut into lexemes to its end, where no hole is open, and these
-- tokens are among them.
pub record AreTokens (bytes : List ℕ) (tokens : List Token) : Type 0 where
  pub lexemes : List Lexeme
  pub open_brackets : List Bracket
  pub cut : IsCut bytes lexemes [] open_brackets
  pub no_hole : NoHole open_brackets
  pub spelled : tokens ≡ tokens_of (mark_len bytes) lexemes

-- nothing more can be cut off: no lexeme begins here, or the text ends inside a hole
abbrev pub IsStuck : List Bracket → List ℕ → Type 0
IsStuck brackets [] = NoHole brackets → ⊥
IsStuck brackets (b ∷ bs) = NothingBegins (in_hole brackets) (b ∷ bs)

-- the text is cut into lexemes up to this byte, and no further
pub record FailsAt (bytes : List ℕ) (at : ℕ) : Type 0 where
  pub lexemes : List Lexeme
  pub rest : List ℕ
  pub open_brackets : List Bracket
  pub cut : IsCut bytes lexemes rest open_brackets
  pub stuck : IsStuck open_brackets rest
  pub place : at ≡ mark_len bytes + length (texts lexemes)

-- a text is refused at the byte at which it fails, and out of memory says nothing of it
abbrev pub Refuses : LexFault → List ℕ → Type 0
Refuses (faults.Lex at) bytes = FailsAt bytes at
Refuses faults.Memory bytes = Unit {0}

-- each token begins no earlier than the one before it ends, all of them between two places
abbrev pub Rise : ℕ → List Token → ℕ → Type 0
Rise from [] to = from ≤ to
Rise from (t ∷ ts) to = (from ≤ t.start) × (t.start < t.end) × Rise t.end ts to

-- the bytes at the token's place are a spelling of it
abbrev pub IsSpelledAt : List ℕ → Token → Type 0
IsSpelledAt bytes t =
    (is_in_hole : Bool) × (lexeme_of is_in_hole (slice_range bytes t.start t.end) ≡ Some (Spelled t.kind))

-- the places of the tokens rise within the text, and each has its token's spelling
pub record HavePlaces (bytes : List ℕ) (tokens : List Token) : Type 0 where
  pub rise : Rise 0 tokens (length bytes)
  pub spelled : AllByRecursion (IsSpelledAt bytes) tokens

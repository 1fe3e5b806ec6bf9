-- What a function of the parser gives, by the reader of the grammar that has its name.
use Rattle.std.specs.Prelude.{◌≡◌, ℕ, suc, Bool, ◌<◌, ◌≤◌, List, Option, Some, None, Result, Ok, Err, length}
use Rattle.std.specs.Prelude.{map}
use Rattle.std.specs.Borrow.{Bor}
use Rattle.dscript_lex.specs.declared.token.Token.{Token}
use Rattle.dscript_lex.specs.declared.token.TokenKind.{TokenKind}
use Rattle.dscript_grammar.specs.Reading.{Read, Reader}
use Rattle.dscript_parse_tokens.specs.declared.parsed.Parsed.{Parsed}
use Rattle.dscript_parse_tokens.specs.declared.parsed.Refusal.{Refusal}
use Rattle.dscript_parse_tokens.specs.declared.parsed.Refusal.TheVariants as refusals

-- the tokens, without their places in the text
abbrev pub kinds : List Token → List TokenKind
kinds = map (λ t. t.kind)

-- Syntax says that the reader reads nothing; Memory says nothing of it.
abbrev pub Fails : {A : Type 0} → Refusal → Option A → Type 0
Fails refusals.Syntax read = read ≡ None
Fails refusals.Memory read = Unit {0}

-- The reader reads this value, with this height and these tokens after it; the height is at most the limit,
-- and fewer tokens are left than the bound.
pub record IsRead {X T : Type 0}
    (view : X → T) (read : Option (Read T)) (limit bound : ℕ) (p : Parsed X) : Type 0 where
  pub is : read ≡ Some (record { value = view p.value; height = p.height; rest = kinds p.rest.now })
  pub within : p.height ≤ limit
  pub shorter : length (kinds p.rest.now) < bound

-- What the function gives is what the reader reads, and it refuses where the reader reads nothing.
abbrev pub Gives : {X T : Type 0} → (X → T) → Option (Read T) → ℕ → ℕ → Result (Parsed X) Refusal → Type 0
Gives view read limit bound (Ok p) = IsRead view read limit bound p
Gives view read limit bound (Err fault) = Fails fault read

-- The function reads at least one token, and no node of what it reads is higher than the limit.
abbrev pub Parses : {X T : Type 0} → (X → T) → Reader T → ℕ → List Token → Result (Parsed X) Refusal → Type 0
Parses view reader limit ts result = Gives view (reader (kinds ts)) limit (length (kinds ts)) result

-- The function reads any number of tokens, and no node of what it reads is higher than the limit.
abbrev pub MayRead : {X T : Type 0} → (X → T) → Reader T → ℕ → List Token → Result (Parsed X) Refusal → Type 0
MayRead view reader limit ts result = Gives view (reader (kinds ts)) limit (suc (length (kinds ts))) result

-- each call of a function with these answers reads so
abbrev pub EachReads : {X T : Type 0} → (X → T) → Reader T → ℕ
    → (Bor (List Token) → Result (Parsed X) Refusal → Type 0) → Type 0
EachReads view reader limit answers = (ts : _) (result : _) → answers ts result
    → Parses view reader limit ts.now result

-- each call of a test with these answers tests so
abbrev pub EachTests : (List TokenKind → Bool) → (Bor (List Token) → Bool → Type 0) → Type 0
EachTests test answers = (ts : _) (result : _) → answers ts result → result ≡ test (kinds ts.now)

-- each call takes a token
abbrev pub EachShortens : {X : Type 0} → (Bor (List Token) → Result (Parsed X) Refusal → Type 0) → Type 0
EachShortens answers = (ts : _) (p : _) → answers ts (Ok p)
    → length (kinds p.rest.now) < length (kinds ts.now)

-- a token that may be there, and the tokens after it
abbrev pub Takes : Option (Bor (List Token)) → Option (List TokenKind) → ℕ → Type 0
Takes None read bound = read ≡ None
Takes (Some rest) read bound = (read ≡ Some (kinds rest.now)) × (length (kinds rest.now) < bound)

-- a token that has to be there
abbrev pub Wants : Result (Bor (List Token)) Refusal → Option (List TokenKind) → ℕ → Type 0
Wants (Ok rest) read bound = (read ≡ Some (kinds rest.now)) × (length (kinds rest.now) < bound)
Wants (Err fault) read bound = (fault ≡ refusals.Syntax) × (read ≡ None)

-- What may be there and needs no memory.
abbrev pub Offers : {X T : Type 0} → (X → T) → Option (Read T) → ℕ → Option (Parsed X) → Type 0
Offers view read bound None = read ≡ None
Offers view read bound (Some p) = IsRead view read 0 bound p

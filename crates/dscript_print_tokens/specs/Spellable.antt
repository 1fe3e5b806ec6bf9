-- Which tokens can be written one after another, and when a text has them.
use Rattle.std.specs.Prelude.{◌≡◌, ℕ, Bool, List, [], ◌∷◌, Some, map}
use Rattle.dscript_lex.specs.declared.token.Token.{Token}
use Rattle.dscript_lex.specs.declared.token.TokenKind.{TokenKind}
use Rattle.dscript_lex.specs.declared.lexeme.LexemeKind.TheVariants.{Spelled}
use Rattle.dscript_lex.specs.declared.brackets.Bracket.{Bracket}
use Rattle.dscript_lex.specs.Lexemes.{lexeme_of}
use Rattle.dscript_lex.specs.Tokens.{AreTokens, NoHole, brackets_after, in_hole}
use Rattle.dscript_print_tokens.specs.declared.laid.Laid.{Laid}

-- the tokens alone
abbrev pub kinds : List Laid → List TokenKind
kinds laid = map (λ l. l.kind) laid

-- some text is this token as a whole, inside a template's hole or not
pub record HasSpelling (is_in_hole : Bool) (kind : TokenKind) : Type 0 where
  pub text : List ℕ
  pub is : lexeme_of is_in_hole text ≡ Some (Spelled kind)

-- Where these brackets are open at the start, each token has a spelling after those before it, and no hole
-- is open after the last.
abbrev pub AreSpellableAfter : List Bracket → List TokenKind → Type 0
AreSpellableAfter brackets [] = NoHole brackets
AreSpellableAfter brackets (kind ∷ others) =
    HasSpelling (in_hole brackets) kind × AreSpellableAfter (brackets_after (Spelled kind) brackets) others

-- the tokens can be written one after another
abbrev pub AreSpellable : List TokenKind → Type 0
AreSpellable all = AreSpellableAfter [] all

-- the text has tokens, and these are their kinds, in order
pub record HasKinds (text : List ℕ) (all : List TokenKind) : Type 0 where
  pub tokens : List Token
  pub are : AreTokens text tokens
  pub same : map (λ t. t.kind) tokens ≡ all

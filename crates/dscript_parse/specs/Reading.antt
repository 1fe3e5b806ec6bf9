-- What a text is as a file of a form: a file, no list of tokens, or tokens that are no such file.
use Rattle.std.specs.Prelude.{◌≡◌, ℕ, List, map}
use Rattle.dscript_lex.specs.declared.token.Token.{Token}
use Rattle.dscript_lex.specs.declared.token.TokenKind.{TokenKind}
use Rattle.dscript_lex.specs.Tokens.{AreTokens, FailsAt}
use Rattle.dscript_ast.specs.FileTree.{FileTree}
use Rattle.dscript_ast.specs.declared.file.Form.{Form}
use Rattle.dscript_grammar.specs.Derives.{Derives}
use Rattle.dscript_grammar.specs.Place.{IsRefusedAt}
use Rattle.dscript_program.specs.declared.place.Place.{Place}
use Rattle.dscript_parse.specs.Places.{place_of, start_of}

abbrev pub kinds_of : List Token → List TokenKind
kinds_of tokens = map (λ t. t.kind) tokens

-- the tokens of the text are this file, of a height that counts
abbrev pub IsFile : Form → List ℕ → FileTree → Type 0
IsFile form text file =
    (tokens : List Token) × AreTokens text tokens × (height : ℕ) × Derives form (kinds_of tokens) file height

-- the text has no tokens, and fails at this place
abbrev pub HasNoTokens : List ℕ → Place → Type 0
HasNoTokens text place = (at : ℕ) × FailsAt text at × (place ≡ place_of text at)

-- the text is a list of tokens that are no file of the form, and they are refused at the token at this place
abbrev pub IsNoFile : Form → List ℕ → Place → Type 0
IsNoFile form text place =
    (tokens : List Token) × AreTokens text tokens
    × (at : ℕ) × IsRefusedAt form (kinds_of tokens) at
    × (place ≡ place_of text (start_of text tokens at))

-- what reading a text comes to
pub data Reading : Type 0 where
  Read : FileTree → Reading
  NoTokens : Place → Reading
  NoFile : Place → Reading

-- the text, read as a file of this form, comes to this
abbrev pub ReadsAs : Form → List ℕ → Reading → Type 0
ReadsAs form text (Read file) = IsFile form text file
ReadsAs form text (NoTokens place) = HasNoTokens text place
ReadsAs form text (NoFile place) = IsNoFile form text place

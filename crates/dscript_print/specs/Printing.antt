-- What it means that a text is a print of a file.
use Rattle.std.specs.Prelude.{ℕ, List, map}
use Rattle.dscript_lex.specs.declared.token.Token.{Token}
use Rattle.dscript_lex.specs.Tokens.{AreTokens}
use Rattle.dscript_ast.specs.declared.file.Form.{Form}
use Rattle.dscript_grammar.specs.Derives.{Derives}
use Rattle.dscript_ast.specs.FileTree.{FileTree}

-- the tokens of this text derive the file as this form within this height
pub record TextDerives (form : Form) (text : List ℕ) (file : FileTree) (height : ℕ) : Type 0 where
  pub tokens : List Token
  pub are : AreTokens text tokens
  pub derive : Derives form (map (λ t. t.kind) tokens) file height

-- If some text is parsed to the file, by its form and within some height, this one is too. It says nothing of
-- a file to which no text is parsed.
abbrev pub Prints : List ℕ → FileTree → Type 0
Prints printed file =
    (form : Form) (text : List ℕ) (height : ℕ) → TextDerives form text file height → TextDerives form printed file height

-- Where a list of tokens is refused.
use Rattle.std.specs.Prelude.{◌≡◌, ℕ, ◌≤◌, List, length, take}
use Rattle.dscript_lex.specs.declared.token.TokenKind.{TokenKind}
use Rattle.dscript_ast.specs.FileTree.{FileTree}
use Rattle.dscript_ast.specs.declared.file.Form.{Form}
use Rattle.dscript_ast.specs.declared.file.Form.TheVariants as forms
use Rattle.dscript_grammar.specs.Derives.{Derives}

-- The first n tokens are derived as a project file.
pub record IsProjectUpTo (tokens : List TokenKind) (n : ℕ) : Type 0 where
  pub within : n ≤ length tokens
  pub file : FileTree
  pub height : ℕ
  pub derived : Derives forms.Project (take n tokens) file height

-- The number of tokens before the place of a refusal. In a project file it is the greatest number of tokens
-- at the start that are derived as one, so the place is the first token of the first wrong item. In a
-- configuration it is 0.
abbrev pub IsPlace : Form → List TokenKind → ℕ → Type 0
IsPlace forms.Project tokens n = IsProjectUpTo tokens n × ((m : ℕ) → IsProjectUpTo tokens m → m ≤ n)
IsPlace forms.Config tokens n = n ≡ 0
IsPlace forms.Module tokens n = n ≡ 0

-- No file of this form, of a height that counts, is derived from the tokens, and they are refused at this
-- place.
pub record IsRefusedAt (form : Form) (tokens : List TokenKind) (at : ℕ) : Type 0 where
  pub no_file : (file : FileTree) (height : ℕ) → Derives form tokens file height → ⊥
  pub place : IsPlace form tokens at

-- What it means that the grammar derives a file from a list of tokens.
use Rattle.std.specs.Prelude.{ℕ, ◌≤◌, List, []}
use Rattle.dscript_lex.specs.declared.token.TokenKind.{TokenKind}
use Rattle.dscript_ast.specs.FileTree.{FileTree}
use Rattle.dscript_grammar.specs.FileGrammar.{file_at}
use Rattle.dscript_ast.specs.declared.file.Form.{Form}
use Rattle.dscript_grammar.specs.declared.height.TheConstants.{MAX_HEIGHT}

-- The grammar derives this file of this form from all of the tokens, with a tree of at most this height. Only
-- heights up to MAX_HEIGHT count.
pub record Derives (form : Form) (tokens : List TokenKind) (file : FileTree) (height : ℕ) : Type 0 where
  pub counts : height ≤ MAX_HEIGHT
  pub derived : file_at height form file tokens []

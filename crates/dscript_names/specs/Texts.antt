-- Texts with the project files that they are.
use Rattle.std.specs.Prelude.{ℕ, Bool, List, filter, map}
use Rattle.std.specs.List.{AllZip}
use Rattle.bx_tree.specs.Paths.{Atoms}
use Rattle.bx_tree.specs.Trees.{Files}
use Rattle.dscript_ast.specs.FileTree.{FileTree}
use Rattle.dscript_ast.specs.declared.file.Form.TheVariants as forms
use Rattle.dscript_grammar.specs.Derives.{Derives}
use Rattle.dscript_lex.specs.Tokens.{AreTokens}
use Rattle.dscript_lex.specs.declared.token.Token.{Token}
use Rattle.dscript_names_scopes.specs.Declarations.{ParsedData}

-- the tokens of the text are this project file
abbrev pub IsProject : List ℕ → FileTree → Type 0
IsProject text file =
    (tokens : List Token) × AreTokens text tokens
    × (height : ℕ) × Derives forms.Project (map (λ t. t.kind) tokens) file height

-- these files, in their order, are the project files
abbrev pub AreProjects : Files → List ParsedData → Type 0
AreProjects files parsed = AllZip (λ file p. IsProject file.1 p.file) files parsed

-- the chosen ones of the files, in their order, are the project files
abbrev pub AreProjectsAmong : (Atoms × List ℕ → Bool) → Files → List ParsedData → Type 0
AreProjectsAmong chosen files parsed = AreProjects (filter chosen files) parsed

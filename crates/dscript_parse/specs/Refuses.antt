-- What it means that no file is given.
use Rattle.std.specs.Prelude.{◌≡◌, true, false, List, Result, Ok, Err}
use Rattle.dscript_lex.specs.declared.token.TokenKind.{TokenKind}
use Rattle.dscript_ast.specs.declared.file.File.{File}
use Rattle.dscript_ast.specs.declared.file.Form.{Form}
use Rattle.dscript_grammar.specs.FileReading.{at_end}
use Rattle.dscript_grammar.specs.Place.{IsRefusedAt}
use Rattle.dscript_parse_tokens.specs.Gives.{kinds}
use Rattle.dscript_parse_tokens.specs.declared.parsed.Parsed.{Parsed}
use Rattle.dscript_parse_tokens.specs.declared.parsed.Refusal.{Refusal}
use Rattle.dscript_parse_tokens.specs.declared.parsed.Refusal.TheVariants as refusals
use Rattle.dscript_parse.specs.declared.fault.SyntaxFault.{SyntaxFault}
use Rattle.dscript_parse.specs.declared.fault.SyntaxFault.TheVariants as faults

-- Syntax: no file of the form is derived from the tokens, and this is the place where they are refused.
-- Out of memory says nothing of them.
abbrev pub Refuses : SyntaxFault → Form → List TokenKind → Type 0
Refuses (faults.Syntax at) form tokens = IsRefusedAt form tokens at
Refuses faults.Memory form tokens = Unit {0}

-- What is left of a file that was read at the start of the tokens: the file where no token is left, and else
-- a refusal at the first token.
abbrev pub Finishes : Result (Parsed File) Refusal → Result File SyntaxFault → Type 0
Finishes (Ok p) (Ok file) = (p.value ≡ file) × (at_end (kinds p.rest.now) ≡ true)
Finishes (Ok p) (Err (faults.Syntax at)) = (at ≡ 0) × (at_end (kinds p.rest.now) ≡ false)
Finishes (Ok p) (Err faults.Memory) = ⊥
Finishes (Err fault) (Ok file) = ⊥
Finishes (Err refusals.Syntax) (Err (faults.Syntax at)) = at ≡ 0
Finishes (Err refusals.Syntax) (Err faults.Memory) = ⊥
Finishes (Err refusals.Memory) (Err (faults.Syntax at)) = ⊥
Finishes (Err refusals.Memory) (Err faults.Memory) = Unit {0}

-- A text comes to some reading as a file of each form.
use Rattle.std.proofs.Common.{ℕ, List, inl, inr, refl}
use Rattle.dscript_lex.proofs.Cutting.{ends as tokens_or_failure}
use Rattle.dscript_ast.specs.declared.file.Form.{Form}
use Rattle.dscript_grammar.specs.declared.height.TheConstants.{MAX_HEIGHT}
use Rattle.dscript_grammar.proofs.Places.{file_or_place}
use Rattle.dscript_parse.specs.Places.{place_of, start_of}
use Rattle.dscript_parse.specs.Reading.{Reading, Read, NoTokens, NoFile, ReadsAs, kinds_of}

pub some_reading : (form : Form) (text : List ℕ) → (reading : Reading) × ReadsAs form text reading
some_reading form text = elim (tokens_or_failure text) [
  | inr fails ↦ (NoTokens (place_of text fails.0), (fails.0, fails.1, refl))
  | inl tokens ↦ elim (file_or_place form (kinds_of tokens.0)) [
    | inr place ↦
        (NoFile (place_of text (start_of text tokens.0 place.0)), (tokens.0, tokens.1, place.0, place.1, refl))
    | inl file ↦ (Read file.0, (tokens.0, tokens.1, MAX_HEIGHT, file.1))
  ]
]

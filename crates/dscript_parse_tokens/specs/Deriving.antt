-- What it means that a reader reads what the grammar derives.
use Prim.Native.String.{String}
use Rattle.std.specs.Prelude.{◌≡◌, ℕ, ◌≤◌, List, None}
use Rattle.dscript_lex.specs.declared.token.TokenKind.{TokenKind}
use Rattle.dscript_grammar.specs.Language.{Language}
use Rattle.dscript_grammar.specs.Reading.{Reader, got, take_punctuator}

module _ {X : Type 0} (derives : ℕ → X → Language) where
  -- whatever is read is derived, within its height and each greater one
  abbrev pub IsSound : Reader X → Type 0
  IsSound reader =
      (tokens rest : List TokenKind) (x : X) (height limit : ℕ)
      → reader tokens ≡ got x height rest → height ≤ limit → derives limit x tokens rest

  -- whatever is derived within the depth, where it cannot go on after its end, is read
  abbrev pub IsComplete : (X → List TokenKind → Type 0) → ℕ → Reader X → Type 0
  IsComplete ends depth reader =
      (tokens rest : List TokenKind) (x : X) (limit : ℕ)
      → limit ≤ depth → derives limit x tokens rest → ends x rest
      → (height : ℕ) × ((height ≤ limit) × (reader tokens ≡ got x height rest))

-- no token continues what ends with a closing punctuator
abbrev pub EndsAnywhere : {X : Type 0} → X → List TokenKind → Type 0
EndsAnywhere x rest = Unit {0}

-- neither the last of the separated values nor their row goes on with the first of these tokens
abbrev pub EndsRow : String → (List TokenKind → Type 0) → List TokenKind → Type 0
EndsRow s ends rest = (take_punctuator s rest ≡ None) × ends rest

-- When what is found of locals is what an expression sees.
use Rattle.std.specs.Prelude.{◌≡◌, ℕ, Option, Some, None}
use Rattle.dscript_types_meaning.specs.Types.{TypeData}
use Rattle.dscript_types_meaning.specs.Contexts.{Context, Hold, Local, held_inside, local_at}
use Rattle.dscript_types_known.specs.Findings.{Finding, Tells, inside}

-- a local as it is found: its type, and how it holds its value
pub record FoundLocal : Type 0 where
  pub type_data : Finding TypeData
  pub hold : Hold

-- a local that a callback captures, in its body
abbrev pub captured_inside : FoundLocal → FoundLocal
captured_inside l = record { type_data = inside l.type_data; hold = held_inside l.hold }

-- by number
abbrev pub FoundLocals : Type 0
FoundLocals = ℕ → Option FoundLocal

-- a local that is seen is found with its hold, and one that is not seen is not found
abbrev pub LocalMatches : Type 0 → ℕ → Option FoundLocal → Option Local → Type 0
LocalMatches closed n None None = Unit {0}
LocalMatches closed n (Some f) (Some l) = (f.hold ≡ l.hold) × Tells closed n f.type_data l.type_data
LocalMatches closed n _ _ = ⊥

abbrev pub LocalsMatch : Type 0 → ℕ → FoundLocals → Context → Type 0
LocalsMatch closed n locals c = (number : ℕ) → LocalMatches closed n (locals number) (local_at c number)

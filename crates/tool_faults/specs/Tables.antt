-- The table of the first line with each label, as a function.
use Rattle.std.specs.Prelude.{ℕ, List, Option, Some, None, if◌then◌else◌}
use Rattle.std.specs.Str.{bytes_eq}
use Rattle.tool_text.specs.Reading.{Places}

abbrev pub or_else : Option ℕ → Option ℕ → Option ℕ
or_else None later = later
or_else (Some place) later = Some place

-- the place of one more line, where it has this label
abbrev pub own_place : Option (List ℕ) → ℕ → List ℕ → Option ℕ
own_place None place q = None
own_place (Some label) place q = if bytes_eq label q then Some place else None

-- the places with one more line: a label that is there keeps its place
abbrev pub with_first : Option (List ℕ) → ℕ → Places → Places
with_first own place places q = or_else (places q) (own_place own place q)

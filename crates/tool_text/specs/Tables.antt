-- The table of labels as a function.
use Rattle.std.specs.Prelude.{◌≡◌, ℕ, List, Option, Some, None, IsSome, if◌then◌else◌}
use Rattle.std.specs.Str.{bytes_eq}
use Rattle.bx_tree.specs.TextTables.{at_text}
use Rattle.tool_text.specs.Reading.{Places}
use Rattle.tool_text.specs.declared.labels.Table.{Table}

-- the places of labels in a table
abbrev pub place_in : Table → Places
place_in table = at_text table.by_label

-- the places with one more, where the line has a label
abbrev pub with_place : Option (List ℕ) → ℕ → Places → Places
with_place None place places q = places q
with_place (Some label) place places q = if bytes_eq label q then Some place else places q

-- no place is known for the label, if there is one
abbrev pub IsFree : Option (List ℕ) → Places → Type 0
IsFree None places = Unit {0}
IsFree (Some label) places = places label ≡ None

-- there is a label, and a place is known for it
abbrev pub IsTaken : Option (List ℕ) → Places → Type 0
IsTaken None places = ⊥
IsTaken (Some label) places = IsSome (places label)

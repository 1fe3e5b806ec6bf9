-- What is found of annotations.
use Rattle.std.specs.Prelude.{◌≡◌, ℕ, ◌≤◌, max, List, [], ◌∷◌, Option, Some, None}
use Rattle.std.specs.Option.{option_and_then}
use Rattle.std.specs.declared.alloc.Global.{Global}
use Rattle.std.specs.declared.vec.Vec.{Vec}
use Rattle.dscript_ast.specs.TypeTree.{MemberTrees}
use Rattle.dscript_program.specs.ProgramData.{Dotted, ProgramData}
use Rattle.dscript_program.specs.Views.{program_data}
use Rattle.dscript_types_data.specs.declared.types.Field.{Field}
use Rattle.dscript_types_data.specs.Views.{fields_now}
use Rattle.dscript_types_meaning.specs.Annotations.{fields_after}
use Rattle.dscript_types_meaning.specs.Lookups.{Place as FoundPlace}
use Rattle.dscript_types_meaning.specs.Sizes.{within_limit}
use Rattle.dscript_types_meaning.specs.Types.{FieldData, TypeData, object_type}
use Rattle.dscript_types_meaning.specs.Contexts.{Context, Known}
use Rattle.dscript_types_meaning.specs.Typed.{known_within, reach}
use Rattle.dscript_types_known.specs.declared.finding.Finding.{Finding as AnyFinding}
use Rattle.dscript_types_known.specs.declared.finding.Finding.TheVariants as findings
use Rattle.dscript_types_known.specs.Findings.{Finding, Found, Nothing, Open, Tells}
use Rattle.dscript_types_known.specs.Tables.{IsClosedTo, IsRight, TableData, entry}
use Rattle.dscript_types_notes.specs.declared.world.Place.{Place}
use Rattle.dscript_types_notes.specs.declared.world.World.{World}
use Rattle.dscript_types_notes.specs.Names.{IsIndexOf}

abbrev pub program_of : World → ProgramData
program_of w = program_data w.program.now

-- the names are those of the program, what is found of its declarations is right, and not more may be looked into than
-- the program reaches
pub record IsSound (w : World) : Type 0 where
  pub names : IsIndexOf (program_of w) w.names.now
  pub right : IsRight (program_of w) w.table.now
  pub within : w.left ≤ reach (program_of w)

-- the context is at the place
pub record IsAt (place : Place) (c : Context) : Type 0 where
  pub file : c.file ≡ place.file
  pub around : c.around ≡ place.around.now
  pub parameters : c.parameters ≡ place.parameters.now

-- A finding says what the rules answer at a place, however many may be looked into: what is open has no answer where
-- nothing has that is still open in the table, also where more may be looked into.
abbrev pub Says : {X : Type 0} → World → Place → Finding X → (ProgramData → Known → Context → Option X) → Type 0
Says w place finding answer =
    (n more : ℕ) (c : Context) → n ≤ more → n ≤ w.left → IsAt place c
    → Tells (IsClosedTo (program_of w) w.table.now more) n finding (answer (program_of w) (known_within (program_of w) n) c)

-- what was found is found from this rank on at the earliest
abbrev pub IsFrom : {X : Type 0} → ℕ → Finding X → Type 0
IsFrom rank (Found x from) = rank ≤ from
IsFrom rank Nothing = Unit {0}
IsFrom rank Open = Unit {0}

-- the same of what is looked at after something that is known from a rank on
abbrev pub SaysFrom
    : {X : Type 0} → World → Place → ℕ → Finding X → (ProgramData → Known → Context → Option X) → Type 0
SaysFrom w place rank finding answer =
    IsFrom rank finding
    × ((n more : ℕ) (c : Context) → rank ≤ n → n ≤ more → n ≤ w.left → IsAt place c
    → Tells (IsClosedTo (program_of w) w.table.now more) n finding
    (answer (program_of w) (known_within (program_of w) n) c))

-- ## Findings

-- what there may not be, from a rank on
abbrev pub found_if : {X : Type 0} → Option X → ℕ → Finding X
found_if None rank = Nothing
found_if (Some x) rank = Found x rank

abbrev pub raised : {X : Type 0} → ℕ → Finding X → Finding X
raised rank (Found x from) = Found x (max rank from)
raised rank Nothing = Nothing
raised rank Open = Open

-- a type that is too large is none
abbrev pub limited_data : Finding TypeData → Finding TypeData
limited_data (Found t rank) = found_if (within_limit t) rank
limited_data Nothing = Nothing
limited_data Open = Open

abbrev pub finding_types : AnyFinding (Vec TypeData Global) → Finding (List TypeData)
finding_types (findings.Found types rank) = Found types.items rank
finding_types findings.Nothing = Nothing
finding_types (findings.Open pending) = Open

abbrev pub finding_fields : AnyFinding (Vec Field Global) → Finding (List FieldData)
finding_fields (findings.Found fields rank) = Found (fields_now fields) rank
finding_fields findings.Nothing = Nothing
finding_fields (findings.Open pending) = Open

-- What is found of a declared type by its name, at types of its arguments. Nothing may be left over of the name, and it
-- takes no arguments.
abbrev pub meant_at : TableData → FoundPlace → Dotted → List TypeData → ℕ → Finding TypeData
meant_at table at [] [] rank = raised rank (limited_data (entry table at.0 at.1))
meant_at table at [] (t ∷ arguments) rank = Nothing
meant_at table at (x ∷ rest) arguments rank = Nothing

-- the objects with the fields of members after others
abbrev pub object_after : ProgramData → Known → Context → MemberTrees → List FieldData → Option TypeData
object_after p known c members done =
    option_and_then (λ fields. within_limit (object_type fields)) (fields_after p known c members done)

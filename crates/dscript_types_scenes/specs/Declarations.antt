-- Where declarations stand.
use Rattle.std.specs.Prelude.{◌≡◌, ◌≤◌, ℕ, List, []}
use Rattle.dscript_program.specs.ProgramData as kinds
use Rattle.dscript_program.specs.ProgramData.{KindData, ProgramData}
use Rattle.dscript_types_known.specs.Matching.{LocalsMatch}
use Rattle.dscript_types_known.specs.Views.{locals_at}
use Rattle.dscript_types_known.specs.declared.locals.Locals.{Locals}
use Rattle.dscript_types_meaning.specs.Contexts.{Context, Known, Local}
use Rattle.dscript_types_meaning.specs.Typed.{known_within}
use Rattle.dscript_types_notes.specs.Means.{IsAt, program_of}
use Rattle.dscript_types_notes.specs.declared.world.Place.{Place}
use Rattle.dscript_types_notes.specs.declared.world.World.{World}
use Rattle.dscript_types_scenes.specs.Scenes.{Closed}

abbrev pub parameters_of : KindData → List (List ℕ)
parameters_of (kinds.Function ts t number) = ts
parameters_of _ = []

pub record IsPlaceOf (place : Place) (number : ℕ) (names : List (List ℕ)) (kind : KindData) : Type 0 where
  pub file : place.file ≡ number
  pub around : place.around.now ≡ names
  pub parameters : place.parameters.now ≡ parameters_of kind

-- these are found as the locals of a context
abbrev pub FindsLocals : World → Place → Locals → (ProgramData → Known → Context → List Local) → Type 0
FindsLocals w place locals has =
    (n more : ℕ) (c : Context) → n ≤ more → n ≤ w.left → IsAt place c
    → LocalsMatch (Closed w more) n (locals_at locals)
    (record c { locals = has (program_of w) (known_within (program_of w) n) c })

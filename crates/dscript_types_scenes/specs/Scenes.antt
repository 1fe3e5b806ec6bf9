-- What is found where an expression stands.
use Rattle.std.specs.Prelude.{◌==◌, ◌≡◌, ◌≤◌, ℕ, None, Option, Some, if◌then◌else◌, suc}
use Rattle.dscript_program.specs.ProgramData.{ProgramData}
use Rattle.dscript_types_known.specs.Findings.{Finding, Tells}
use Rattle.dscript_types_known.specs.Matching.{FoundLocal, FoundLocals, LocalsMatch}
use Rattle.dscript_types_known.specs.Tables.{IsClosedTo}
use Rattle.dscript_types_known.specs.Views.{locals_at}
use Rattle.dscript_types_meaning.specs.Contexts.{Context, Known, Types}
use Rattle.dscript_types_meaning.specs.Typed.{known_within}
use Rattle.dscript_types_notes.specs.Means.{IsAt, program_of}
use Rattle.dscript_types_notes.specs.declared.world.World.{World}
use Rattle.dscript_types_scenes.specs.Typings.{TypesTo}
use Rattle.dscript_types_scenes.specs.declared.found.Typing.{Typing}
use Rattle.dscript_types_scenes.specs.declared.scene.Scene.{Scene}

-- ## Scenes

-- the context is at the place of the scene, and the locals that are found are those that it has
pub record Matches (closed : Type 0) (n : ℕ) (scene : Scene) (c : Context) : Type 0 where
  pub place : IsAt scene.place c
  pub locals : LocalsMatch closed n (locals_at scene.locals) c

pub record IsSameScene (scene copy : Scene) : Type 0 where
  pub place : copy.place ≡ scene.place
  pub locals : (number : ℕ) → locals_at copy.locals number ≡ locals_at scene.locals number

-- with another local of a number
abbrev pub with_found : FoundLocals → ℕ → FoundLocal → FoundLocals
with_found locals number local other = if other == number then Some local else locals other

pub record IsSceneWith (scene : Scene) (number : ℕ) (local : FoundLocal) (new : Scene) : Type 0 where
  pub place : new.place ≡ scene.place
  pub locals : (other : ℕ) → locals_at new.locals other ≡ with_found (locals_at scene.locals) number local other

-- for the body of a callback one less may be looked into
abbrev pub IsBelow : World → Option World → Type 0
IsBelow w None = w.left ≡ 0
IsBelow w (Some new) =
    (new.program ≡ w.program) × (new.names ≡ w.names) × (new.table ≡ w.table) × (w.left ≡ suc new.left)

-- ## What is found there

-- nothing has a type that is still open, where this many may be looked into or fewer
abbrev pub Closed : World → ℕ → Type 0
Closed w n = IsClosedTo (program_of w) w.table.now n

-- A typing says what the rules answer in each context of the scene, however many may be looked into.
abbrev pub TypesAs
    : {X Y : Type 0} → (X → Y) → World → Scene → Typing X → (ProgramData → Known → Context → Types Y) → Type 0
TypesAs f w scene typing answer =
    (n more : ℕ) (c : Context) → n ≤ more → n ≤ w.left → Matches (Closed w more) n scene c
    → TypesTo f (program_of w) (Closed w more) n typing (answer (program_of w) (known_within (program_of w) n) c)

-- likewise a finding
abbrev pub FindsAs
    : {X : Type 0} → World → Scene → Finding X → (ProgramData → Known → Context → Option X) → Type 0
FindsAs w scene finding answer =
    (n more : ℕ) (c : Context) → n ≤ more → n ≤ w.left → Matches (Closed w more) n scene c
    → Tells (Closed w more) n finding (answer (program_of w) (known_within (program_of w) n) c)

-- the scene is that of another context
abbrev pub GoesTo : World → Scene → Scene → (ProgramData → Known → Context → Context) → Type 0
GoesTo w scene new context =
    (n more : ℕ) (c : Context) → n ≤ more → n ≤ w.left → Matches (Closed w more) n scene c
    → Matches (Closed w more) n new (context (program_of w) (known_within (program_of w) n) c)

-- what hangs on no place
abbrev pub FindsAnywhere : {X : Type 0} → World → Finding X → (ProgramData → Known → Option X) → Type 0
FindsAnywhere w finding answer =
    (n more : ℕ) → n ≤ more → n ≤ w.left
    → Tells (Closed w more) n finding (answer (program_of w) (known_within (program_of w) n))

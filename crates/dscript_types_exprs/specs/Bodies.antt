-- What bodies and declarations come to.
use Rattle.std.specs.List.{list_all}
use Rattle.std.specs.Prelude.{◌≤◌, ℕ, List, Option, [], suc}
use Rattle.dscript_program.specs.ProgramData.{DeclData, FunctionData, ProgramData}
use Rattle.dscript_types_meaning.specs.Bodies.{Use}
use Rattle.dscript_types_meaning.specs.Contexts.{Context, Known}
use Rattle.dscript_types_meaning.specs.Functions.{declared_locals}
use Rattle.dscript_types_meaning.specs.Typed.{decl_has_types, has_type, known_within}
use Rattle.dscript_types_notes.specs.Means.{IsAt, program_of}
use Rattle.dscript_types_notes.specs.declared.world.Place.{Place}
use Rattle.dscript_types_notes.specs.declared.world.World.{World}
use Rattle.dscript_types_scenes.specs.Scenes.{Closed, Matches}
use Rattle.dscript_types_scenes.specs.Typings.{FromOn}
use Rattle.dscript_types_scenes.specs.declared.scene.Scene.{Scene}
use Rattle.dscript_types_scenes.specs.declared.walk.Walk.{Walk}
use Rattle.dscript_types_exprs.specs.Walks.{IsWalk}

-- a walk over these alone
abbrev pub WalkedAs : World → Scene → Walk → (ProgramData → Known → Context → List Use) → Type 0
WalkedAs w scene walk uses =
    (n more : ℕ) (c : Context) → n ≤ more → n ≤ w.left → Matches (Closed w more) n scene c
    → IsWalk (program_of w) (Closed w more) n (uses (program_of w) (known_within (program_of w) n) c) walk

-- from this number on each of these has a type where it stands, if nothing has one that is still open
abbrev pub IsRightAs : World → Scene → Option ℕ → (ProgramData → Known → Context → List Use) → Type 0
IsRightAs w scene right uses =
    (n more : ℕ) (c : Context) → n ≤ more → n ≤ w.left → Matches (Closed w more) n scene c → Closed w more
    → FromOn right n (list_all (has_type (program_of w) (suc n)) (uses (program_of w) (known_within (program_of w) n) c))

-- the same at a place, without locals
abbrev pub IsRightIn : World → Place → Option ℕ → (ProgramData → Known → Context → List Use) → Type 0
IsRightIn w place right uses =
    (n more : ℕ) (c : Context) → n ≤ more → n ≤ w.left → IsAt place c → Closed w more
    → FromOn right n (list_all (has_type (program_of w) (suc n)) (uses (program_of w) (known_within (program_of w) n) (record c { locals = [] })))

-- from this number on each expression of a declaration has a type, if nothing has one that is still open
abbrev pub DeclIsRight : World → ℕ → DeclData → Option ℕ → Type 0
DeclIsRight w file d right =
    (n : ℕ) → n ≤ w.left → Closed w n → FromOn right n (decl_has_types (program_of w) n file d)

-- the context of the body of a function that is declared in a context
abbrev pub in_function : ProgramData → Known → Context → FunctionData → Context
in_function p known c f = record c { locals = declared_locals p known c f.first_local f.params }

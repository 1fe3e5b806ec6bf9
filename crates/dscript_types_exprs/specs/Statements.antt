-- Statements and the locals that they declare.
use Rattle.std.specs.Prelude.{◌∷◌, ◌≤◌, ℕ, List, None, Option, Some, []}
use Rattle.dscript_ast.specs.TypeTree.{TypeTree}
use Rattle.dscript_program.specs.BoundTree.{ExprData}
use Rattle.dscript_program.specs.ProgramData.{ProgramData}
use Rattle.dscript_types_known.specs.Matching.{LocalsMatch}
use Rattle.dscript_types_known.specs.Views.{found_local, locals_at}
use Rattle.dscript_types_known.specs.declared.locals.Local.{Local}
use Rattle.dscript_types_meaning.specs.Bodies.{Spot, Use, type_of_value, type_without_value, use_at}
use Rattle.dscript_types_meaning.specs.Contexts.{Context, Known}
use Rattle.dscript_types_meaning.specs.Typed.{known_within}
use Rattle.dscript_types_meaning.specs.Types.{TypeData}
use Rattle.dscript_types_notes.specs.Means.{IsAt, program_of}
use Rattle.dscript_types_notes.specs.declared.world.World.{World}
use Rattle.dscript_types_scenes.specs.Scenes.{Closed, Matches, with_found}
use Rattle.dscript_types_scenes.specs.declared.scene.Scene.{Scene}

abbrev pub use_of : Context → Spot → ExprData → List Use
use_of c spot e = use_at c spot e ∷ []

-- a value where there may be none
abbrev pub value_uses : Context → Spot → Option ExprData → List Use
value_uses c spot None = []
value_uses c spot (Some e) = use_of c spot e

-- a variable, with its value if it has one
abbrev pub type_of_variable : ProgramData → Known → Context → Option TypeTree → Option ExprData → Option TypeData
type_of_variable p known c annotation None = type_without_value p known c annotation
type_of_variable p known c annotation (Some e) = type_of_value p known c e annotation

-- the scene with the local that was declared, if one was, is that of another context
abbrev pub GoesToWith : World → Scene → Option (ℕ × Local) → (ProgramData → Known → Context → Context) → Type 0
GoesToWith w scene None context =
    (n more : ℕ) (c : Context) → n ≤ more → n ≤ w.left → Matches (Closed w more) n scene c
    → Matches (Closed w more) n scene (context (program_of w) (known_within (program_of w) n) c)
GoesToWith w scene (Some added) context =
    (n more : ℕ) (c : Context) → n ≤ more → n ≤ w.left → Matches (Closed w more) n scene c
    → IsAt scene.place (context (program_of w) (known_within (program_of w) n) c)
    × LocalsMatch (Closed w more) n (with_found (locals_at scene.locals) added.0 (found_local added.1))
    (context (program_of w) (known_within (program_of w) n) c)

-- What a walk over a body promises.
use Rattle.std.specs.List.{list_all}
use Rattle.std.specs.Prelude.{◌++◌, ◌≤◌, ℕ, List, filter_map, suc}
use Rattle.dscript_program.specs.ProgramData.{ProgramData}
use Rattle.dscript_types_known.specs.Findings.{Tells}
use Rattle.dscript_types_meaning.specs.Bodies.{Use, all_types, if_returned}
use Rattle.dscript_types_meaning.specs.Contexts.{Context, Known}
use Rattle.dscript_types_meaning.specs.Typed.{has_type, known_within}
use Rattle.dscript_types_notes.specs.Means.{program_of}
use Rattle.dscript_types_notes.specs.declared.world.World.{World}
use Rattle.dscript_types_scenes.specs.Scenes.{Closed, Matches}
use Rattle.dscript_types_scenes.specs.Typings.{FromOn}
use Rattle.dscript_types_scenes.specs.Walks.{finding_types}
use Rattle.dscript_types_scenes.specs.declared.scene.Scene.{Scene}
use Rattle.dscript_types_scenes.specs.declared.walk.Walk.{Walk}

-- The walk has the types of what is returned among these, and from which number on each of these has a type where it
-- stands.
pub record IsWalk (p : ProgramData) (closed : Type 0) (n : ℕ) (uses : List Use) (walk : Walk) : Type 0 where
  pub returns : Tells closed n (finding_types walk.returns)
      (all_types p (known_within p n) (filter_map if_returned uses))
  pub right : closed → FromOn walk.right n (list_all (has_type p (suc n)) uses)

-- the walk goes on over these
abbrev pub Walks : World → Scene → Walk → Walk → (ProgramData → Known → Context → List Use) → Type 0
Walks w scene old new uses =
    (n more : ℕ) (c : Context) (before : List Use) → n ≤ more → n ≤ w.left → Matches (Closed w more) n scene c
    → IsWalk (program_of w) (Closed w more) n before old
    → IsWalk (program_of w) (Closed w more) n (before ++ uses (program_of w) (known_within (program_of w) n) c) new

-- Variables without a value, and numbers that are read from a list.
use Rattle.std.proofs.Common.{◌<◌, ◌∙◌, ◌∷◌, ◌≡◌, ℕ, List, None, Option, Some, [], ap, arith, get_or, length, refl, suc, sym, zero}
use Rattle.dscript_ast.specs.TypeTree.{TypeTree}
use Rattle.dscript_types_known.specs.Findings.{Found}
use Rattle.dscript_types_meaning.specs.Bodies.{type_without_value}
use Rattle.dscript_types_meaning.specs.Typed.{known_within}
use Rattle.dscript_types_meaning.specs.Types.{TypeData}
use Rattle.dscript_types_meaning.specs.Unions.{undefined_type}
use Rattle.dscript_types_notes.specs.Means.{program_of}
use Rattle.dscript_types_notes.specs.declared.world.World.{World}
use Rattle.dscript_types_scenes.specs.Scenes.{FindsAs}
use Rattle.dscript_types_scenes.specs.declared.scene.Scene.{Scene}

-- without an annotation
pub undefined_found
    : (w : World) (scene : Scene) (note : Option TypeTree) (t : TypeData) → note ≡ None → t ≡ undefined_type
    → FindsAs w scene (Found t 0) (λ p known c. type_without_value p known c note)
undefined_found w scene note t none is n more c below within m = (
  λ l.
      ap (λ (o : Option TypeTree). type_without_value (program_of w) (known_within (program_of w) n) c o) none
      ∙ ap (λ (u : TypeData). Some u) (sym is),
  λ l. absurd (omega arith),
)

-- what is read with another default
pub read_again : (xs : List ℕ) (i d : ℕ) → i < length xs → get_or xs i d ≡ get_or xs i (get_or xs i d)
read_again [] i d l = absurd (omega (arith, l))
read_again (x ∷ xs) zero d l = refl
read_again (x ∷ xs) (suc i) d l = read_again xs i d (omega (arith, l))

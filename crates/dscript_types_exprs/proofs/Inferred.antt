-- What bodies answer.
use Rattle.std.proofs.Common.{◌++◌, ◌≡◌, ℕ, Bool, List, None, Option, Some, [], ap, arith, refl, subst, suc, sym}
use Rattle.std.specs.List.{filter_map, list_all}
use Rattle.std.specs.Option.{option_and_then}
use Rattle.dscript_program.specs.BoundTree.{BodyData}
use Rattle.dscript_program.specs.ProgramData.{ProgramData}
use Rattle.dscript_types_known.specs.Findings.{Finding, Found, Nothing, Open, Tells}
use Rattle.dscript_types_meaning.specs.Bodies.{Use, all_types, body_uses, if_ends, if_returned, inferred, may_end}
use Rattle.dscript_types_meaning.specs.Contexts.{Context, Known}
use Rattle.dscript_types_meaning.specs.Sizes.{within_limit}
use Rattle.dscript_types_meaning.specs.Typed.{has_type, known_within}
use Rattle.dscript_types_meaning.specs.Types.{TypeData}
use Rattle.dscript_types_meaning.specs.Unions.{join_all}
use Rattle.dscript_types_notes.specs.Means.{program_of}
use Rattle.dscript_types_notes.specs.declared.world.World.{World}
use Rattle.dscript_types_scenes.proofs.Scening.{tells_if}
use Rattle.dscript_types_scenes.specs.Functions.{inferred_from}
use Rattle.dscript_types_scenes.specs.Scenes.{Closed, FindsAs}
use Rattle.dscript_types_scenes.specs.Typings.{FromOn}
use Rattle.dscript_types_scenes.specs.Walks.{finding_types}
use Rattle.dscript_types_scenes.specs.declared.scene.Scene.{Scene}
use Rattle.dscript_types_scenes.specs.declared.walk.Walk.{Walk}
use Rattle.dscript_types_exprs.specs.Bodies.{IsRightAs, WalkedAs}
use Rattle.dscript_types_exprs.specs.Walks.{Walks}

module _ (closed : Type 0) (n : ℕ) (ends : Bool) where
  abbrev joined : List TypeData → Option TypeData
  joined types = within_limit (join_all (if_ends ends ++ types))

  pub inferred_tells
      : (f : Finding (List TypeData)) (o : Option (List TypeData)) → Tells closed n f o
      → Tells closed n (inferred_from ends f) (option_and_then joined o)
  inferred_tells (Found types rank) o tells =
      tells_if closed n rank (joined types) (option_and_then joined o) (λ l. ap (option_and_then joined) (tells.0 l))
      (λ l. ap (option_and_then joined) (tells.1 l))
  inferred_tells Nothing o tells = ap (option_and_then joined) tells
  inferred_tells Open o tells = λ c. ap (option_and_then joined) (tells c)

-- a walk over a body says what it answers, and from which number on all in it is right
module _ (w : World) (scene : Scene) (walk : Walk) (body : BodyData)
    (walked : WalkedAs w scene walk (λ p known c. body_uses p known None c body)) where
  pub body_answers
      : FindsAs w scene (inferred_from (may_end body) (finding_types walk.returns)) (λ p known c. inferred p known c body)
  unfolding inferred
  body_answers n more c below within m =
      let p = program_of w in let known = known_within p n in
      inferred_tells (Closed w more) n (may_end body) (finding_types walk.returns)
      (all_types p known (filter_map if_returned (body_uses p known None c body))) (walked n more c below within m).returns

  pub body_is_right : IsRightAs w scene walk.right (λ p known c. body_uses p known None c body)
  body_is_right n more c below within m closed = (walked n more c below within m).right closed

-- a walk from nothing
pub walks_from_nothing
    : (w : World) (scene : Scene) (old new : Walk) (uses : ProgramData → Known → Context → List Use)
    → finding_types old.returns ≡ Found [] 0 → old.right ≡ Some 0 → Walks w scene old new uses → WalkedAs w scene new uses
walks_from_nothing w scene old new uses returns right walks n more c below within m =
    walks n more c [] below within m (record {
      returns =
          subst (λ (f : Finding (List TypeData)). Tells (Closed w more) n f (Some [])) (sym returns)
          (λ l. refl, λ l. absurd (omega arith));
      right = λ closed. subst (λ (r : Option ℕ). FromOn r n (list_all (has_type (program_of w) (suc n)) [])) (sym right)
          (λ l. refl, λ l. absurd (omega arith));
    })

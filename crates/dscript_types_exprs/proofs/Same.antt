-- What is said of one thing is said of what is the same.
use Rattle.std.proofs.Common.{◌∙◌, ◌≡◌, List, Option, Some, ap, subst}
use Rattle.std.specs.declared.alloc.Global.{Global}
use Rattle.std.specs.declared.vec.Vec.{Vec}
use Rattle.dscript_program.specs.BoundTree as tree
use Rattle.dscript_program.specs.BoundTree.{ExprData, HoleRow, PropData}
use Rattle.dscript_types_data.specs.Views.{fields_now}
use Rattle.dscript_types_data.specs.declared.types.Field.{Field}
use Rattle.dscript_types_known.specs.Findings.{Finding}
use Rattle.dscript_types_known.specs.declared.finding.Finding.{Finding as AnyFinding}
use Rattle.dscript_types_meaning.specs.Expressions as rules
use Rattle.dscript_types_meaning.specs.Functions.{callback_answer}
use Rattle.dscript_types_meaning.specs.Types.{FieldData, TypeData}
use Rattle.dscript_types_notes.specs.declared.world.World.{World}
use Rattle.dscript_types_scenes.specs.Scenes.{TypesAs}
use Rattle.dscript_types_scenes.specs.Subjects.{is_whole, only_found}
use Rattle.dscript_types_scenes.specs.Walks.{finding_types, returned}
use Rattle.dscript_types_scenes.specs.declared.found.Seen.{Seen}
use Rattle.dscript_types_scenes.specs.declared.found.Subject.{Subject}
use Rattle.dscript_types_scenes.specs.declared.found.Typing.{Typing}
use Rattle.dscript_types_scenes.specs.declared.scene.Scene.{Scene}
use Rattle.dscript_types_exprs.proofs.Choosing.{typed_as}
use Rattle.dscript_types_exprs.specs.Parts.{nothing}

-- a value after what was seen
pub whole_with
    : (o : Option TypeData) (x y : Seen) (t : Typing Subject) → t ≡ is_whole (only_found o x) → x ≡ y → t ≡ is_whole (only_found o y)
whole_with o x y t is same = is ∙ ap (λ (s : Seen). is_whole (only_found o s)) same

-- what is returned after other types
pub added_as
    : (x : Finding (List TypeData)) (a b : AnyFinding (Vec TypeData Global)) (f : Typing TypeData)
    → x ≡ returned (finding_types a) f → a ≡ b → x ≡ returned (finding_types b) f
added_as x a b f is same = is ∙ ap (λ (r : AnyFinding (Vec TypeData Global)). returned (finding_types r) f) same

module _ (w : World) (scene : Scene) where
  -- the first hole of a literal
  pub literal_as
      : (found : Typing (Unit {0})) (u v : TypeData) (hs : HoleRow) → u ≡ v
      → TypesAs nothing w scene found (λ p known c. rules.literal_fits p known c u hs)
      → TypesAs nothing w scene found (λ p known c. rules.literal_fits p known c v hs)
  literal_as found u v hs same says =
      subst (λ (t : TypeData). TypesAs nothing w scene found (λ p known c. rules.literal_fits p known c t hs)) same says

  -- a property
  pub property_as
      : (found : Typing (Vec Field Global)) (done : List FieldData) (r s : PropData) → r ≡ s
      → TypesAs fields_now w scene found (λ p known c. rules.fields p known c (tree.more_props r tree.no_props) done)
      → TypesAs fields_now w scene found (λ p known c. rules.fields p known c (tree.more_props s tree.no_props) done)
  property_as found done r s same says =
      subst
      (λ (q : PropData). TypesAs fields_now w scene found (λ p known c. rules.fields p known c (tree.more_props q tree.no_props) done))
      same says

  -- what a callback gets
  pub answer_as
      : (found : Typing TypeData) (e : ExprData) (ts us : List TypeData) → ts ≡ us
      → TypesAs typed_as w scene found (λ p known c. callback_answer p known c (Some e) ts)
      → TypesAs typed_as w scene found (λ p known c. callback_answer p known c (Some e) us)
  answer_as found e ts us same says =
      subst (λ (gs : List TypeData). TypesAs typed_as w scene found (λ p known c. callback_answer p known c (Some e) gs)) same says

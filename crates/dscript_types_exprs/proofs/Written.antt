-- Expressions, node by node.
use Rattle.std.proofs.Common.{◌≡◌, Err, IfOk, None, Ok, Result, Some, subst, sym}
use Rattle.dscript_program.specs.BoundTree as tree
use Rattle.dscript_program.specs.BoundTree.{ExprData, PartRow}
use Rattle.dscript_program.specs.ProgramData.{ProgramData}
use Rattle.dscript_types_meaning.specs.Contexts.{Context, Known, Types}
use Rattle.dscript_types_meaning.specs.Expressions as rules
use Rattle.dscript_types_meaning.specs.Expressions.{subject}
use Rattle.dscript_types_meaning.specs.Typed.{known_within}
use Rattle.dscript_types_meaning.specs.Types.{TypeData}
use Rattle.dscript_types_notes.specs.Means.{program_of}
use Rattle.dscript_types_notes.specs.declared.world.World.{World}
use Rattle.dscript_types_scenes.proofs.Going.{at_once}
use Rattle.dscript_types_scenes.proofs.Values.{value_typed, whole_typed}
use Rattle.dscript_types_scenes.specs.Scenes.{Closed, TypesAs}
use Rattle.dscript_types_scenes.specs.Subjects.{is_whole, only_found, whole_of}
use Rattle.dscript_types_scenes.specs.Typings.{TypesTo, subject_data}
use Rattle.dscript_types_scenes.specs.declared.found.Subject.{Subject}
use Rattle.dscript_types_scenes.specs.declared.found.Subject.TheVariants as subjects
use Rattle.dscript_types_scenes.specs.declared.found.Typing.{Typing}
use Rattle.dscript_types_scenes.specs.declared.found.Typing.TheVariants as typings
use Rattle.dscript_types_scenes.specs.declared.scene.Scene.{Scene}
use Rattle.dscript_types_exprs.proofs.Choosing.{typed_as, value_of}
use Rattle.dscript_types_exprs.specs.Calls.{GoesOn}

-- a typing, as it is seen
pub as_found
    : {X Y : Type 0} (f : X → Y) (w : World) (scene : Scene) (answer : ProgramData → Known → Context → Types Y) (x y : Typing X)
    → x ≡ y → TypesAs f w scene x answer → TypesAs f w scene y answer
as_found {X} f w scene answer x y e says = subst (λ (z : Typing X). TypesAs f w scene z answer) e says

module _ (w : World) (scene : Scene) where
  -- what is found of a node
  abbrev pub subject_of : ExprData → ProgramData → Known → Context → Types rules.Subject
  subject_of e p known c = subject p known c e

  abbrev pub SubjectsAs : ExprData → Typing Subject → Type 0
  SubjectsAs e found = TypesAs subject_data w scene found (subject_of e)

  pub of_node
      : {M : Type 0} (d e : ExprData) (r : Result (Typing Subject) M) → d ≡ e → IfOk r (SubjectsAs d) → IfOk r (SubjectsAs e)
  of_node d e r same says = subst (λ (x : ExprData). IfOk r (SubjectsAs x)) same says

  pub of_a_kind
      : {M : Type 0} (e : ExprData) (t : TypeData) (r : Result (Typing Subject) M)
      → ((p : ProgramData) (known : Known) (c : Context) → subject p known c e ≡ rules.is t)
      → IfOk r (λ found. found ≡ is_whole (only_found (Some t) at_once)) → IfOk r (SubjectsAs e)
  of_a_kind e t (Ok found) is made = λ n more c below within m.
      let p = program_of w in let known = known_within p n in
      subst (λ (f : Typing Subject). TypesTo subject_data p (Closed w more) n f (subject p known c e)) (sym made)
      (subst (λ (o : Types rules.Subject). TypesTo subject_data p (Closed w more) n (typings.Found (subjects.Whole t) at_once) o)
      (sym (is p known c)) (value_typed p (Closed w more) n t))
  of_a_kind e t (Err fault) is made = tt

  -- what comes to nothing
  pub no_node
      : (d e : ExprData) → d ≡ e → ((p : ProgramData) (known : Known) (c : Context) → subject p known c d ≡ None)
      → SubjectsAs e typings.Nothing
  no_node d e same none =
      subst (λ (x : ExprData). SubjectsAs x typings.Nothing) same (λ n more c below within m. none _ _ c)

  -- the parts after a subject
  pub parts_after
      : (e : ExprData) (parts : PartRow) (found end : Typing Subject) → SubjectsAs e found
      → GoesOn subject_data w scene found end (λ p known c s. rules.after p known c parts s)
      → SubjectsAs (tree.Postfix e parts) end
  unfolding subject
  parts_after e parts found end says goes n more c below within m =
      goes n more c below within m (subject (program_of w) (known_within (program_of w) n) c e) (says n more c below within m)

  -- a subject as a value
  pub as_value
      : (e : ExprData) (found : Typing Subject) (typing : Typing TypeData) → SubjectsAs e found → typing ≡ whole_of found
      → TypesAs typed_as w scene typing (value_of e)
  as_value e found typing says is n more c below within m =
      let p = program_of w in let known = known_within p n in
      subst (λ (t : Typing TypeData). TypesTo typed_as p (Closed w more) n t (value_of e p known c)) (sym is)
      (whole_typed p (Closed w more) n found (subject p known c e) (says n more c below within m))

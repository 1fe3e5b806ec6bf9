-- Calls, by what is called.
use Rattle.std.proofs.Common.{◌∙◌, ◌≡◌, ℕ, Bool, List, None, Option, Some, ap, inl, inr, refl, subst, sym, true}
use Rattle.std.proofs.lemmas.Bool.{cases_lt}
use Rattle.std.specs.declared.alloc.Global.{Global}
use Rattle.std.specs.declared.vec.Vec.{Vec}
use Rattle.dscript_program.specs.BoundTree.{ExprData, ExprRow, OperandRow}
use Rattle.dscript_program.specs.ProgramData.{ProgramData}
use Rattle.dscript_program.specs.declared.ambient.Ambient.{Ambient as AmbientCall}
use Rattle.dscript_program.specs.declared.target.Target.{Target}
use Rattle.dscript_sdk_members.specs.Names.{member_named}
use Rattle.dscript_sdk_members.specs.declared.member.Member.{Member}
use Rattle.dscript_types_meaning.specs.Access.{method_type}
use Rattle.dscript_types_meaning.specs.Ambients.{ambient_type}
use Rattle.dscript_types_meaning.specs.Bodies.{Alone, is_right_at}
use Rattle.dscript_types_meaning.specs.Contexts.{◌>>=◌, Context, Known, Types, only}
use Rattle.dscript_types_meaning.specs.Expressions as rules
use Rattle.dscript_types_meaning.specs.Expressions.{arguments, first_of, further_arguments, if_callback, is, member_call, named, subject_call}
use Rattle.dscript_types_meaning.specs.Functions.{callback_type, function_type, given_to}
use Rattle.dscript_types_meaning.specs.Narrowing.{following, outcome_of}
use Rattle.dscript_types_meaning.specs.Typed.{known_within}
use Rattle.dscript_types_meaning.specs.Types.{TypeData}
use Rattle.dscript_types_meaning.specs.Unions.{items_of}
use Rattle.dscript_types_notes.specs.Means.{program_of}
use Rattle.dscript_types_notes.specs.declared.world.World.{World}
use Rattle.dscript_types_scenes.proofs.Going.{part_by_part}
use Rattle.dscript_types_scenes.proofs.Ruling.{always_met}
use Rattle.dscript_types_scenes.proofs.Values.{whole_typed}
use Rattle.dscript_types_scenes.specs.Functions.{types_in}
use Rattle.dscript_types_scenes.specs.Scenes.{Closed, GoesTo, TypesAs}
use Rattle.dscript_types_scenes.specs.Subjects.{whole_of}
use Rattle.dscript_types_scenes.specs.Typings.{TypesTo, subject_data}
use Rattle.dscript_types_scenes.specs.Walks.{RulesAs}
use Rattle.dscript_types_scenes.specs.declared.found.Seen.{Seen}
use Rattle.dscript_types_scenes.specs.declared.found.Subject.{Subject}
use Rattle.dscript_types_scenes.specs.declared.found.Typing.{Typing}
use Rattle.dscript_types_scenes.specs.declared.found.Typing.TheVariants as typings
use Rattle.dscript_types_scenes.specs.declared.scene.Scene.{Scene}
use Rattle.dscript_types_scenes.specs.declared.walk.Rule.TheVariants as met
use Rattle.dscript_types_exprs.proofs.Choosing.{typed_as}
use Rattle.dscript_types_exprs.specs.Calls.{GoesOn, SeesOn, ambient_subject, call_subject, callback_subject, function_subject, method_subject}

-- ## After something that was found

-- that something was there
unit_of : Types rules.Subject → Types (Unit {0})
unit_of None = None
unit_of (Some r) = Some (tt, r.1)

module _ (w : World) (scene : Scene) (s : Subject) (seen : Seen) (end : Typing Subject)
    (answer : ProgramData → Known → Context → rules.Subject → Types rules.Subject) where
  pub goes_seen
      : SeesOn w scene seen end (λ p known c. answer p known c (subject_data s))
      → GoesOn subject_data w scene (typings.Found s seen) end answer
  unfolding unit_of
  goes_seen sees n more c below within m before found =
      let p = program_of w in let known = known_within p n in
      subst (λ (o : Types rules.Subject). TypesTo subject_data p (Closed w more) n end o) (sym (same n more c before found))
      (sees n more c below within m (unit_of before)
      (λ l. let b = found.0 l in (b.0, ap unit_of b.1, b.2), λ l. ap unit_of (found.1 l)))
    where
      same
          : (n more : ℕ) (c : Context) (before : Types rules.Subject)
          → TypesTo subject_data (program_of w) (Closed w more) n (typings.Found s seen) before
          → (before >>= answer (program_of w) (known_within (program_of w) n) c)
          ≡ (unit_of before >>= λ u. answer (program_of w) (known_within (program_of w) n) c (subject_data s))
      same n more c before found =
          let k = answer (program_of w) (known_within (program_of w) n) c in
          elim (cases_lt n seen.rank) [
            | inl l ↦ ap (λ o. o >>= k) (found.1 l) ∙ sym (ap (λ o. unit_of o >>= λ u. k (subject_data s)) (found.1 l))
            | inr l ↦
                let b = found.0 l in
                ap (λ o. o >>= k) b.1 ∙ sym (ap (λ o. unit_of o >>= λ u. k (subject_data s)) b.1)
          ]

module _ (w : World) (scene : Scene) (seen : Seen) (end : Typing Subject) where
  sees_as
      : (f g : ProgramData → Known → Context → Types rules.Subject)
      → ((p : ProgramData) (known : Known) (c : Context) → f p known c ≡ g p known c) → SeesOn w scene seen end f
      → SeesOn w scene seen end g
  sees_as f g same sees n more c below within m before found =
      subst (λ (o : Types rules.Subject). TypesTo subject_data (program_of w) (Closed w more) n end (before >>= λ u. o))
      (same (program_of w) (known_within (program_of w) n) c) (sees n more c below within m before found)

  module _ (es : ExprRow) where
    -- by the member of a name that calls functions, or as one that calls none
    abbrev pub member_subject : ProgramData → Known → Context → TypeData → List ℕ → Option Member → Types rules.Subject
    member_subject p known c t name None = method_subject p known c t name es
    member_subject p known c t name (Some member) = callback_subject p known c member t es

    called_member
        : (p : ProgramData) (known : Known) (c : Context) (t : TypeData) (name : List ℕ) (o : Option Member)
        → member_subject p known c t name o
        ≡ (member_call p known c t name (first_of es) (arguments p known c es) (further_arguments p known c es) o >>= is)
    called_member p known c t name None =
        sym (part_by_part (arguments p known c es) (λ given. only (method_type t name given)) is)
    called_member p known c t name (Some member) =
        sym (part_by_part (further_arguments p known c es) (λ given. callback_type p known member c t (first_of es) given) is)

    pub named_call
        : (t : TypeData) (name : List ℕ) (o : Option Member) → o ≡ if_callback (member_named name)
        → SeesOn w scene seen end (λ p known c. member_subject p known c t name o)
        → SeesOn w scene seen end (λ p known c. call_subject p known c es (rules.Named t name))
    unfolding subject_call
    named_call t name o e sees =
        sees_as (λ p known c. member_subject p known c t name o) (λ p known c. call_subject p known c es (rules.Named t name))
        (λ p known c. called_member p known c t name o
        ∙ ap (λ q. member_call p known c t name (first_of es) (arguments p known c es) (further_arguments p known c es) q >>= is) e)
        sees

    pub declared_call
        : (file decl : ℕ) → SeesOn w scene seen end (λ p known c. function_subject p known c file decl es)
        → SeesOn w scene seen end (λ p known c. call_subject p known c es (rules.Function file decl))
    unfolding subject_call
    declared_call file decl sees =
        sees_as (λ p known c. function_subject p known c file decl es) (λ p known c. call_subject p known c es (rules.Function file decl))
        (λ p known c. sym (part_by_part (arguments p known c es) (λ given. only (function_type p known file decl given)) is)) sees

    pub ambient_called
        : (call : AmbientCall) → SeesOn w scene seen end (λ p known c. ambient_subject p known c call es)
        → SeesOn w scene seen end (λ p known c. call_subject p known c es (rules.Ambient call))
    unfolding subject_call
    ambient_called call sees =
        sees_as (λ p known c. ambient_subject p known c call es) (λ p known c. call_subject p known c es (rules.Ambient call))
        (λ p known c. sym (part_by_part (arguments p known c es) (λ given. only (ambient_type call given)) is)) sees

abbrev no_subject : Types rules.Subject
no_subject = None

then_nothing : (o : Types (Unit {0})) → (o >>= λ u. no_subject) ≡ no_subject
then_nothing None = refl
then_nothing (Some r) = refl

-- a value is no function
pub value_call
    : (w : World) (scene : Scene) (seen : Seen) (es : ExprRow) (t : TypeData)
    → SeesOn w scene seen typings.Nothing (λ p known c. call_subject p known c es (rules.Whole t))
unfolding subject_call
value_call w scene seen es t n more c below within m before found = then_nothing before

pub given_is
    : (member : Member) (t item : TypeData) (types slice : List TypeData) (o : Option (Vec TypeData Global)) → item ≡ items_of t
    → slice ≡ types → types_in o ≡ given_to member item slice → given_to member (items_of t) types ≡ types_in o
given_is member t item types slice o items same gets =
    sym (gets ∙ ap (λ i. given_to member i slice) items ∙ ap (given_to member (items_of t)) same)

pub name_as_value
    : (w : World) (scene : Scene) (target : Target) (found : Typing Subject) (typing : Typing TypeData)
    → TypesAs subject_data w scene found (λ p known c. named p known c target) → typing ≡ whole_of found
    → TypesAs typed_as w scene typing (λ p known c. rules.typed (named p known c target))
name_as_value w scene target found typing says e n more c below within m =
    let p = program_of w in let known = known_within p n in
    subst (λ (t : Typing TypeData). TypesTo typed_as p (Closed w more) n t (rules.typed (named p known c target))) (sym e)
    (whole_typed p (Closed w more) n found (named p known c target) (says n more c below within m))

pub following_as
    : (w : World) (here new : Scene) (left : ExprData) (more : OperandRow) (outcome : Option Bool) → outcome ≡ outcome_of more
    → GoesTo w here new (λ p known c. following outcome left c) → GoesTo w here new (λ p known c. following (outcome_of more) left c)
following_as w here new left more outcome e goes =
    subst (λ (o : Option Bool). GoesTo w here new (λ p known c. following o left c)) e goes

-- any type may stand by itself
pub any_rule
    : (w : World) (scene : Scene) (found : Typing TypeData)
    → RulesAs w scene found (met.Met 0) (λ p known c t. is_right_at p known c Alone t)
any_rule w scene (typings.Found t seen) = λ n more c below within m. always_met (Closed w more) n true refl
any_rule w scene typings.Nothing = tt
any_rule w scene (typings.Open pending) = tt

-- Whether expressions meet the rules of their places, and what parameters take.
use Rattle.std.proofs.Common.{◌∙◌, ◌≡◌, ◌≤◌, ℕ, Bool, None, Option, Some, ap, arith, cond, false, if◌then◌else◌, inl, inr, refl, subst, sym, true}
use Rattle.std.proofs.lemmas.Bool.{cases_lt}
use Rattle.std.specs.Option.{option_and_then}
use Rattle.dscript_ast.specs.ExprTree.{ParamTree}
use Rattle.dscript_ast.specs.TypeTree.{TypeTree}
use Rattle.dscript_program.specs.ProgramData.{ProgramData}
use Rattle.dscript_types_known.specs.Findings.{Finding, Found, Nothing, Open, Tells}
use Rattle.dscript_types_known.specs.declared.finding.Pending.{Pending}
use Rattle.dscript_types_meaning.specs.Annotations.{meant}
use Rattle.dscript_types_meaning.specs.Bodies.{fits_note}
use Rattle.dscript_types_meaning.specs.Contexts.{Context, Known}
use Rattle.dscript_types_meaning.specs.Fits.{fits, fits_some}
use Rattle.dscript_types_meaning.specs.Functions.{given_parameter, noted}
use Rattle.dscript_types_meaning.specs.Sizes.{within_limit}
use Rattle.dscript_types_meaning.specs.Typed.{known_within}
use Rattle.dscript_types_meaning.specs.Types.{TypeData}
use Rattle.dscript_types_meaning.specs.Unions.{if_optional}
use Rattle.dscript_types_notes.specs.Means.{Says, found_if, program_of}
use Rattle.dscript_types_notes.specs.declared.world.World.{World}
use Rattle.dscript_types_scenes.proofs.Scening.{tells_if}
use Rattle.dscript_types_scenes.specs.Functions.{taken}
use Rattle.dscript_types_scenes.specs.Scenes.{Closed, FindsAs, Matches}
use Rattle.dscript_types_scenes.specs.Statements.{MeetsAs, fitting}
use Rattle.dscript_types_scenes.specs.Walks.{RuleSays, RulesAs}
use Rattle.dscript_types_scenes.specs.declared.found.Seen.{Seen}
use Rattle.dscript_types_scenes.specs.declared.found.Typing.{Typing}
use Rattle.dscript_types_scenes.specs.declared.found.Typing.TheVariants as typings
use Rattle.dscript_types_scenes.specs.declared.scene.Scene.{Scene}
use Rattle.dscript_types_scenes.specs.declared.walk.Rule.{Rule}
use Rattle.dscript_types_scenes.specs.declared.walk.Rule.TheVariants as rules

-- ## Rules

module _ (w : World) (scene : Scene) (met : ProgramData → Known → Context → TypeData → Bool) where
  -- of a type that was found
  pub rules_at
      : (found : Typing TypeData) (rule : Rule) → RulesAs w scene found rule met
      → (n more : ℕ) (c : Context) → n ≤ more → n ≤ w.left → Matches (Closed w more) n scene c
      → (t : TypeData) (seen : Seen) → found ≡ typings.Found t seen
      → RuleSays (Closed w more) n rule (met (program_of w) (known_within (program_of w) n) c t)
  rules_at (typings.Found u s) rule says n more c below within m t seen e =
      let same : u ≡ t = cc in
      subst (λ (v : TypeData). RuleSays (Closed w more) n rule (met (program_of w) (known_within (program_of w) n) c v)) same
      (says n more c below within m)
  rules_at typings.Nothing rule says n more c below within m t seen e =
      let fails : typings.Nothing ≡ typings.Found t seen = e in cc
  rules_at (typings.Open pending) rule says n more c below within m t seen e =
      let fails : typings.Open pending ≡ typings.Found t seen = e in cc

  pub rules_found
      : (t : TypeData) (seen : Seen) (found : Typing TypeData) (rule : Rule) → found ≡ typings.Found t seen
      → MeetsAs w scene rule (λ p known c. met p known c t) → RulesAs w scene found rule met
  rules_found t seen found rule is meets =
      subst (λ (f : Typing TypeData). RulesAs w scene f rule met) (sym is) meets

  pub rules_nothing : (found : Typing TypeData) (rule : Rule) → found ≡ typings.Nothing → RulesAs w scene found rule met
  rules_nothing found rule is = subst (λ (f : Typing TypeData). RulesAs w scene f rule met) (sym is) tt

  pub rules_open
      : (found : Typing TypeData) (rule : Rule) (a : Pending) → found ≡ typings.Open a → RulesAs w scene found rule met
  rules_open found rule a is = subst (λ (f : Typing TypeData). RulesAs w scene f rule met) (sym is) tt

-- a rule that is met anywhere
pub always_met : (closed : Type 0) (n : ℕ) (met : Bool) → met ≡ true → RuleSays closed n (rules.Met 0) met
always_met closed n met is = (λ l. is, λ l. absurd (omega arith))

-- ## Variables

by_fit : (closed : Type 0) (n rank : ℕ) (t u : TypeData) (o : Option TypeData) (fit : Bool) → fits t u ≡ fit
    → Tells closed n (Found u rank) o → RuleSays closed n (cond fit (rules.Met rank) rules.NotMet) (fits_some t o)
by_fit closed n rank t u o true e tells = (
  λ l. ap (fits_some t) (tells.0 l) ∙ e,
  λ l. ap (fits_some t) (tells.1 l),
)
by_fit closed n rank t u o false e tells = λ c. elim (cases_lt n rank) [
  | inl l ↦ ap (fits_some t) (tells.1 l)
  | inr l ↦ ap (fits_some t) (tells.0 l) ∙ e
]

pub fitting_says
    : (closed : Type 0) (n : ℕ) (f : Finding TypeData) (t : TypeData) (o : Option TypeData) → Tells closed n f o
    → RuleSays closed n (fitting f t) (fits_some t o)
fitting_says closed n (Found u rank) t o tells = by_fit closed n rank t u o (fits t u) refl tells
fitting_says closed n Nothing t o tells = λ c. ap (fits_some t) tells
fitting_says closed n Open t o tells = λ c. ap (fits_some t) (tells c)

-- what an annotation means, where it stands
pub finds_note
    : {X : Type 0} (w : World) (scene : Scene) (f : Finding X) (answer : ProgramData → Known → Context → Option X)
    → Says w scene.place f answer → FindsAs w scene f answer
finds_note w scene f answer says n more c below within m = says n more c below within m.place

-- ## Annotations

pub note_meets
    : (w : World) (scene : Scene) (t : TypeData) (node : TypeTree) (f : Finding TypeData) (rule : Rule)
    → Says w scene.place f (λ p known c. meant p known c node) → rule ≡ fitting f t
    → MeetsAs w scene rule (λ p known c. fits_note p known c t (Some node))
note_meets w scene t node f rule says is n more c below within m =
    subst (λ (r : Rule). RuleSays (Closed w more) n r (fits_some t (meant (program_of w) (known_within (program_of w) n) c node))) (sym is)
    (fitting_says (Closed w more) n f t (meant (program_of w) (known_within (program_of w) n) c node) (says n more c below within m.place))

pub no_note_meets : (w : World) (scene : Scene) (t : TypeData) → MeetsAs w scene (rules.Met 0) (λ p known c. fits_note p known c t None)
no_note_meets w scene t n more c below within m = always_met (Closed w more) n true refl

-- ## What a parameter of a callback is given

abbrev takes_given : TypeData → TypeData → Option TypeData
takes_given given u = if fits given u then Some u else None

by_taking
    : (closed : Type 0) (n rank : ℕ) (given u : TypeData) (o : Option TypeData) (fit : Bool) → fits given u ≡ fit
    → Tells closed n (Found u rank) o → Tells closed n (cond fit (Found u rank) Nothing) (option_and_then (takes_given given) o)
by_taking closed n rank given u o true e tells = (
  λ l. ap (option_and_then (takes_given given)) (tells.0 l) ∙ ap (λ b. cond b (Some u) None) e,
  λ l. ap (option_and_then (takes_given given)) (tells.1 l),
)
by_taking closed n rank given u o false e tells = elim (cases_lt n rank) [
  | inl l ↦ ap (option_and_then (takes_given given)) (tells.1 l)
  | inr l ↦ ap (option_and_then (takes_given given)) (tells.0 l) ∙ ap (λ b. cond b (Some u) None) e
]

taken_tells
    : (closed : Type 0) (n : ℕ) (given : TypeData) (f : Finding TypeData) (o : Option TypeData) → Tells closed n f o
    → Tells closed n (taken given f) (option_and_then (takes_given given) o)
taken_tells closed n given (Found u rank) o tells = by_taking closed n rank given u o (fits given u) refl tells
taken_tells closed n given Nothing o tells = ap (option_and_then (takes_given given)) tells
taken_tells closed n given Open o tells = λ c. ap (option_and_then (takes_given given)) (tells c)

module _ (w : World) (scene : Scene) (param : ParamTree) (given : TypeData) (note : Option TypeTree) where
  abbrev given_of : ProgramData → Known → Context → Option TypeData
  given_of p known c = given_parameter p known c param given note

  pub given_noted
      : (t : TypeTree) (noted_as f : Finding TypeData) → note ≡ Some t
      → Says w scene.place noted_as (λ p known c. noted p known c param.optional t) → f ≡ taken given noted_as
      → FindsAs w scene f given_of
  given_noted t noted_as f is says made n more c below within m =
      let p = program_of w in let known = known_within p n in
      subst (λ (g : Finding TypeData). Tells (Closed w more) n g (given_of p known c)) (sym made)
      (subst (λ (o : Option TypeTree). Tells (Closed w more) n (taken given noted_as) (given_parameter p known c param given o)) (sym is)
      (taken_tells (Closed w more) n given noted_as (noted p known c param.optional t) (says n more c below within m.place)))

  pub given_plain
      : (u : TypeData) (o : Option TypeData) (f : Finding TypeData) → note ≡ None → u ≡ if_optional param.optional given
      → o ≡ within_limit u → f ≡ found_if o 0 → FindsAs w scene f given_of
  given_plain u o f none plain limits made n more c below within m =
      let p = program_of w in let known = known_within p n in
      subst (λ (g : Finding TypeData). Tells (Closed w more) n g (given_of p known c)) (sym made)
      (tells_if (Closed w more) n 0 o (given_of p known c)
      (λ l. ap (given_parameter p known c param given) none ∙ sym (limits ∙ ap within_limit plain)) (λ l. absurd (omega arith)))

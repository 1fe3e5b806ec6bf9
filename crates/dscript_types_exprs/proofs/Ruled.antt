-- Values that meet the rules of variables, loops and annotations.
use Rattle.std.proofs.Common.{◌≡◌, ℕ, Bool, None, Option, Some, ap, cond, false, refl, subst, sym, true}
use Rattle.std.specs.Option.{option_and_then}
use Rattle.dscript_ast.specs.TypeTree.{TypeTree}
use Rattle.dscript_program.specs.BoundTree.{ExprData}
use Rattle.dscript_program.specs.ProgramData.{ProgramData}
use Rattle.dscript_types_known.specs.Findings.{Finding, Tells}
use Rattle.dscript_types_known.specs.Matching.{FoundLocal, LocalMatches}
use Rattle.dscript_types_known.specs.Views.{locals_at}
use Rattle.dscript_types_meaning.specs.Annotations.{meant}
use Rattle.dscript_types_meaning.specs.Bodies.{fits_note, item_of_list, type_in_loop, type_of_value}
use Rattle.dscript_types_meaning.specs.Contexts.{Captured, Fixed, Hold, Local, Types, Variable, bare, local_at, type_if_variable, variable_type}
use Rattle.dscript_types_meaning.specs.Fits.{fits_some}
use Rattle.dscript_types_meaning.specs.Typed.{known_within}
use Rattle.dscript_types_meaning.specs.Types.{TypeData}
use Rattle.dscript_types_meaning.specs.Unions.{is_list_type}
use Rattle.dscript_types_notes.specs.Means.{Says, program_of}
use Rattle.dscript_types_notes.specs.declared.world.World.{World}
use Rattle.dscript_types_scenes.proofs.Ruling.{always_met, finds_note, fitting_says, no_note_meets, note_meets}
use Rattle.dscript_types_scenes.proofs.Scening.{tells_if}
use Rattle.dscript_types_scenes.specs.Scenes.{Closed, FindsAs, TypesAs}
use Rattle.dscript_types_scenes.specs.Statements.{fitting_held, found_fitting, loop_items, loop_rule, variable_rule}
use Rattle.dscript_types_scenes.specs.Typings.{TypesTo, bare_finding}
use Rattle.dscript_types_scenes.specs.Walks.{RuleSays, RulesAs}
use Rattle.dscript_types_scenes.specs.declared.found.Seen.{Seen}
use Rattle.dscript_types_scenes.specs.declared.found.Typing.{Typing}
use Rattle.dscript_types_scenes.specs.declared.found.Typing.TheVariants as typings
use Rattle.dscript_types_scenes.specs.declared.scene.Scene.{Scene}
use Rattle.dscript_types_scenes.specs.declared.walk.Rule.{Rule}
use Rattle.dscript_types_scenes.specs.declared.walk.Rule.TheVariants as rules
use Rattle.dscript_types_exprs.proofs.Choosing.{typed_as, value_of}

held_says
    : (closed : Type 0) (n : ℕ) (hold : Hold) (f : Finding TypeData) (t : TypeData) (o : Option TypeData) → Tells closed n f o
    → RuleSays closed n (fitting_held hold f t) (fits_some t (type_if_variable hold o))
held_says closed n Fixed f t o tells = λ c. refl
held_says closed n Variable f t o tells = fitting_says closed n f t o tells
held_says closed n Captured f t o tells = λ c. refl

abbrev type_held : Option Local → Option TypeData
type_held k = option_and_then (λ (l : Local). type_if_variable l.hold l.type_data) k

local_says
    : (closed : Type 0) (n : ℕ) (f : Option FoundLocal) (k : Option Local) (t : TypeData) (seen : Seen) → LocalMatches closed n f k
    → RuleSays closed n (variable_rule f (typings.Found t seen)) (fits_some t (type_held k))
local_says closed n None None t seen m = λ c. refl
local_says closed n None (Some l) t seen m = absurd m
local_says closed n (Some f) None t seen m = absurd m
local_says closed n (Some f) (Some l) t seen m =
    subst (λ (hold : Hold). RuleSays closed n (fitting_held f.hold f.type_data t) (fits_some t (type_if_variable hold l.type_data)))
    m.0 (held_says closed n f.hold f.type_data t l.type_data m.1)

pub variable_says
    : (w : World) (scene : Scene) (number : ℕ) (found : Typing TypeData) (rule : Rule)
    → rule ≡ variable_rule (locals_at scene.locals number) found
    → RulesAs w scene found rule (λ p known c t. fits_some t (variable_type c number))
variable_says w scene number (typings.Found t seen) rule is = λ n more c below within m.
    subst (λ (r : Rule). RuleSays (Closed w more) n r (fits_some t (variable_type c number))) (sym is)
    (local_says (Closed w more) n (locals_at scene.locals number) (local_at c number) t seen (m.locals number))
variable_says w scene number typings.Nothing rule is = tt
variable_says w scene number (typings.Open pending) rule is = tt

-- ## Loops

by_list : (closed : Type 0) (n : ℕ) (b met : Bool) → met ≡ b → RuleSays closed n (cond b (rules.Met 0) rules.NotMet) met
by_list closed n true met e = always_met closed n met e
by_list closed n false met e = λ c. e

pub loop_says
    : (w : World) (scene : Scene) (found : Typing TypeData) (rule : Rule) → rule ≡ loop_rule found
    → RulesAs w scene found rule (λ p known c t. is_list_type t)
loop_says w scene (typings.Found t seen) rule is = λ n more c below within m.
    subst (λ (r : Rule). RuleSays (Closed w more) n r (is_list_type t)) (sym is)
    (by_list (Closed w more) n (is_list_type t) (is_list_type t) refl)
loop_says w scene typings.Nothing rule is = tt
loop_says w scene (typings.Open pending) rule is = tt

-- what is found without bodies
pub bare_tells
    : (p : ProgramData) (closed : Type 0) (n : ℕ) (found : Typing TypeData) (m : Types TypeData) → TypesTo typed_as p closed n found m
    → Tells closed n (bare_finding found) (bare m)
bare_tells p closed n (typings.Found t seen) m says = (λ l. ap bare (says.0 l).1, λ l. ap bare (says.1 l))
bare_tells p closed n typings.Nothing m says = ap bare says
bare_tells p closed n (typings.Open pending) m says = λ c. ap bare (says c)

items_tell
    : (closed : Type 0) (n : ℕ) (found : Typing TypeData) (o : Option TypeData) → Tells closed n (bare_finding found) o
    → Tells closed n (loop_items found) (option_and_then item_of_list o)
items_tell closed n (typings.Found t seen) o tells =
    tells_if closed n seen.rank (item_of_list t) (option_and_then item_of_list o) (λ l. ap (option_and_then item_of_list) (tells.0 l))
    (λ l. ap (option_and_then item_of_list) (tells.1 l))
items_tell closed n typings.Nothing o tells = ap (option_and_then item_of_list) tells
items_tell closed n (typings.Open pending) o tells = λ c. ap (option_and_then item_of_list) (tells c)

module _ (w : World) (scene : Scene) (e : ExprData) (found : Typing TypeData) (types : TypesAs typed_as w scene found (value_of e)) where
  pub items_found
      : (f : Finding TypeData) → f ≡ loop_items found → FindsAs w scene f (λ p known c. type_in_loop p known c e)
  items_found f is n more c below within m =
      let p = program_of w in let known = known_within p n in
      subst (λ (g : Finding TypeData). Tells (Closed w more) n g (type_in_loop p known c e)) (sym is)
      (items_tell (Closed w more) n found (bare (value_of e p known c))
      (bare_tells p (Closed w more) n found (value_of e p known c) (types n more c below within m)))

  -- ## Values of locals

  pub value_found
      : (note : Option TypeTree) (f : Finding TypeData) → note ≡ None → f ≡ bare_finding found
      → FindsAs w scene f (λ p known c. type_of_value p known c e note)
  value_found note f none is =
      subst (λ (o : Option TypeTree). FindsAs w scene f (λ p known c. type_of_value p known c e o)) (sym none)
      (λ n more c below within m.
      subst (λ (g : Finding TypeData). Tells (Closed w more) n g (bare (value_of e (program_of w) (known_within (program_of w) n) c)))
      (sym is)
      (bare_tells (program_of w) (Closed w more) n found (value_of e (program_of w) (known_within (program_of w) n) c)
      (types n more c below within m)))

pub noted_value
    : (w : World) (scene : Scene) (e : ExprData) (note : Option TypeTree) (t : TypeTree) (f : Finding TypeData) → note ≡ Some t
    → Says w scene.place f (λ p known c. meant p known c t) → FindsAs w scene f (λ p known c. type_of_value p known c e note)
noted_value w scene e note t f is says =
    subst (λ (o : Option TypeTree). FindsAs w scene f (λ p known c. type_of_value p known c e o)) (sym is)
    (finds_note w scene f (λ p known c. meant p known c t) says)

-- of what is found of a value
pub note_says
    : (w : World) (scene : Scene) (node : TypeTree) (f : Finding TypeData) (found : Typing TypeData) (rule : Rule)
    → Says w scene.place f (λ p known c. meant p known c node) → rule ≡ found_fitting found f
    → RulesAs w scene found rule (λ p known c t. fits_note p known c t (Some node))
note_says w scene node f (typings.Found t seen) rule says is = note_meets w scene t node f rule says is
note_says w scene node f typings.Nothing rule says is = tt
note_says w scene node f (typings.Open pending) rule says is = tt

pub no_note_says : (w : World) (scene : Scene) (found : Typing TypeData) → RulesAs w scene found (rules.Met 0) (λ p known c t. fits_note p known c t None)
no_note_says w scene (typings.Found t seen) = no_note_meets w scene t
no_note_says w scene typings.Nothing = tt
no_note_says w scene (typings.Open pending) = tt

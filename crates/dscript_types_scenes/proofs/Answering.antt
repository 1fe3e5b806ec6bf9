-- What functions get and answer.
use Rattle.std.proofs.Common.{◌+◌, ◌<◌, ◌∙◌, ◌∷◌, ◌≡◌, ◌≤◌, ℕ, List, None, Option, Some, [], ap, arith, false, get_or, length, map, max, refl, subst, suc, sym, zero}
use Rattle.std.proofs.lemmas.Option.{slice_get_read}
use Rattle.std.specs.Borrow.{Bor}
use Rattle.std.specs.List.{list_all, slice_get}
use Rattle.std.specs.Option.{IfSome, MatchOption, option_copied, option_map}
use Rattle.dscript_ast.specs.Views.{param_tree}
use Rattle.dscript_ast.specs.declared.expr.Param.{Param}
use Rattle.dscript_program.specs.ProgramData.{ProgramData}
use Rattle.dscript_program.specs.Views.{function_data}
use Rattle.dscript_program.specs.declared.program.Function.{Function}
use Rattle.dscript_program.specs.declared.target.Target.{Target}
use Rattle.dscript_sdk_members.specs.declared.member.Member.{Member}
use Rattle.dscript_sdk_members.specs.declared.member.Member.TheVariants as members
use Rattle.dscript_types_data.specs.Views.{member_data}
use Rattle.dscript_types_data.specs.declared.types.Member.{Member as TypeMember}
use Rattle.dscript_types_known.specs.Findings.{Finding}
use Rattle.dscript_types_known.specs.Views.{finding_data}
use Rattle.dscript_types_known.specs.declared.finding.Finding.{Finding as AnyFinding}
use Rattle.dscript_types_meaning.specs.Contexts.{Known, only}
use Rattle.dscript_types_meaning.specs.Expressions.{is}
use Rattle.dscript_types_meaning.specs.Functions.{all_parameters, by_answer, function_type, given_to}
use Rattle.dscript_types_meaning.specs.Lookups.{function_at}
use Rattle.dscript_types_meaning.specs.Operators.{number_type}
use Rattle.dscript_types_meaning.specs.Typed.{known_within}
use Rattle.dscript_types_meaning.specs.Types.{TypeData, members_of}
use Rattle.dscript_types_meaning.specs.Unions.{is_never}
use Rattle.dscript_types_notes.specs.Means.{Says, program_of}
use Rattle.dscript_types_notes.specs.declared.world.Place.{Place}
use Rattle.dscript_types_notes.specs.declared.world.World.{World}
use Rattle.dscript_types_scenes.proofs.Values.{finding_typed}
use Rattle.dscript_types_scenes.specs.Functions.{target_answer}
use Rattle.dscript_types_scenes.specs.Scenes.{Closed, FindsAnywhere, TypesAs}
use Rattle.dscript_types_scenes.specs.Subjects.{in_finding}
use Rattle.dscript_types_scenes.specs.declared.found.Seen.{Seen}
use Rattle.dscript_types_scenes.specs.declared.found.Typing.{Typing}
use Rattle.dscript_types_scenes.specs.declared.scene.Scene.{Scene}

abbrev pub typed_as : TypeData → TypeData
typed_as t = t

-- what is found anywhere
pub finds_typed
    : (w : World) (scene : Scene) (f : AnyFinding TypeData) (answer : ProgramData → Known → Option TypeData)
    → FindsAnywhere w (finding_data f) answer → TypesAs typed_as w scene (in_finding f) (λ p known c. only (answer p known))
finds_typed w scene f answer finds n more c below within m =
    finding_typed (program_of w) (Closed w more) n f (answer (program_of w) (known_within (program_of w) n)) (finds n more below within)

pub by_target
    : (w : World) (scene : Scene) (given : List TypeData) (target other : Target) (found : Typing TypeData) → target ≡ other
    → TypesAs typed_as w scene found (λ p known c. target_answer p known given other)
    → TypesAs typed_as w scene found (λ p known c. target_answer p known given target)
by_target w scene given target other found is says =
    subst (λ (t : Target). TypesAs typed_as w scene found (λ p known c. target_answer p known given t)) (sym is) says

-- ## What callbacks get, and what the members give

pub not_reduce
    : (m : Member) (item : TypeData) (further : List TypeData) → (m ≡ members.Reduce → ⊥)
    → Some (item ∷ number_type ∷ []) ≡ given_to m item further
not_reduce members.Reduce item further fails = absurd (fails refl)
not_reduce _ item further fails = refl

pub not_called_back
    : (m : Member) (item : TypeData) (further : List TypeData) (answer : TypeData) → (m ≡ members.Map → ⊥) → (m ≡ members.Filter → ⊥)
    → (m ≡ members.MapMany → ⊥) → (m ≡ members.Reduce → ⊥) → None ≡ by_answer m item further answer
not_called_back members.Map item further answer a b c d = absurd (a refl)
not_called_back members.Filter item further answer a b c d = absurd (b refl)
not_called_back members.MapMany item further answer a b c d = absurd (c refl)
not_called_back members.Reduce item further answer a b c d = absurd (d refl)
not_called_back _ item further answer a b c d = refl

pub members_not_never
    : (ms : List TypeMember) (t : TypeData) → map member_data ms ≡ members_of t → (length ms ≡ 0 → ⊥) → is_never t ≡ false
members_not_never [] t is some = absurd (some refl)
members_not_never (m ∷ ms) t is some = ap (list_all (λ m. false)) (sym is)

-- ## What is given, said in another way

pub finds_as
    : (w : World) (given slice : List TypeData) → slice ≡ given → (file decl : ℕ) (x y : AnyFinding TypeData) → x ≡ y
    → FindsAnywhere w (finding_data x) (λ p known. function_type p known file decl slice)
    → FindsAnywhere w (finding_data y) (λ p known. function_type p known file decl given)
finds_as w given slice same file decl x y e finds =
    subst (λ (f : AnyFinding TypeData). FindsAnywhere w (finding_data f) (λ p known. function_type p known file decl given)) e
    (subst (λ (ts : List TypeData). FindsAnywhere w (finding_data x) (λ p known. function_type p known file decl ts)) same finds)

-- ## Functions by number

get_map : (fs : List Function) (i : ℕ) → slice_get (map function_data fs) i ≡ option_map function_data (slice_get fs i)
get_map [] i = refl
get_map (f ∷ fs) zero = refl
get_map (f ∷ fs) (suc i) = get_map fs i

none_at : {X : Type 0} (xs : List X) (i : ℕ) → length xs ≤ i → slice_get xs i ≡ None
none_at [] i l = refl
none_at (x ∷ xs) zero l = absurd (omega (arith, l))
none_at (x ∷ xs) (suc i) l = none_at xs i (omega (arith, l))

-- what a slice has there
pub got
    : (slice : List Function) (number : ℕ) (r : Option (Bor Function)) (has : Bor Function → Type 0)
    → IfSome r (λ f. f.now ≡ get_or slice number f.now)
    → MatchOption r (length slice ≤ number) (λ f. (number < length slice) × has f)
    → option_copied r ≡ slice_get slice number
got slice number None has at there = sym (none_at slice number there)
got slice number (Some f) has at there = sym (slice_get_read slice (length slice) number f.now refl there.0 at)

module _ (w : World) (slice : List Function) (number : ℕ) (r : Option (Bor Function)) (is_slice : slice ≡ w.program.now.functions.items)
    (gets : option_copied r ≡ slice_get slice number) where
  function_got : function_at (program_of w) number ≡ option_map function_data (option_copied r)
  function_got =
      get_map w.program.now.functions.items number
      ∙ ap (λ fs. option_map function_data (slice_get fs number)) (sym is_slice) ∙ ap (option_map function_data) (sym gets)

  pub function_there : (f : Bor Function) → r ≡ Some f → function_at (program_of w) number ≡ Some (function_data f.now)
  function_there f e = function_got ∙ ap (λ o. option_map function_data (option_copied o)) e

  pub no_function_there : r ≡ None → function_at (program_of w) number ≡ None
  no_function_there e = function_got ∙ ap (λ o. option_map function_data (option_copied o)) e

-- ## What was seen

abbrev pub seen_of : ℕ → Option ℕ → Seen
seen_of rank right = record { rank = rank; right = right }

pub seen_is
    : (first rank next larger : ℕ) (inner right : Option ℕ) → right ≡ option_map (λ (from : ℕ). max first (from + 1)) inner
    → next ≡ rank + 1 → larger ≡ max first next
    → seen_of larger right ≡ seen_of (max first (rank + 1)) (option_map (λ (from : ℕ). max first (from + 1)) inner)
seen_is first rank next larger inner right rights nexts largest =
    ap (λ (k : ℕ). seen_of k right) (largest ∙ ap (max first) nexts) ∙ ap (seen_of (max first (rank + 1))) rights

-- the parameters of a function
pub parameters_as
    : (w : World) (place : Place) (f : Finding (List TypeData)) (ps qs : List Param) → ps ≡ qs
    → Says w place f (λ p known c. all_parameters p known c (map param_tree ps))
    → Says w place f (λ p known c. all_parameters p known c (map param_tree qs))
parameters_as w place f ps qs same says =
    subst (λ (rs : List Param). Says w place f (λ p known c. all_parameters p known c (map param_tree rs))) same says

-- What functions get and answer, and the scenes of their bodies.
use Rattle.std.specs.List.{list_any}
use Rattle.std.specs.Option.{option_map}
use Rattle.std.specs.Prelude.{◌++◌, ◌+◌, ◌<◌, ◌==◌, ◌∷◌, ◌≡◌, ◌≤◌, ℕ, Bool, List, None, Option, Some, [], if◌then◌else◌, max}
use Rattle.std.specs.declared.alloc.Global.{Global}
use Rattle.std.specs.declared.vec.Vec.{Vec}
use Rattle.dscript_program.specs.ProgramData.{ProgramData}
use Rattle.dscript_program.specs.declared.target.Target.{Target}
use Rattle.dscript_program.specs.declared.target.Target.TheVariants as targets
use Rattle.dscript_types_known.specs.Findings as found
use Rattle.dscript_types_known.specs.Matching.{FoundLocal, FoundLocals, captured_inside}
use Rattle.dscript_types_known.specs.Views.{locals_at}
use Rattle.dscript_types_known.specs.declared.finding.Finding.{Finding}
use Rattle.dscript_types_known.specs.declared.finding.Finding.TheVariants as findings
use Rattle.dscript_types_known.specs.declared.locals.Locals.{Locals}
use Rattle.dscript_types_meaning.specs.Bodies.{if_ends}
use Rattle.dscript_types_meaning.specs.Contexts.{Context, Known, Types, no_type, only}
use Rattle.dscript_types_meaning.specs.Fits.{fits}
use Rattle.dscript_types_meaning.specs.Functions.{function_type}
use Rattle.dscript_types_meaning.specs.Sizes.{within_limit}
use Rattle.dscript_types_meaning.specs.Typed.{known_within}
use Rattle.dscript_types_meaning.specs.Types.{TypeData}
use Rattle.dscript_types_meaning.specs.Unions.{join_all}
use Rattle.dscript_types_notes.specs.Means.{found_if, program_of}
use Rattle.dscript_types_notes.specs.declared.world.World.{World}
use Rattle.dscript_types_scenes.specs.Scenes.{Closed, Matches}
use Rattle.dscript_types_scenes.specs.declared.found.Typing.{Typing}
use Rattle.dscript_types_scenes.specs.declared.found.Typing.TheVariants as typings
use Rattle.dscript_types_scenes.specs.declared.scene.Scene.{Scene}

abbrev pub types_in : Option (Vec TypeData Global) → Option (List TypeData)
types_in types = option_map (λ (v : Vec TypeData Global). v.items) types

-- the locals of these numbers, as they are in the body of a callback
abbrev pub IsCaptured : Scene → List ℕ → Locals → Type 0
IsCaptured scene numbers locals =
    (number : ℕ) → locals_at locals number
    ≡ (if list_any (λ n. number == n) numbers then option_map captured_inside (locals_at scene.locals number) else None)

-- The scene of a body that is looked into with one less, where there is one: in it is found what holds where one more may
-- be looked into.
abbrev pub FindsScene : World → Scene → Finding Scene → (ProgramData → Known → Context → Option Context) → Type 0
FindsScene w scene (findings.Found inner rank) context =
    (n more : ℕ) (c : Context) → n ≤ more → n ≤ w.left → Matches (Closed w more) n scene c
    → (rank ≤ n
    → (d : Context) × (context (program_of w) (known_within (program_of w) n) c ≡ Some d)
    × ((fewer : ℕ) → n ≡ fewer + 1 → Matches (Closed w more) fewer inner d))
    × (n < rank → context (program_of w) (known_within (program_of w) n) c ≡ None)
FindsScene w scene findings.Nothing context =
    (n more : ℕ) (c : Context) → n ≤ more → n ≤ w.left → Matches (Closed w more) n scene c
    → context (program_of w) (known_within (program_of w) n) c ≡ None
FindsScene w scene (findings.Open pending) context =
    (n more : ℕ) (c : Context) → n ≤ more → n ≤ w.left → Matches (Closed w more) n scene c
    → Closed w more → context (program_of w) (known_within (program_of w) n) c ≡ None

-- the start of a reduction, which each step must fit
abbrev pub reduced : List TypeData → TypeData → Option TypeData
reduced [] answer = None
reduced (start ∷ further) answer = if fits answer start then Some start else None

-- what a name answers that stands as a callback
abbrev pub target_answer : ProgramData → Known → List TypeData → Target → Types TypeData
target_answer p known given (targets.Declared file decl) = only (function_type p known file decl given)
target_answer p known given (targets.Local number) = no_type
target_answer p known given (targets.Ambient call) = no_type

-- one more is captured, if it is seen
abbrev pub captured_seen : Option FoundLocal → FoundLocals → ℕ → FoundLocals
captured_seen None old number other = old other
captured_seen (Some f) old number other = if other == number then Some (captured_inside f) else old other

abbrev pub HasCaptured : Scene → ℕ → Locals → Locals → Type 0
HasCaptured scene number old new =
    (other : ℕ) → locals_at new other ≡ captured_seen (locals_at scene.locals number) (locals_at old) number other

-- what is given fits the annotation that was found
abbrev pub taken : TypeData → found.Finding TypeData → found.Finding TypeData
taken given (found.Found u rank) = if fits given u then found.Found u rank else found.Nothing
taken given found.Nothing = found.Nothing
taken given found.Open = found.Open

-- what a body comes to, as it is around it, where its scene is found from a rank on
abbrev pub body_typing : ℕ → Finding TypeData → Option ℕ → Typing TypeData
body_typing first (findings.Found t rank) right =
    typings.Found t (record { rank = max first (rank + 1); right = option_map (λ (from : ℕ). max first (from + 1)) right })
body_typing first findings.Nothing right = typings.Nothing
body_typing first (findings.Open pending) right = typings.Open pending

-- the union of what is returned, with undefined where the end may be reached
abbrev pub inferred_from : Bool → found.Finding (List TypeData) → found.Finding TypeData
inferred_from ends (found.Found types rank) = found_if (within_limit (join_all (if_ends ends ++ types))) rank
inferred_from ends found.Nothing = found.Nothing
inferred_from ends found.Open = found.Open

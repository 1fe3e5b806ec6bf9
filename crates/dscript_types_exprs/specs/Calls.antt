-- Members, indices and calls after a subject.
use Rattle.std.specs.Prelude.{◌≤◌, ℕ, List}
use Rattle.dscript_program.specs.BoundTree.{ExprData, ExprRow}
use Rattle.dscript_program.specs.ProgramData.{ProgramData}
use Rattle.dscript_program.specs.declared.ambient.Ambient.{Ambient as AmbientCall}
use Rattle.dscript_sdk_members.specs.declared.member.Member.{Member}
use Rattle.dscript_types_meaning.specs.Access.{indexed, method_type}
use Rattle.dscript_types_meaning.specs.Ambients.{ambient_type}
use Rattle.dscript_types_meaning.specs.Contexts.{◌>>=◌, Context, Known, Types, only}
use Rattle.dscript_types_meaning.specs.Expressions as rules
use Rattle.dscript_types_meaning.specs.Expressions.{arguments, expr_type, first_of, further_arguments, is, subject_call}
use Rattle.dscript_types_meaning.specs.Functions.{callback_type, function_type}
use Rattle.dscript_types_meaning.specs.Typed.{known_within}
use Rattle.dscript_types_meaning.specs.Types.{TypeData}
use Rattle.dscript_types_notes.specs.Means.{program_of}
use Rattle.dscript_types_notes.specs.declared.world.World.{World}
use Rattle.dscript_types_scenes.specs.Scenes.{Closed, Matches}
use Rattle.dscript_types_scenes.specs.Typings.{TypesTo, subject_data}
use Rattle.dscript_types_scenes.specs.declared.found.Seen.{Seen}
use Rattle.dscript_types_scenes.specs.declared.found.Subject.{Subject}
use Rattle.dscript_types_scenes.specs.declared.found.Typing.{Typing}
use Rattle.dscript_types_scenes.specs.declared.found.Typing.TheVariants as typings
use Rattle.dscript_types_scenes.specs.declared.scene.Scene.{Scene}

-- Where a typing says what the rules come to, the next one says what they come to after it.
abbrev pub GoesOn
    : {X Y : Type 0} → (X → Y) → World → Scene → Typing X → Typing Subject
    → (ProgramData → Known → Context → Y → Types rules.Subject) → Type 0
GoesOn {Y = Y} f w scene found end answer =
    (n more : ℕ) (c : Context) → n ≤ more → n ≤ w.left → Matches (Closed w more) n scene c
    → (before : Types Y) → TypesTo f (program_of w) (Closed w more) n found before
    → TypesTo subject_data (program_of w) (Closed w more) n end
    (before >>= answer (program_of w) (known_within (program_of w) n) c)

-- likewise after something that was seen
abbrev pub SeesOn
    : World → Scene → Seen → Typing Subject → (ProgramData → Known → Context → Types rules.Subject) → Type 0
SeesOn w scene seen end answer =
    GoesOn (λ (u : Unit {0}). u) w scene (typings.Found tt seen) end (λ p known c u. answer p known c)

module _ (p : ProgramData) (known : Known) (c : Context) where
  abbrev pub index_subject : ExprData → TypeData → Types rules.Subject
  index_subject e t = expr_type p known c e >>= λ u. only (indexed t u) >>= is

  abbrev pub call_subject : ExprRow → rules.Subject → Types rules.Subject
  call_subject es s =
      subject_call p known c (first_of es) (arguments p known c es) (further_arguments p known c es) s >>= is

  abbrev pub method_subject : TypeData → List ℕ → ExprRow → Types rules.Subject
  method_subject t name es = arguments p known c es >>= λ given. only (method_type t name given) >>= is

  abbrev pub function_subject : ℕ → ℕ → ExprRow → Types rules.Subject
  function_subject file decl es =
      arguments p known c es >>= λ given. only (function_type p known file decl given) >>= is

  abbrev pub ambient_subject : AmbientCall → ExprRow → Types rules.Subject
  ambient_subject call es = arguments p known c es >>= λ given. only (ambient_type call given) >>= is

abbrev pub callback_subject : ProgramData → Known → Context → Member → TypeData → ExprRow → Types rules.Subject
callback_subject p known c member t es =
    further_arguments p known c es >>= λ given. callback_type p known member c t (first_of es) given >>= is

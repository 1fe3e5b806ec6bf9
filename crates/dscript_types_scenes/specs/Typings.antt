-- What typing promises.
use Rattle.std.specs.List.{list_all}
use Rattle.std.specs.Prelude.{◌<◌, ◌≡◌, ◌≤◌, ℕ, Bool, List, None, Option, Some, false, max, true}
use Rattle.dscript_program.specs.ProgramData.{ProgramData}
use Rattle.dscript_types_known.specs.Findings.{Finding, Found, Nothing, Open}
use Rattle.dscript_types_meaning.specs.Contexts.{Standing, Types}
use Rattle.dscript_types_meaning.specs.Expressions as subjects
use Rattle.dscript_types_meaning.specs.Typed.{body_passes, has_type}
use Rattle.dscript_types_scenes.specs.declared.found.Subject.{Subject}
use Rattle.dscript_types_scenes.specs.declared.found.Subject.TheVariants as found
use Rattle.dscript_types_scenes.specs.declared.found.Typing.{Typing}
use Rattle.dscript_types_scenes.specs.declared.found.Typing.TheVariants as typings

abbrev pub subject_data : Subject → subjects.Subject
subject_data (found.Whole t) = subjects.Whole t
subject_data (found.Named t name) = subjects.Named t name
subject_data (found.Function file decl) = subjects.Function file decl
subject_data (found.Ambient call) = subjects.Ambient call

-- what is found of a type, without what was seen of bodies
abbrev pub bare_finding : {X : Type 0} → Typing X → Finding X
bare_finding (typings.Found x seen) = Found x seen.rank
bare_finding typings.Nothing = Nothing
bare_finding (typings.Open pending) = Open

-- ## From a number on

-- a test is passed from this number on, or never
abbrev pub FromOn : Option ℕ → ℕ → Bool → Type 0
FromOn None n test = test ≡ false
FromOn (Some from) n test = (from ≤ n → test ≡ true) × (n < from → test ≡ false)

-- from where on both are passed
abbrev pub both_right : Option ℕ → Option ℕ → Option ℕ
both_right (Some a) (Some b) = Some (max a b)
both_right _ _ = None

-- ## Typings

-- each expression in these bodies has a type, where this many may be looked into for what they stand in
abbrev pub are_right : ProgramData → ℕ → List Standing → Bool
are_right p n bodies = list_all (body_passes p n (λ v. has_type p n v)) bodies

-- What a typing says of the answer of the rules where this many may be looked into. Whether the bodies are right is only
-- told where nothing has a type that is still open.
abbrev pub TypesTo
    : {X Y : Type 0} → (X → Y) → ProgramData → Type 0 → ℕ → Typing X → Types Y → Type 0
TypesTo f p closed n (typings.Found x seen) answer =
    (seen.rank ≤ n
    → (bodies : List Standing) × (answer ≡ Some (f x, bodies))
    × (closed → FromOn seen.right n (are_right p n bodies)))
    × (n < seen.rank → answer ≡ None)
TypesTo f p closed n typings.Nothing answer = answer ≡ None
TypesTo f p closed n (typings.Open pending) answer = closed → answer ≡ None

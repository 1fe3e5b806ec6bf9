-- Values, and what subjects are as values.
use Rattle.std.proofs.Common.{◌≡◌, ℕ, None, Option, Some, [], ap, arith, refl}
use Rattle.dscript_program.specs.ProgramData.{ProgramData}
use Rattle.dscript_types_known.specs.Findings.{Tells}
use Rattle.dscript_types_known.specs.Views.{finding_data}
use Rattle.dscript_types_known.specs.declared.finding.Finding.{Finding as AnyFinding}
use Rattle.dscript_types_known.specs.declared.finding.Finding.TheVariants as findings
use Rattle.dscript_types_meaning.specs.Access.{member_type}
use Rattle.dscript_types_meaning.specs.Contexts.{◌>>=◌, Types, gives, only}
use Rattle.dscript_types_meaning.specs.Expressions as rules
use Rattle.dscript_types_meaning.specs.Types.{TypeData}
use Rattle.dscript_types_scenes.proofs.Going.{Going, at_once, begins, ends, ends_none, starts}
use Rattle.dscript_types_scenes.specs.Subjects.{in_finding, is_whole, only_found, whole_of}
use Rattle.dscript_types_scenes.specs.Typings.{TypesTo, subject_data}
use Rattle.dscript_types_scenes.specs.declared.found.Seen.{Seen}
use Rattle.dscript_types_scenes.specs.declared.found.Subject.{Subject}
use Rattle.dscript_types_scenes.specs.declared.found.Subject.TheVariants as subjects
use Rattle.dscript_types_scenes.specs.declared.found.Typing.{Typing}
use Rattle.dscript_types_scenes.specs.declared.found.Typing.TheVariants as typings

module _ (p : ProgramData) (closed : Type 0) (n : ℕ) where
  -- a value of a type
  pub value_typed : (t : TypeData) → TypesTo subject_data p closed n (typings.Found (subjects.Whole t) at_once) (gives (rules.Whole t))
  value_typed t = ends p closed n subject_data at_once _ _ (begins p closed n _ _ refl) (subjects.Whole t) refl

  -- what is left is a value of this type, if there is one
  pub ends_is
      : (s : Seen) (whole rest : Types rules.Subject) (o : Option TypeData) → Going p closed n s whole rest
      → rest ≡ (only o >>= rules.is) → TypesTo subject_data p closed n (is_whole (only_found o s)) whole
  ends_is s whole rest None goes e = ends_none p closed n subject_data s whole rest goes e
  ends_is s whole rest (Some t) goes e = ends p closed n subject_data s whole rest goes (subjects.Whole t) e

  pub ends_only
      : (s : Seen) (whole rest : Types TypeData) (o : Option TypeData) → Going p closed n s whole rest
      → rest ≡ only o → TypesTo (λ (t : TypeData). t) p closed n (only_found o s) whole
  ends_only s whole rest None goes e = ends_none p closed n (λ (t : TypeData). t) s whole rest goes e
  ends_only s whole rest (Some t) goes e = ends p closed n (λ (t : TypeData). t) s whole rest goes t e

  -- a subject as a value
  pub whole_typed
      : (found : Typing Subject) (m : Types rules.Subject) → TypesTo subject_data p closed n found m
      → TypesTo (λ (t : TypeData). t) p closed n (whole_of found) (rules.typed m)
  whole_typed (typings.Found (subjects.Whole t) seen) m h =
      ends_only seen _ _ (Some t) (starts p closed n subject_data (subjects.Whole t) seen m rules.whole h) refl
  whole_typed (typings.Found (subjects.Named t name) seen) m h =
      ends_only seen _ _ (member_type t name) (starts p closed n subject_data (subjects.Named t name) seen m rules.whole h) refl
  whole_typed (typings.Found (subjects.Function file decl) seen) m h =
      ends_none p closed n (λ (t : TypeData). t) seen _ _ (starts p closed n subject_data (subjects.Function file decl) seen m rules.whole h) refl
  whole_typed (typings.Found (subjects.Ambient call) seen) m h =
      ends_none p closed n (λ (t : TypeData). t) seen _ _ (starts p closed n subject_data (subjects.Ambient call) seen m rules.whole h) refl
  whole_typed typings.Nothing m h = ap (λ o. o >>= rules.whole) h
  whole_typed (typings.Open pending) m h = λ c. ap (λ o. o >>= rules.whole) (h c)

  -- what is found of a type, as a value
  pub finding_typed
      : (f : AnyFinding TypeData) (o : Option TypeData) → Tells closed n (finding_data f) o
      → TypesTo (λ (t : TypeData). t) p closed n (in_finding f) (only o)
  finding_typed (findings.Found t rank) o tells = (
    λ l. ([], ap only (tells.0 l), λ c. (λ m. refl, λ m. absurd (omega arith))),
    λ l. ap only (tells.1 l),
  )
  finding_typed findings.Nothing o tells = ap only tells
  finding_typed (findings.Open pending) o tells = λ c. ap only (tells c)

  pub finding_is
      : (f : AnyFinding TypeData) (o : Option TypeData) → Tells closed n (finding_data f) o
      → TypesTo subject_data p closed n (is_whole (in_finding f)) (only o >>= rules.is)
  finding_is (findings.Found t rank) o tells = (
    λ l. ([], ap (λ (q : Option TypeData). only q >>= rules.is) (tells.0 l), λ c. (λ m. refl, λ m. absurd (omega arith))),
    λ l. ap (λ (q : Option TypeData). only q >>= rules.is) (tells.1 l),
  )
  finding_is findings.Nothing o tells = ap (λ (q : Option TypeData). only q >>= rules.is) tells
  finding_is (findings.Open pending) o tells = λ c. ap (λ (q : Option TypeData). only q >>= rules.is) (tells c)

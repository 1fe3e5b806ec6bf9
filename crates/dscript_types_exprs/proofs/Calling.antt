-- Indices and calls after something that was seen.
use Rattle.std.proofs.Common.{◌∙◌, ◌≡◌, ◌≤◌, ℕ, None, Option, Some, ap, refl}
use Rattle.dscript_program.specs.ProgramData.{ProgramData}
use Rattle.dscript_types_known.specs.Views.{finding_data}
use Rattle.dscript_types_known.specs.declared.finding.Finding.{Finding as AnyFinding}
use Rattle.dscript_types_known.specs.declared.finding.Finding.TheVariants as findings
use Rattle.dscript_types_known.specs.declared.finding.Pending.{Pending}
use Rattle.dscript_types_meaning.specs.Contexts.{◌>>=◌, Context, Known, Types, only}
use Rattle.dscript_types_meaning.specs.Expressions as rules
use Rattle.dscript_types_meaning.specs.Typed.{known_within}
use Rattle.dscript_types_meaning.specs.Types.{TypeData}
use Rattle.dscript_types_notes.specs.Means.{program_of}
use Rattle.dscript_types_notes.specs.declared.world.World.{World}
use Rattle.dscript_types_scenes.proofs.Going.{Going, both_seen, ends_none, ends_open, goes_on, opens, starts, stops}
use Rattle.dscript_types_scenes.proofs.Values.{ends_is, finding_typed}
use Rattle.dscript_types_scenes.specs.Scenes.{Closed, FindsAnywhere, Matches, TypesAs}
use Rattle.dscript_types_scenes.specs.Subjects.{is_whole, only_found}
use Rattle.dscript_types_scenes.specs.Typings.{TypesTo, subject_data}
use Rattle.dscript_types_scenes.specs.declared.found.Seen.{Seen}
use Rattle.dscript_types_scenes.specs.declared.found.Typing.TheVariants as typings
use Rattle.dscript_types_scenes.specs.declared.scene.Scene.{Scene}
use Rattle.dscript_types_exprs.specs.Calls.{GoesOn}

abbrev nothing_found : AnyFinding TypeData
nothing_found = findings.Nothing

abbrev open_at : Pending → AnyFinding TypeData
open_at a = findings.Open a

-- what comes after something: a part, and then a value
module _ {X Y Z V : Type 0} (f : X → Y) (h : V → Z) (w : World) (scene : Scene) (x : X) (seen : Seen)
    (step : ProgramData → Known → Context → Types Z) (next : ProgramData → Known → Context → Y → Z → Types rules.Subject) where
  abbrev pub answer_of : ProgramData → Known → Context → Y → Types rules.Subject
  answer_of p known c y = step p known c >>= next p known c y

  at_start
      : (n most : ℕ) (c : Context) (before : Types Y) → TypesTo f (program_of w) (Closed w most) n (typings.Found x seen) before
      → Going (program_of w) (Closed w most) n seen
      (before >>= answer_of (program_of w) (known_within (program_of w) n) c)
      (answer_of (program_of w) (known_within (program_of w) n) c (f x))
  at_start n most c before found =
      let p = program_of w in let known = known_within p n in
      starts p (Closed w most) n f x seen before (answer_of p known c) found

  pub part_nothing : TypesAs h w scene typings.Nothing step → GoesOn f w scene (typings.Found x seen) typings.Nothing answer_of
  part_nothing typed n most c below within m before found =
      let p = program_of w in let known = known_within p n in
      stops p (Closed w most) n h seen (before >>= answer_of p known c) (answer_of p known c (f x)) (step p known c) (next p known c (f x))
      refl (at_start n most c before found) subject_data (typed n most c below within m)

  pub part_open
      : (a : Pending) → TypesAs h w scene (typings.Open a) step → GoesOn f w scene (typings.Found x seen) (typings.Open a) answer_of
  part_open a typed n most c below within m before found =
      let p = program_of w in let known = known_within p n in
      opens p (Closed w most) n h seen (before >>= answer_of p known c) (answer_of p known c (f x)) (step p known c) (next p known c (f x))
      refl (at_start n most c before found) subject_data a a (typed n most c below within m)

  module _ (v : V) (further : Seen) (typed : TypesAs h w scene (typings.Found v further) step) where
    pub at_part
        : (n most : ℕ) (c : Context) → n ≤ most → n ≤ w.left → Matches (Closed w most) n scene c
        → (before : Types Y) → TypesTo f (program_of w) (Closed w most) n (typings.Found x seen) before
        → Going (program_of w) (Closed w most) n (both_seen seen further)
        (before >>= answer_of (program_of w) (known_within (program_of w) n) c)
        (next (program_of w) (known_within (program_of w) n) c (f x) (h v))
    at_part n most c below within m before found =
        let p = program_of w in let known = known_within p n in
        goes_on p (Closed w most) n h seen (before >>= answer_of p known c) (answer_of p known c (f x)) (step p known c)
        (next p known c (f x)) refl (at_start n most c before found) v further (typed n most c below within m)

    -- a value, if there is one
    pub part_is
        : (o : Option TypeData)
        → ((p : ProgramData) (known : Known) (c : Context) → next p known c (f x) (h v) ≡ (only o >>= rules.is))
        → GoesOn f w scene (typings.Found x seen) (is_whole (only_found o (both_seen seen further))) answer_of
    part_is o is n most c below within m before found =
        let p = program_of w in let known = known_within p n in
        ends_is p (Closed w most) n (both_seen seen further) (before >>= answer_of p known c) (next p known c (f x) (h v)) o
        (at_part n most c below within m before found) (is p known c)

    -- nothing
    pub part_fails
        : ((p : ProgramData) (known : Known) (c : Context) → next p known c (f x) (h v) ≡ None)
        → GoesOn f w scene (typings.Found x seen) typings.Nothing answer_of
    part_fails is n most c below within m before found =
        let p = program_of w in let known = known_within p n in
        ends_none p (Closed w most) n subject_data (both_seen seen further) (before >>= answer_of p known c)
        (next p known c (f x) (h v)) (at_part n most c below within m before found) (is p known c)

    -- what is found anywhere
    module _ (answer : ProgramData → Known → Option TypeData)
        (is : (p : ProgramData) (known : Known) (c : Context) → next p known c (f x) (h v) ≡ (only (answer p known) >>= rules.is)) where
      pub finds_value
          : (t : TypeData) (rank : ℕ) → FindsAnywhere w (finding_data (findings.Found t rank)) answer
          → GoesOn f w scene (typings.Found x seen)
          (is_whole (only_found (Some t) (both_seen (both_seen seen further) (record { rank = rank; right = Some 0 })))) answer_of
      finds_value t rank finds n most c below within m before found =
          let p = program_of w in let known = known_within p n in
          let s = both_seen seen further in
          ends_is p (Closed w most) n (both_seen s (record { rank = rank; right = Some 0 })) (before >>= answer_of p known c)
          (rules.is t) (Some t)
          (goes_on p (Closed w most) n (λ (u : TypeData). u) s (before >>= answer_of p known c) (next p known c (f x) (h v))
          (only (answer p known)) rules.is (is p known c) (at_part n most c below within m before found) t
          (record { rank = rank; right = Some 0 })
          (finding_typed p (Closed w most) n (findings.Found t rank) (answer p known) (finds n most below within)))
          refl

      pub finds_nothing
          : FindsAnywhere w (finding_data nothing_found) answer
          → GoesOn f w scene (typings.Found x seen) typings.Nothing answer_of
      finds_nothing finds n most c below within m before found =
          let p = program_of w in let known = known_within p n in
          ends_none p (Closed w most) n subject_data (both_seen seen further) (before >>= answer_of p known c)
          (next p known c (f x) (h v)) (at_part n most c below within m before found)
          (is p known c ∙ ap (λ (o : Option TypeData). only o >>= rules.is) (finds n most below within))

      pub finds_open
          : (a : Pending) → FindsAnywhere w (finding_data (open_at a)) answer
          → GoesOn f w scene (typings.Found x seen) (typings.Open a) answer_of
      finds_open a finds n most c below within m before found =
          let p = program_of w in let known = known_within p n in
          ends_open p (Closed w most) n subject_data (both_seen seen further) (before >>= answer_of p known c)
          (next p known c (f x) (h v)) (at_part n most c below within m before found) a
          (λ closed. is p known c ∙ ap (λ (o : Option TypeData). only o >>= rules.is) (finds n most below within closed))

-- after nothing there is nothing
module _ {X Y : Type 0} (f : X → Y) (w : World) (scene : Scene) (answer : ProgramData → Known → Context → Y → Types rules.Subject) where
  pub after_nothing : GoesOn f w scene typings.Nothing typings.Nothing answer
  after_nothing n most c below within m before found =
      ap (λ o. o >>= answer (program_of w) (known_within (program_of w) n) c) found

  pub after_open : (a : Pending) → GoesOn f w scene (typings.Open a) (typings.Open a) answer
  after_open a n most c below within m before found = λ closed.
      ap (λ o. o >>= answer (program_of w) (known_within (program_of w) n) c) (found closed)

-- One part of an annotation after another, and what is found of the whole.
use Rattle.std.proofs.Common.{IfOk, Result, Ok, Err, ◌≡◌, ℕ, ◌<◌, ◌≤◌, max, Option, Some, None, refl, ap, ◌∙◌, inl, inr, arith}
use Rattle.std.proofs.lemmas.Bool.{cases_lt}
use Rattle.std.proofs.Math.Nat.{le-max_left, le-max_right, max-le}
use Rattle.std.specs.Option.{option_and_then}
use Rattle.dscript_program.specs.ProgramData.{ProgramData}
use Rattle.dscript_types_known.specs.Findings.{Finding, Found, Nothing, Open}
use Rattle.dscript_types_meaning.specs.Contexts.{Context, Known}
use Rattle.dscript_types_meaning.specs.Typed.{known_within}
use Rattle.dscript_types_notes.specs.Means.{IsAt, Says, SaysFrom, found_if, program_of}
use Rattle.dscript_types_notes.specs.declared.world.Place.{Place}
use Rattle.dscript_types_notes.specs.declared.world.World.{World}

pub under_both : (a b n : ℕ) → a ≤ n → n < max a b → n < b
under_both a b n l h = elim (cases_lt n b) [
  | inl less ↦ less
  | inr more_or ↦ absurd (omega (arith, max-le {a = a} {b = b} {k = n} l more_or))
]

-- what holds of an answer, unless it is a fault
pub if_ok : {X E : Type 0} (P Q : X → Type 0) (r : Result X E) → ((x : X) → P x → Q x) → IfOk r P → IfOk r Q
if_ok P Q (Ok x) h p = h x p
if_ok P Q (Err e) h p = tt

abbrev pub Answers : Type 0 → Type 0
Answers X = ProgramData → Known → Context → Option X

-- the answer where this many may be looked into
abbrev pub answer_in : {X : Type 0} → World → ℕ → Context → Answers X → Option X
answer_in w n c answer = answer (program_of w) (known_within (program_of w) n) c

-- From a rank on the whole comes to what is left, and before it to nothing. Of fewer than the low number nothing is said.
pub record Goes {X : Type 0} (w : World) (place : Place) (low rank : ℕ) (whole rest : Answers X) : Type 0 where
  pub above : low ≤ rank
  pub same : (n : ℕ) (c : Context) → low ≤ n → n ≤ w.left → IsAt place c → rank ≤ n → answer_in w n c whole ≡ answer_in w n c rest
  pub none : (n : ℕ) (c : Context) → low ≤ n → n ≤ w.left → IsAt place c → n < rank → answer_in w n c whole ≡ None

module _ {X : Type 0} (w : World) (place : Place) where
  -- nothing has been looked at
  pub begins : (low : ℕ) (whole : Answers X) → Goes w place low low whole whole
  begins low whole = record {
    above = omega arith;
    same = λ n c from within at over. refl;
    none = λ n c from within at under. absurd (omega arith);
  }

  pub begins_as
      : (low : ℕ) (whole rest : Answers X)
      → ((p : ProgramData) (known : Known) (c : Context) → whole p known c ≡ rest p known c) → Goes w place low low whole rest
  begins_as low whole rest same = record {
    above = omega arith;
    same = λ n c over within at here. same (program_of w) (known_within (program_of w) n) c;
    none = λ n c over within at under. absurd (omega arith);
  }

  -- what was found from a rank on is that of the whole
  pub ends_in
      : (low rank : ℕ) (whole rest : Answers X) (finding : Finding X) → Goes w place low rank whole rest
      → SaysFrom w place rank finding rest → SaysFrom w place low finding whole
  ends_in low rank whole rest (Found x from) goes says = (
    omega (arith, goes.above, says.0),
    λ n more c over below within at. (
      λ here. goes.same n c over within at (omega (arith, says.0)) ∙ (says.1 n more c (omega (arith, says.0)) below within at).0 here,
      λ before. elim (cases_lt n rank) [
        | inl less ↦ goes.none n c over within at less
        | inr more_or ↦ goes.same n c over within at more_or ∙ (says.1 n more c more_or below within at).1 before
      ],
    ),
  )
  ends_in low rank whole rest Nothing goes says = (
    tt,
    λ n more c over below within at. elim (cases_lt n rank) [
      | inl less ↦ goes.none n c over within at less
      | inr more_or ↦ goes.same n c over within at more_or ∙ says.1 n more c more_or below within at
    ],
  )
  ends_in low rank whole rest Open goes says = (
    tt,
    λ n more c over below within at closed. elim (cases_lt n rank) [
      | inl less ↦ goes.none n c over within at less
      | inr more_or ↦ goes.same n c over within at more_or ∙ says.1 n more c more_or below within at closed
    ],
  )

  -- what the rest is, is known
  pub is_rest
      : (rank : ℕ) (rest : Answers X) (o : Option X)
      → ((known : Known) (c : Context) → IsAt place c → rest (program_of w) known c ≡ o)
      → SaysFrom w place rank (found_if o rank) rest
  is_rest rank rest None is = (tt, λ n more c over below within at. is (known_within (program_of w) n) c at)
  is_rest rank rest (Some x) is = (
    omega arith,
    λ n more c over below within at. (
      λ here. is (known_within (program_of w) n) c at,
      λ before. absurd (omega arith),
    ),
  )

  -- a finding that holds anywhere
  pub from_says : (finding : Finding X) (whole : Answers X) → SaysFrom w place 0 finding whole → Says w place finding whole
  from_says finding whole says n more c below within at = says.1 n more c (omega arith) below within at

module _ {X Y : Type 0} (w : World) (place : Place) (low rank : ℕ) (whole rest : Answers X) (step : Answers Y) (next : Y → Answers X) where
  -- the rest is this step and then what comes next
  abbrev pub IsStep : Type 0
  IsStep = (p : ProgramData) (known : Known) (c : Context) → rest p known c ≡ option_and_then (λ y. next y p known c) (step p known c)

  pub goes_on
      : (y : Y) (from : ℕ) → IsStep → Says w place (Found y from) step → Goes w place low rank whole rest
      → Goes w place low (max rank from) whole (next y)
  goes_on y from is says goes = record {
    above = omega (arith, goes.above, le-max_left rank from);
    same = λ n c over within at here.
        goes.same n c over within at (omega (arith, le-max_left rank from))
        ∙ is (program_of w) (known_within (program_of w) n) c
        ∙ ap (option_and_then (λ z. next z (program_of w) (known_within (program_of w) n) c))
        ((says n n c (omega arith) within at).0 (omega (arith, le-max_right rank from)));
    none = λ n c over within at before. elim (cases_lt n rank) [
      | inl less ↦ goes.none n c over within at less
      | inr more_or ↦
          goes.same n c over within at more_or
          ∙ is (program_of w) (known_within (program_of w) n) c
          ∙ ap (option_and_then (λ z. next z (program_of w) (known_within (program_of w) n) c))
          ((says n n c (omega arith) within at).1 (under_both rank from n more_or before))
    ];
  }

  pub stops : IsStep → Says w place Nothing step → Goes w place low rank whole rest → SaysFrom w place low Nothing whole
  stops is says goes = (
    tt,
    λ n more c over below within at. elim (cases_lt n rank) [
      | inl less ↦ goes.none n c over within at less
      | inr more_or ↦
          goes.same n c over within at more_or
          ∙ is (program_of w) (known_within (program_of w) n) c
          ∙ ap (option_and_then (λ z. next z (program_of w) (known_within (program_of w) n) c)) (says n more c below within at)
    ],
  )

  pub opens : IsStep → Says w place Open step → Goes w place low rank whole rest → SaysFrom w place low Open whole
  opens is says goes = (
    tt,
    λ n more c over below within at closed. elim (cases_lt n rank) [
      | inl less ↦ goes.none n c over within at less
      | inr more_or ↦
          goes.same n c over within at more_or
          ∙ is (program_of w) (known_within (program_of w) n) c
          ∙ ap (option_and_then (λ z. next z (program_of w) (known_within (program_of w) n) c)) (says n more c below within at closed)
    ],
  )

-- ## One step

module _ {X Y : Type 0} (w : World) (place : Place) (whole : Answers X) (step : Answers Y) (next : Y → Answers X)
    (is : (p : ProgramData) (known : Known) (c : Context) → whole p known c ≡ option_and_then (λ y. next y p known c) (step p known c)) where
  goes_first : (y : Y) (from : ℕ) → Says w place (Found y from) step → Goes w place 0 from whole (next y)
  goes_first y from says = record {
    above = omega arith;
    same = λ n c over within at here.
        is (program_of w) (known_within (program_of w) n) c
        ∙ ap (option_and_then (λ z. next z (program_of w) (known_within (program_of w) n) c))
        ((says n n c (omega arith) within at).0 here);
    none = λ n c over within at before.
        is (program_of w) (known_within (program_of w) n) c
        ∙ ap (option_and_then (λ z. next z (program_of w) (known_within (program_of w) n) c))
        ((says n n c (omega arith) within at).1 before);
  }

  pub step_found
      : (y : Y) (rank : ℕ) (finding : Finding X) → Says w place (Found y rank) step
      → SaysFrom w place rank finding (next y) → Says w place finding whole
  step_found y rank finding says after =
      from_says w place finding whole (ends_in w place 0 rank whole (next y) finding (goes_first y rank says) after)

  -- and the rest is known
  pub step_ends
      : (y : Y) (rank : ℕ) (o : Option X) → Says w place (Found y rank) step
      → ((known : Known) (c : Context) → IsAt place c → next y (program_of w) known c ≡ o)
      → Says w place (found_if o rank) whole
  step_ends y rank o says ends = step_found y rank (found_if o rank) says (is_rest w place rank (next y) o ends)

  pub step_stops : Says w place Nothing step → Says w place Nothing whole
  step_stops says n more c below within at =
      is (program_of w) (known_within (program_of w) n) c
      ∙ ap (option_and_then (λ z. next z (program_of w) (known_within (program_of w) n) c)) (says n more c below within at)

  pub step_opens : Says w place Open step → Says w place Open whole
  step_opens says n more c below within at closed =
      is (program_of w) (known_within (program_of w) n) c
      ∙ ap (option_and_then (λ z. next z (program_of w) (known_within (program_of w) n) c)) (says n more c below within at closed)

-- Whether an expression has a type where it stands, by what is found of it.
use Rattle.std.proofs.Common.{◌&&◌, ◌<◌, ◌∙◌, ◌≡◌, ◌≤◌, ℕ, Bool, List, None, Option, Some, ap, arith, false, inl, inr, max, refl, subst, sym, true}
use Rattle.std.proofs.Math.Nat.{le-max_left, le-max_right, max-le}
use Rattle.std.proofs.lemmas.Bool.{cases_lt}
use Rattle.std.specs.List.{list_all}
use Rattle.dscript_program.specs.ProgramData.{ProgramData}
use Rattle.dscript_types_meaning.specs.Contexts.{◌>>=◌, ◌>>◌, Standing, Types, gives, needs, with_bodies}
use Rattle.dscript_types_meaning.specs.Typed.{body_passes, has_type, with_bodies_that}
use Rattle.dscript_types_meaning.specs.Types.{TypeData}
use Rattle.dscript_types_scenes.proofs.FromOns.{both_from}
use Rattle.dscript_types_scenes.proofs.Going.{nil_right}
use Rattle.dscript_types_scenes.specs.Typings.{FromOn, TypesTo, both_right}
use Rattle.dscript_types_scenes.specs.Walks.{RuleSays, judged}
use Rattle.dscript_types_scenes.specs.declared.found.Seen.{Seen}
use Rattle.dscript_types_scenes.specs.declared.found.Typing.{Typing}
use Rattle.dscript_types_scenes.specs.declared.found.Typing.TheVariants as typings
use Rattle.dscript_types_scenes.specs.declared.walk.Rule.{Rule}
use Rattle.dscript_types_scenes.specs.declared.walk.Rule.TheVariants as rules

abbrev pub typed_as : TypeData → TypeData
typed_as t = t

-- a type that meets a rule
abbrev pub if_met : (TypeData → Bool) → TypeData → Types TypeData
if_met met t = needs (met t) >> gives t

module _ (test : Standing → Bool) (met : TypeData → Bool) where
  -- what is there comes out by the rule and its bodies
  tests_met
      : (t : TypeData) (bodies : List Standing) (b : Bool) → met t ≡ b
      → with_bodies_that test (with_bodies bodies (needs b >> gives t)) ≡ (b && list_all test bodies)
  tests_met t bodies true e = ap (list_all test) (nil_right bodies)
  tests_met t bodies false e = refl

  some_tested
      : (m : Types TypeData) (t : TypeData) (bodies : List Standing) → m ≡ Some (t, bodies)
      → with_bodies_that test (m >>= if_met met) ≡ (met t && list_all test bodies)
  some_tested m t bodies e = ap (λ o. with_bodies_that test (o >>= if_met met)) e ∙ tests_met t bodies (met t) refl

  none_tested : (m : Types TypeData) → m ≡ None → with_bodies_that test (m >>= if_met met) ≡ false
  none_tested m e = ap (λ o. with_bodies_that test (o >>= if_met met)) e

first_false : (a b : Bool) → a ≡ false → (a && b) ≡ false
first_false false b e = refl
first_false true b e = cc

-- from a rank on, before which the test fails
from_rank
    : (from : Option ℕ) (rank n : ℕ) (test : Bool) → (rank ≤ n → FromOn from n test) → (n < rank → test ≡ false)
    → FromOn (both_right (Some rank) from) n test
from_rank None rank n test here before = elim (cases_lt n rank) [
  | inl l ↦ before l
  | inr l ↦ here l
]
from_rank (Some from) rank n test here before = (
  λ l. (here (omega (arith, l, le-max_left rank from))).0 (omega (arith, l, le-max_right rank from)),
  λ l. elim (cases_lt n rank) [
    | inl m ↦ before m
    | inr m ↦ (here m).1 (under rank from n m l)
  ],
)
  where
    under : (a b n : ℕ) → a ≤ n → n < max a b → n < b
    under a b n l h = elim (cases_lt n b) [
      | inl less ↦ less
      | inr more_or ↦ absurd (omega (arith, max-le {a = a} {b = b} {k = n} l more_or))
    ]

max_thrice : (a b c : ℕ) → max a (max b c) ≡ max (max a b) c
max_thrice a b c = omega arith

both_again
    : (a b : ℕ) (right : Option ℕ) (n : ℕ) (test : Bool) → FromOn (both_right (Some a) (both_right (Some b) right)) n test
    → FromOn (both_right (Some (max a b)) right) n test
both_again a b None n test h = h
both_again a b (Some c) n test h = subst (λ (k : ℕ). FromOn (Some k) n test) (max_thrice a b c) h

module _ (p : ProgramData) (closed : Type 0) (n : ℕ) (m : Types TypeData) (met : TypeData → Bool) where
  abbrev test : Standing → Bool
  test = body_passes p n (λ v. has_type p n v)

  abbrev pub is_judged : Bool
  is_judged = with_bodies_that test (m >>= if_met met)

  met_from
      : (t : TypeData) (seen : Seen) (rank : ℕ) → TypesTo typed_as p closed n (typings.Found t seen) m
      → FromOn (Some rank) n (met t) → closed → FromOn (both_right (Some seen.rank) (both_right (Some rank) seen.right)) n is_judged
  met_from t seen rank found says c =
      from_rank (both_right (Some rank) seen.right) seen.rank n is_judged
      (λ l. let b = found.0 l in
      subst (λ (q : Bool). FromOn (both_right (Some rank) seen.right) n q) (sym (some_tested test met m t b.0 b.1))
      (both_from (Some rank) seen.right n (met t) (list_all test b.0) says (b.2 c)))
      (λ l. none_tested test met m (found.1 l))

  -- what is found says whether it is right where it stands
  pub judged_says
      : (found : Typing TypeData) (rule : Rule) → TypesTo typed_as p closed n found m
      → ((t : TypeData) (seen : Seen) → found ≡ typings.Found t seen → RuleSays closed n rule (met t))
      → closed → FromOn (judged found rule) n is_judged
  judged_says (typings.Found t seen) (rules.Met rank) found says c =
      both_again seen.rank rank seen.right n is_judged (met_from t seen rank found (says t seen refl) c)
  judged_says (typings.Found t seen) rules.NotMet found says c =
      elim (cases_lt n seen.rank) [
        | inl l ↦ none_tested test met m (found.1 l)
        | inr l ↦
            let b = found.0 l in
            some_tested test met m t b.0 b.1 ∙ first_false (met t) (list_all test b.0) (says t seen refl c)
      ]
  judged_says typings.Nothing (rules.Met rank) found says c = none_tested test met m found
  judged_says typings.Nothing rules.NotMet found says c = none_tested test met m found
  judged_says (typings.Open pending) (rules.Met rank) found says c = none_tested test met m (found c)
  judged_says (typings.Open pending) rules.NotMet found says c = none_tested test met m (found c)

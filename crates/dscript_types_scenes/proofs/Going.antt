-- What is left to be typed of an expression, after some of its parts.
use Rattle.std.proofs.Common.{◌++◌, ◌<◌, ◌∙◌, ◌∷◌, ◌≡◌, ◌≤◌, ℕ, Bool, List, None, Option, Some, [], ap, append_assoc, arith, inl, inr, max, refl, subst, sym}
use Rattle.std.proofs.Math.Nat.{le-max_left, le-max_right, max-le}
use Rattle.std.proofs.lemmas.Bool.{cases_lt}
use Rattle.std.proofs.lemmas.List.Folds.{list_all-append}
use Rattle.std.specs.Option.{option_map}
use Rattle.dscript_program.specs.ProgramData.{ProgramData}
use Rattle.dscript_types_known.specs.declared.finding.Pending.{Pending}
use Rattle.dscript_types_meaning.specs.Contexts.{◌>>=◌, Standing, Types, gives, only, with_bodies}
use Rattle.dscript_types_meaning.specs.Typed.{body_passes, has_type}
use Rattle.dscript_types_scenes.proofs.FromOns.{both_from}
use Rattle.dscript_types_scenes.specs.Subjects.{only_found}
use Rattle.dscript_types_scenes.specs.Typings.{FromOn, TypesTo, are_right, both_right}
use Rattle.dscript_types_scenes.specs.declared.found.Seen.{Seen}
use Rattle.dscript_types_scenes.specs.declared.found.Typing.TheVariants as typings

abbrev pub both_seen : Seen → Seen → Seen
both_seen s t = record { rank = max s.rank t.rank; right = both_right s.right t.right }

-- what has no bodies and hangs on nothing
abbrev pub at_once : Seen
at_once = record { rank = 0; right = Some 0 }

-- ## Bodies

pub no_bodies : {X : Type 0} (o : Types X) → with_bodies [] o ≡ o
no_bodies None = refl
no_bodies (Some r) = refl

bodies_twice : {X : Type 0} (bs cs : List Standing) (o : Types X) → with_bodies bs (with_bodies cs o) ≡ with_bodies (bs ++ cs) o
bodies_twice bs cs None = refl
bodies_twice {X} bs cs (Some r) = ap (λ (ds : List Standing). Some (r.0, ds)) (sym (append_assoc bs cs r.1))

bodies_then
    : {X Y : Type 0} (bs : List Standing) (o : Types X) (g : X → Types Y) → (with_bodies bs o >>= g) ≡ with_bodies bs (o >>= g)
bodies_then bs None g = refl
bodies_then bs (Some r) g = sym (bodies_twice bs r.1 (g r.0))

-- one part after another, in either way
pub part_by_part
    : {X Y Z : Type 0} (m : Types X) (f : X → Types Y) (g : Y → Types Z) → ((m >>= f) >>= g) ≡ (m >>= λ x. f x >>= g)
part_by_part None f g = refl
part_by_part (Some r) f g = bodies_then r.1 (f r.0) g

pub nil_right : {X : Type 0} (xs : List X) → xs ++ [] ≡ xs
nil_right [] = refl
nil_right (x ∷ xs) = ap (λ ys. x ∷ ys) (nil_right xs)

pub under_both : (a b n : ℕ) → a ≤ n → n < max a b → n < b
under_both a b n l h = elim (cases_lt n b) [
  | inl less ↦ less
  | inr more_or ↦ absurd (omega (arith, max-le {a = a} {b = b} {k = n} l more_or))
]

-- ## Steps

-- From the rank of what was seen on, the whole comes to what is left, with the bodies that were seen; before it to nothing.
pub record Going {Y : Type 0} (p : ProgramData) (closed : Type 0) (n : ℕ) (s : Seen) (whole rest : Types Y) : Type 0 where
  pub here : s.rank ≤ n
      → (bodies : List Standing) × (whole ≡ with_bodies bodies rest) × (closed → FromOn s.right n (are_right p n bodies))
  pub none : n < s.rank → whole ≡ None

module _ (p : ProgramData) (closed : Type 0) (n : ℕ) where
  pub begins : {Y : Type 0} (whole rest : Types Y) → whole ≡ rest → Going p closed n at_once whole rest
  begins whole rest e = record {
    here = λ l. ([], e ∙ sym (no_bodies rest), λ c. (λ m. refl, λ m. absurd (omega arith)));
    none = λ l. absurd (omega arith);
  }

  -- after something that was found
  pub starts
      : {X Y Z : Type 0} (f : X → Y) (x : X) (s : Seen) (before : Types Y) (next : Y → Types Z)
      → TypesTo f p closed n (typings.Found x s) before → Going p closed n s (before >>= next) (next (f x))
  starts f x s before next found = record {
    here = λ l. let b = found.0 l in (b.0, ap (λ o. o >>= next) b.1, b.2);
    none = λ l. ap (λ o. o >>= next) (found.1 l);
  }

  module _ {X Y Z : Type 0} (f : X → Y) (s : Seen) (whole rest : Types Z) (step : Types Y) (next : Y → Types Z)
      (is : rest ≡ (step >>= next)) (goes : Going p closed n s whole rest) where
    none_left : rest ≡ None → whole ≡ None
    none_left e = elim (cases_lt n s.rank) [
      | inl l ↦ goes.none l
      | inr l ↦ let b = goes.here l in b.1 ∙ ap (with_bodies b.0) e
    ]

    pub goes_on
        : (x : X) (t : Seen) → TypesTo f p closed n (typings.Found x t) step → Going p closed n (both_seen s t) whole (next (f x))
    goes_on x t found = record {
      here = λ l.
          let b = goes.here (omega (arith, l, le-max_left s.rank t.rank)) in
          let d = found.0 (omega (arith, l, le-max_right s.rank t.rank)) in (
            b.0 ++ d.0,
            b.1 ∙ ap (with_bodies b.0) (is ∙ ap (λ o. o >>= next) d.1) ∙ bodies_twice b.0 d.0 (next (f x)),
            λ c. subst (λ (test : Bool). FromOn (both_right s.right t.right) n test)
                (sym (list_all-append (body_passes p n (λ v. has_type p n v)) b.0 d.0))
                (both_from s.right t.right n (are_right p n b.0) (are_right p n d.0) (b.2 c) (d.2 c)),
          );
      none = λ l. elim (cases_lt n s.rank) [
        | inl m ↦ goes.none m
        | inr m ↦
            let b = goes.here m in
            b.1 ∙ ap (with_bodies b.0) (is ∙ ap (λ o. o >>= next) (found.1 (under_both s.rank t.rank n m l)))
      ];
    }

    pub stops : {V : Type 0} (g : V → Z) → TypesTo f p closed n typings.Nothing step → TypesTo g p closed n typings.Nothing whole
    stops g found = none_left (is ∙ ap (λ o. o >>= next) found)

    pub opens
        : {V : Type 0} (g : V → Z) (a b : Pending) → TypesTo f p closed n (typings.Open a) step
        → TypesTo g p closed n (typings.Open b) whole
    opens g a b found = λ c. none_left (is ∙ ap (λ o. o >>= next) (found c))

  module _ {V Z : Type 0} (g : V → Z) (s : Seen) (whole rest : Types Z) (goes : Going p closed n s whole rest) where
    -- what is left is nothing
    pub ends_none : rest ≡ None → TypesTo g p closed n typings.Nothing whole
    ends_none e = elim (cases_lt n s.rank) [
      | inl l ↦ goes.none l
      | inr l ↦ let b = goes.here l in b.1 ∙ ap (with_bodies b.0) e
    ]

    -- what is left is this
    pub ends : (z : V) → rest ≡ gives (g z) → TypesTo g p closed n (typings.Found z s) whole
    ends z e = (
      λ l. let b = goes.here l in (
        b.0,
        b.1 ∙ ap (with_bodies b.0) e ∙ ap (λ (ds : List Standing). Some (g z, ds)) (nil_right b.0),
        b.2,
      ),
      goes.none,
    )

    -- what is left is this, if there is one
    pub ends_if : (o : Option V) → rest ≡ only (option_map g o) → TypesTo g p closed n (only_found o s) whole
    ends_if None e = ends_none e
    ends_if (Some z) e = ends z e

    pub ends_open : (a : Pending) → (closed → rest ≡ None) → TypesTo g p closed n (typings.Open a) whole
    ends_open a e = λ c. elim (cases_lt n s.rank) [
      | inl l ↦ goes.none l
      | inr l ↦ let b = goes.here l in b.1 ∙ ap (with_bodies b.0) (e c)
    ]

    -- what is left is typed
    pub ends_found : (z : V) (t : Seen) → TypesTo g p closed n (typings.Found z t) rest
        → TypesTo g p closed n (typings.Found z (both_seen s t)) whole
    ends_found z t found = (
      λ l.
          let b = goes.here (omega (arith, l, le-max_left s.rank t.rank)) in
          let d = found.0 (omega (arith, l, le-max_right s.rank t.rank)) in (
            b.0 ++ d.0,
            b.1 ∙ ap (with_bodies b.0) d.1,
            λ c. subst (λ (test : Bool). FromOn (both_right s.right t.right) n test)
                (sym (list_all-append (body_passes p n (λ v. has_type p n v)) b.0 d.0))
                (both_from s.right t.right n (are_right p n b.0) (are_right p n d.0) (b.2 c) (d.2 c)),
          ),
      λ l. elim (cases_lt n s.rank) [
        | inl m ↦ goes.none m
        | inr m ↦ let b = goes.here m in b.1 ∙ ap (with_bodies b.0) (found.1 (under_both s.rank t.rank n m l))
      ],
    )

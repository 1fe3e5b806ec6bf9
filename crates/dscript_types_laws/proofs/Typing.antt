-- What it takes that a part of an expression has a type.
use Rattle.std.proofs.Common.{◌≡◌, ℕ, Bool, true, false, List, [], ◌++◌, Option, Some, None, refl, sym, ap, ◌∙◌}
use Rattle.std.specs.List.{list_all}
use Rattle.std.proofs.lemmas.List.Folds.{list_all-append}
use Rattle.dscript_program.specs.ProgramData.{ProgramData}
use Rattle.dscript_types_meaning.specs.Contexts.{Known, Standing, Types, gives, needs, only, with_bodies, ◌>>=◌, ◌>>◌}
use Rattle.dscript_types_meaning.specs.Types.{TypeData}
use Rattle.dscript_types_meaning.specs.Expressions.{Subject, is}
use Rattle.dscript_types_meaning.specs.Bodies.{standing_uses}
use Rattle.dscript_types_values.proofs.Among.{and_left, and_right}
use Rattle.dscript_types_laws.specs.Invariants.{is_checked}
use Rattle.dscript_types_laws.proofs.Pairs.{some_pair}

-- ## Parts one after another

bodies_case
    : {Y : Type 0} (first : List Standing) (o : Types Y) (y : Y) (bodies : List Standing)
    → with_bodies first o ≡ Some (y, bodies)
    → (more : List Standing) × (o ≡ Some (y, more)) × (bodies ≡ first ++ more)
bodies_case first None y bodies e = absurd cc
bodies_case first (Some q) y bodies e =
    let s = some_pair q.0 y (first ++ q.1) bodies e in (q.1, ap (λ z. Some (z, q.1)) s.0, sym s.1)

module _ {X Y : Type 0} where
  -- a part, and what follows with its value
  pub in_turn
      : (m : Types X) (f : X → Types Y) (y : Y) (bodies : List Standing) → (m >>= f) ≡ Some (y, bodies)
      → (x : X) × (first : List Standing) × (more : List Standing) × (m ≡ Some (x, first))
      × (f x ≡ Some (y, more)) × (bodies ≡ first ++ more)
  in_turn None f y bodies e = absurd cc
  in_turn (Some r) f y bodies e =
      let b = bodies_case r.1 (f r.0) y bodies e in (r.0, r.1, b.0, refl, b.1, b.2)

module _ {X : Type 0} where
  pub only_is
      : (o : Option X) (x : X) (bodies : List Standing) → only o ≡ Some (x, bodies) → (o ≡ Some x) × (bodies ≡ [])
  only_is None x bodies e = absurd cc
  only_is (Some y) x bodies e = let s = some_pair y x [] bodies e in (ap Some s.0, sym s.1)

  pub gives_is : (y x : X) (bodies : List Standing) → gives y ≡ Some (x, bodies) → (y ≡ x) × (bodies ≡ [])
  gives_is y x bodies e = let s = some_pair y x [] bodies e in (s.0, sym s.1)

pub needs_is : (b : Bool) (u : Unit {0}) (bodies : List Standing) → needs b ≡ Some (u, bodies) → (b ≡ true) × (bodies ≡ [])
needs_is true u bodies e = (refl, sym (some_pair tt u [] bodies e).1)
needs_is false u bodies e = absurd cc

-- a part without a value of its own, and then a type
abbrev pub then_is : Types (Unit {0}) → TypeData → Types Subject
then_is m t = m >> is t

-- ## Bodies

module _ (p : ProgramData) (known : Known) where
  -- each expression in these bodies has a type
  pub record AreChecked (bodies : List Standing) : Type 0 where
    pub depth : ℕ
    pub is : list_all (λ body. list_all (is_checked p known depth) (standing_uses p known body)) bodies ≡ true

  pub checked_first : (first more bodies : List Standing) → bodies ≡ first ++ more → AreChecked bodies → AreChecked first
  checked_first first more bodies e c = record {
    depth = c.depth;
    is = and_left (list_all test first) (list_all test more)
        (sym (list_all-append test first more) ∙ ap (list_all test) (sym e) ∙ c.is);
  }
    where
      test : Standing → Bool
      test body = list_all (is_checked p known c.depth) (standing_uses p known body)

  pub checked_more : (first more bodies : List Standing) → bodies ≡ first ++ more → AreChecked bodies → AreChecked more
  checked_more first more bodies e c = record {
    depth = c.depth;
    is = and_right (list_all test first) (list_all test more)
        (sym (list_all-append test first more) ∙ ap (list_all test) (sym e) ∙ c.is);
  }
    where
      test : Standing → Bool
      test body = list_all (is_checked p known c.depth) (standing_uses p known body)

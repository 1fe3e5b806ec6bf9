-- A walk over the expressions of a body, one after another.
use Rattle.std.proofs.Common.{◌&&◌, ◌++◌, ◌∙◌, ◌∷◌, ◌≡◌, ℕ, Bool, List, None, Option, Some, [], ap, append_assoc, arith, false, inl, inr, refl, subst, suc, sym, true}
use Rattle.std.proofs.Math.Nat.{le-max_left, le-max_right}
use Rattle.std.proofs.lemmas.Bool.{cases_lt}
use Rattle.std.proofs.lemmas.List.Elements.{filter_map-append}
use Rattle.std.proofs.lemmas.List.Folds.{list_all-append}
use Rattle.std.specs.List.{filter_map, list_all}
use Rattle.std.specs.Option.{option_and_then, option_map}
use Rattle.dscript_program.specs.ProgramData.{ProgramData}
use Rattle.dscript_types_known.specs.Findings.{Finding, Found, Nothing, Open, Tells}
use Rattle.dscript_types_meaning.specs.Bodies.{Use, all_types, if_returned, is_right_at, use_type}
use Rattle.dscript_types_meaning.specs.Contexts.{Context, Known, Types, bare}
use Rattle.dscript_types_meaning.specs.Expressions.{expr_type}
use Rattle.dscript_types_meaning.specs.Typed.{has_type, known_within}
use Rattle.dscript_types_meaning.specs.Types.{TypeData}
use Rattle.dscript_types_notes.specs.Means.{program_of}
use Rattle.dscript_types_notes.specs.declared.world.World.{World}
use Rattle.dscript_types_scenes.proofs.FromOns.{both_from}
use Rattle.dscript_types_scenes.proofs.Going.{nil_right, under_both}
use Rattle.dscript_types_scenes.specs.Scenes.{Closed, GoesTo}
use Rattle.dscript_types_scenes.specs.Typings.{FromOn, TypesTo, both_right}
use Rattle.dscript_types_scenes.specs.Walks.{RuleSays, finding_types, judged, returned}
use Rattle.dscript_types_scenes.specs.declared.found.Seen.{Seen}
use Rattle.dscript_types_scenes.specs.declared.found.Typing.{Typing}
use Rattle.dscript_types_scenes.specs.declared.found.Typing.TheVariants as typings
use Rattle.dscript_types_scenes.specs.declared.scene.Scene.{Scene}
use Rattle.dscript_types_scenes.specs.declared.walk.Rule.{Rule}
use Rattle.dscript_types_scenes.specs.declared.walk.Walk.{Walk}
use Rattle.dscript_types_exprs.proofs.Judging.{judged_says, typed_as}
use Rattle.dscript_types_exprs.specs.Walks.{IsWalk, Walks}

-- ## Walks, one after another

abbrev pub Uses : Type 0
Uses = ProgramData → Known → Context → List Use

module _ (w : World) (scene : Scene) where
  -- nothing stands there
  pub walks_none : (walk : Walk) → Walks w scene walk walk (λ p known c. [])
  walks_none walk n more c before below within m is =
      subst (λ (us : List Use). IsWalk (program_of w) (Closed w more) n us walk) (sym (nil_right before)) is

  pub walks_then
      : (old mid new : Walk) (first second : Uses) → Walks w scene old mid first → Walks w scene mid new second
      → Walks w scene old new (λ p known c. first p known c ++ second p known c)
  walks_then old mid new first second one two n more c before below within m is =
      let p = program_of w in let known = known_within p n in
      subst (λ (us : List Use). IsWalk p (Closed w more) n us new)
      (append_assoc before (first p known c) (second p known c))
      (two n more c (before ++ first p known c) below within m (one n more c before below within m is))

  -- in another scene
  pub walks_in
      : (inner : Scene) (context : ProgramData → Known → Context → Context) (old new : Walk) (uses : Uses)
      → GoesTo w scene inner context → Walks w inner old new uses
      → Walks w scene old new (λ p known c. uses p known (context p known c))
  walks_in inner context old new uses goes walks n more c before below within m is =
      walks n more (context (program_of w) (known_within (program_of w) n) c) before below within (goes n more c below within m) is

-- ## Types of what is returned

alone
    : (o : Option TypeData)
    → option_and_then (λ (t : TypeData). option_map (λ (ts : List TypeData). t ∷ ts) (Some [])) o
    ≡ option_map (λ (t : TypeData). [] ++ t ∷ []) o
alone None = refl
alone (Some t) = refl

turned
    : (a : Option TypeData) (b : Option (List TypeData)) (o : Option TypeData)
    → option_and_then (λ (t : TypeData). option_map (λ (ts : List TypeData). t ∷ ts)
    (option_and_then (λ (ts : List TypeData). option_map (λ (u : TypeData). ts ++ u ∷ []) o) b)) a
    ≡ option_and_then (λ (ts : List TypeData). option_map (λ (u : TypeData). ts ++ u ∷ []) o)
    (option_and_then (λ (t : TypeData). option_map (λ (ts : List TypeData). t ∷ ts) b) a)
turned None b o = refl
turned (Some t) None o = refl
turned (Some t) (Some ts) None = refl
turned (Some t) (Some ts) (Some u) = refl

types_last
    : (p : ProgramData) (known : Known) (us : List Use) (u : Use)
    → all_types p known (us ++ u ∷ [])
    ≡ option_and_then (λ (ts : List TypeData). option_map (λ (t : TypeData). ts ++ t ∷ []) (bare (expr_type p known u.context u.expr)))
    (all_types p known us)
types_last p known [] u = alone (bare (expr_type p known u.context u.expr))
types_last p known (v ∷ us) u =
    ap (λ (o : Option (List TypeData)). option_and_then (λ (t : TypeData). option_map (λ (ts : List TypeData). t ∷ ts) o)
    (bare (expr_type p known v.context v.expr))) (types_last p known us u)
    ∙ turned (bare (expr_type p known v.context v.expr)) (all_types p known us) (bare (expr_type p known u.context u.expr))

-- what is found of the types, with another
module _ (p : ProgramData) (closed : Type 0) (n : ℕ) (m : Types TypeData) (o : Option (List TypeData)) where
  abbrev with_last : Option (List TypeData)
  with_last = option_and_then (λ (ts : List TypeData). option_map (λ (t : TypeData). ts ++ t ∷ []) (bare m)) o

  no_last : (e : bare m ≡ None) (q : Option (List TypeData))
      → option_and_then (λ (ts : List TypeData). option_map (λ (t : TypeData). ts ++ t ∷ []) (bare m)) q ≡ None
  no_last e None = refl
  no_last e (Some ts) = ap (option_map (λ (t : TypeData). ts ++ t ∷ [])) e

  pub returned_tells
      : (f : Finding (List TypeData)) (found : Typing TypeData) → Tells closed n f o → TypesTo typed_as p closed n found m
      → Tells closed n (returned f found) with_last
  returned_tells (Found types rank) (typings.Found t seen) tells found = (
    λ l.
        let b = found.0 (omega (arith, l, le-max_right rank seen.rank)) in
        ap (option_and_then (λ (ts : List TypeData). option_map (λ (u : TypeData). ts ++ u ∷ []) (bare m)))
        (tells.0 (omega (arith, l, le-max_left rank seen.rank)))
        ∙ ap (λ q. option_map (λ (u : TypeData). types ++ u ∷ []) (bare q)) b.1,
    λ l. elim (cases_lt n rank) [
      | inl less ↦
          ap (option_and_then (λ (ts : List TypeData). option_map (λ (u : TypeData). ts ++ u ∷ []) (bare m))) (tells.1 less)
      | inr more_or ↦ no_last (ap bare (found.1 (under_both rank seen.rank n more_or l))) o
    ],
  )
  returned_tells (Found types rank) typings.Nothing tells found = no_last (ap bare found) o
  returned_tells (Found types rank) (typings.Open pending) tells found = λ c. no_last (ap bare (found c)) o
  returned_tells Nothing found tells types =
      ap (option_and_then (λ (ts : List TypeData). option_map (λ (u : TypeData). ts ++ u ∷ []) (bare m))) tells
  returned_tells Open found tells types = λ c.
      ap (option_and_then (λ (ts : List TypeData). option_map (λ (u : TypeData). ts ++ u ∷ []) (bare m))) (tells c)

-- ## One expression

and_true : (b : Bool) → (b && true) ≡ b
and_true true = refl
and_true false = refl

module _ (p : ProgramData) (closed : Type 0) (n : ℕ) (before : List Use) (u : Use) (old new : Walk)
    (is : IsWalk p closed n before old) (found : Typing TypeData) (rule : Rule)
    (types : TypesTo typed_as p closed n found (expr_type p (known_within p n) u.context u.expr))
    (rules : (t : TypeData) (seen : Seen) → found ≡ typings.Found t seen
    → RuleSays closed n rule (is_right_at p (known_within p n) u.context u.spot t))
    (right : new.right ≡ both_right old.right (judged found rule)) where
  one_right : closed → FromOn new.right n (list_all (has_type p (suc n)) (before ++ u ∷ []))
  unfolding has_type use_type
  one_right c =
      subst (λ (from : Option ℕ). FromOn from n (list_all (has_type p (suc n)) (before ++ u ∷ []))) (sym right)
      (subst (λ (b : Bool). FromOn (both_right old.right (judged found rule)) n b)
      (sym (list_all-append (has_type p (suc n)) before (u ∷ [])
      ∙ ap (λ b. list_all (has_type p (suc n)) before && b) (and_true (has_type p (suc n) u))))
      (both_from old.right (judged found rule) n (list_all (has_type p (suc n)) before) (has_type p (suc n) u) (is.right c)
      (judged_says p closed n (expr_type p (known_within p n) u.context u.expr)
      (is_right_at p (known_within p n) u.context u.spot) found rule types rules c)))

  -- an expression that is not returned
  pub walks_over : filter_map if_returned (u ∷ []) ≡ [] → new.returns ≡ old.returns → IsWalk p closed n (before ++ u ∷ []) new
  walks_over passed same = record {
    returns =
        subst (λ (us : List Use). Tells closed n (finding_types new.returns) (all_types p (known_within p n) us))
        (sym (filter_map-append if_returned before (u ∷ [])
        ∙ ap (λ (us : List Use). filter_map if_returned before ++ us) passed ∙ nil_right (filter_map if_returned before)))
        (subst (λ f. Tells closed n (finding_types f) (all_types p (known_within p n) (filter_map if_returned before))) (sym same)
        is.returns);
    right = one_right;
  }

  -- an expression that is returned
  pub walks_out
      : filter_map if_returned (u ∷ []) ≡ u ∷ [] → finding_types new.returns ≡ returned (finding_types old.returns) found
      → IsWalk p closed n (before ++ u ∷ []) new
  walks_out kept adds = record {
    returns =
        subst (λ (f : Finding (List TypeData)). Tells closed n f (all_types p (known_within p n) (filter_map if_returned (before ++ u ∷ []))))
        (sym adds)
        (subst (λ (q : Option (List TypeData)). Tells closed n (returned (finding_types old.returns) found) q)
        (sym (ap (all_types p (known_within p n))
        (filter_map-append if_returned before (u ∷ []) ∙ ap (λ (us : List Use). filter_map if_returned before ++ us) kept)
        ∙ types_last p (known_within p n) (filter_map if_returned before) u))
        (returned_tells p closed n (expr_type p (known_within p n) u.context u.expr)
        (all_types p (known_within p n) (filter_map if_returned before)) (finding_types old.returns) found is.returns types));
    right = one_right;
  }

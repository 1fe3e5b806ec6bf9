-- Scenes with other locals.
use Rattle.std.proofs.Common.{◌<◌, ◌==◌, ◌∙◌, ◌≡◌, ◌≤◌, ℕ, Bool, None, Option, Some, ap, cond, false, inl, inr, subst, sym, true}
use Rattle.std.proofs.lemmas.Bool.{cases_lt}
use Rattle.std.proofs.lemmas.Bool.Decides.{Decides-eqb, Decides-like, same_from_decides}
use Rattle.std.specs.Option.{option_map}
use Rattle.dscript_types_known.specs.Findings.{Finding, Found, Nothing, Open, Tells, finding_map}
use Rattle.dscript_types_known.specs.Matching.{FoundLocal, FoundLocals, LocalMatches, LocalsMatch}
use Rattle.dscript_types_known.specs.Views.{locals_at}
use Rattle.dscript_types_meaning.specs.Contexts.{Context, Hold, Local, local_at, with_local}
use Rattle.dscript_types_meaning.specs.Types.{TypeData}
use Rattle.dscript_types_notes.specs.Means.{IsAt, found_if}
use Rattle.dscript_types_notes.specs.declared.world.Place.{Place}
use Rattle.dscript_types_notes.specs.declared.world.World.{World}
use Rattle.dscript_types_scenes.specs.Scenes.{Closed, GoesTo, IsSameScene, IsSceneWith, Matches, with_found}
use Rattle.dscript_types_scenes.specs.declared.scene.Scene.{Scene}

-- what there may not be, from a rank on
pub tells_if
    : {X : Type 0} (closed : Type 0) (n rank : ℕ) (o answer : Option X) → (rank ≤ n → answer ≡ o) → (n < rank → answer ≡ None)
    → Tells closed n (found_if o rank) answer
tells_if closed n rank None answer here before = elim (cases_lt n rank) [
  | inl less ↦ before less
  | inr more_or ↦ here more_or
]
tells_if closed n rank (Some x) answer here before = (here, before)

flip : (a b : ℕ) → (a == b) ≡ (b == a)
flip a b = same_from_decides (a == b) (b == a) (Decides-eqb a b) (Decides-like (b == a) sym sym (Decides-eqb b a))

place_as : (place new : Place) (c : Context) → new ≡ place → IsAt place c → IsAt new c
place_as place new c e at = subst (λ (q : Place). IsAt q c) (sym e) at

module _ (closed : Type 0) (n : ℕ) where
  local_as
      : (f g : Option FoundLocal) (l : Option Local) → g ≡ f → LocalMatches closed n f l → LocalMatches closed n g l
  local_as f g l e m = subst (λ (o : Option FoundLocal). LocalMatches closed n o l) (sym e) m

  -- a copy
  pub same_matches : (scene copy : Scene) (c : Context) → IsSameScene scene copy → Matches closed n scene c → Matches closed n copy c
  same_matches scene copy c same m = record {
    place = place_as scene.place copy.place c same.place m.place;
    locals = λ number.
        local_as (locals_at scene.locals number) (locals_at copy.locals number) (local_at c number) (same.locals number)
        (m.locals number);
  }

  -- ## Another local

  pub one_matches
      : (f : FoundLocal) (l : Local) (g : Option FoundLocal) (k : Option Local) (test : Bool)
      → LocalMatches closed n (Some f) (Some l) → LocalMatches closed n g k
      → LocalMatches closed n (cond test (Some f) g) (cond test (Some l) k)
  one_matches f l g k true own other = own
  one_matches f l g k false own other = other

  -- the context has the local too
  pub locals_with
      : (locals : FoundLocals) (c : Context) (number : ℕ) (f : FoundLocal) (t : Option TypeData) (hold : Hold)
      → f.hold ≡ hold → Tells closed n f.type_data t → LocalsMatch closed n locals c
      → LocalsMatch closed n (with_found locals number f) (with_local number t hold c)
  locals_with locals c number f t hold holds tells m = λ other.
      let l : Local = record { number = number; type_data = t; hold = hold } in
      subst (λ (test : Bool). LocalMatches closed n (with_found locals number f other) (cond test (Some l) (local_at c other)))
      (flip other number)
      (one_matches f l (locals other) (local_at c other) (other == number) (holds, tells) (m other))

  pub with_matches
      : (scene new : Scene) (c : Context) (number : ℕ) (f : FoundLocal) (t : Option TypeData) (hold : Hold)
      → IsSceneWith scene number f new → f.hold ≡ hold → Tells closed n f.type_data t → Matches closed n scene c
      → Matches closed n new (with_local number t hold c)
  with_matches scene new c number f t hold is holds tells m =
      let there = locals_with (locals_at scene.locals) c number f t hold holds tells m.locals in
      record {
        place = record {
          file = m.place.file ∙ ap (λ (q : Place). q.file) (sym is.place);
          around = m.place.around ∙ ap (λ (q : Place). q.around.now) (sym is.place);
          parameters = m.place.parameters ∙ ap (λ (q : Place). q.parameters.now) (sym is.place);
        };
        locals = λ other.
            local_as (with_found (locals_at scene.locals) number f other) (locals_at new.locals other)
            (local_at (with_local number t hold c) other) (is.locals other) (there other);
      }

  -- ## What is found of something else

  pub tells_mapped
      : {X Y : Type 0} (g : X → Y) (f : Finding X) (o : Option X) → Tells closed n f o
      → Tells closed n (finding_map g f) (option_map g o)
  tells_mapped g (Found x rank) o tells = (λ l. ap (option_map g) (tells.0 l), λ l. ap (option_map g) (tells.1 l))
  tells_mapped g Nothing o tells = ap (option_map g) tells
  tells_mapped g Open o tells = λ c. ap (option_map g) (tells c)

-- a copy is the scene of the same context
pub same_goes : (w : World) (scene new : Scene) → IsSameScene scene new → GoesTo w scene new (λ p known c. c)
same_goes w scene new same n more c below within m = same_matches (Closed w more) n scene new c same m

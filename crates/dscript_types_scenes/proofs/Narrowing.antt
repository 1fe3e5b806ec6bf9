-- Where a condition has come out so.
use Rattle.std.proofs.Common.{◌∙◌, ◌≡◌, ℕ, Bool, None, Option, Some, ap, false, refl, subst, sym, true}
use Rattle.std.specs.Bool.{beq}
use Rattle.std.specs.Option.{option_map}
use Rattle.dscript_program.specs.BoundTree.{ExprData}
use Rattle.dscript_types_known.specs.Findings.{Finding, Tells, finding_map}
use Rattle.dscript_types_known.specs.Matching.{FoundLocal, LocalMatches}
use Rattle.dscript_types_known.specs.Views.{locals_at}
use Rattle.dscript_types_meaning.specs.Contexts.{Context, Fixed, Hold, Local, local_at}
use Rattle.dscript_types_meaning.specs.Narrowing.{Told, following, narrow_held, narrow_local, narrow_told, narrowed, told}
use Rattle.dscript_types_meaning.specs.Types.{TypeData}
use Rattle.dscript_types_meaning.specs.Unions.{without_undefined}
use Rattle.dscript_types_notes.specs.declared.world.World.{World}
use Rattle.dscript_types_scenes.proofs.Naming.{unseen_local}
use Rattle.dscript_types_scenes.proofs.Scening.{same_matches, tells_mapped, with_matches}
use Rattle.dscript_types_scenes.specs.Scenes.{Closed, GoesTo, IsSameScene, IsSceneWith, Matches}
use Rattle.dscript_types_scenes.specs.declared.scene.Scene.{Scene}

-- ## By what a condition says

module _ (outcome : Bool) (e : ExprData) where
  narrowed_by : (t : Option Told) (c : Context) → t ≡ told e → narrowed outcome e c ≡ narrow_told outcome t c
  unfolding narrowed
  narrowed_by t c is = ap (λ (o : Option Told). narrow_told outcome o c) (sym is)

  other_outcome : (n : ℕ) (when : Bool) (c : Context) → beq outcome when ≡ false → narrow_told outcome (Some (n, when)) c ≡ c
  other_outcome n when c is = rw (is, narrow_told) refl

  this_outcome : (n : ℕ) (when : Bool) (c : Context) → beq outcome when ≡ true
      → narrow_told outcome (Some (n, when)) c ≡ narrow_local n (local_at c n) c
  this_outcome n when c is = rw (is, narrow_told) refl

  module _ (scene new : Scene) where
    as_context
        : (context : Context → Context) → ((c : Context) → narrowed outcome e c ≡ context c)
        → (w : World) → GoesTo w scene new (λ p known c. context c) → GoesTo w scene new (λ p known c. narrowed outcome e c)
    as_context context same w goes n more c below within m =
        subst (λ (d : Context). Matches (Closed w more) n new d) (sym (same c)) (goes n more c below within m)

    copied : IsSameScene scene new → (w : World) → GoesTo w scene new (λ p known c. c)
    copied same w n more c below within m = same_matches (Closed w more) n scene new c same m

    -- it says nothing
    pub says_nothing
        : None ≡ told e → IsSameScene scene new → (w : World) → GoesTo w scene new (λ p known c. narrowed outcome e c)
    says_nothing none same w = as_context (λ c. c) (λ c. narrowed_by None c none) w (copied same w)

    -- nor of this outcome
    pub says_of_other
        : (number : ℕ) (when : Bool) → Some (number, when) ≡ told e → beq outcome when ≡ false → IsSameScene scene new
        → (w : World) → GoesTo w scene new (λ p known c. narrowed outcome e c)
    says_of_other number when is other same w =
        as_context (λ c. c) (λ c. narrowed_by (Some (number, when)) c is ∙ other_outcome number when c other) w (copied same w)

    -- of a local
    says_of_local
        : (number : ℕ) (when : Bool) → Some (number, when) ≡ told e → beq outcome when ≡ true
        → (w : World) → GoesTo w scene new (λ p known c. narrow_local number (local_at c number) c)
        → GoesTo w scene new (λ p known c. narrowed outcome e c)
    says_of_local number when is this w goes =
        as_context (λ c. narrow_local number (local_at c number) c)
        (λ c. narrowed_by (Some (number, when)) c is ∙ this_outcome number when c this) w goes

    pub says_of_seen
        : (number : ℕ) (when : Bool) → Some (number, when) ≡ told e → beq outcome when ≡ true
        → ((w : World) → GoesTo w scene new (λ p known c. narrow_local number (local_at c number) c))
        → (w : World) → GoesTo w scene new (λ p known c. narrowed outcome e c)
    says_of_seen number when is this goes w = says_of_local number when is this w (goes w)

    -- of one that is not seen
    pub says_of_missing
        : (number : ℕ) (when : Bool) → Some (number, when) ≡ told e → beq outcome when ≡ true
        → None ≡ locals_at scene.locals number → IsSameScene scene new
        → (w : World) → GoesTo w scene new (λ p known c. narrowed outcome e c)
    says_of_missing number when is this none same w =
        says_of_local number when is this w (λ n more c below within m.
        subst (λ (k : Option Local). Matches (Closed w more) n new (narrow_local number k c))
        (sym (unseen_local (Closed w more) n (locals_at scene.locals number) (local_at c number) (sym none) (m.locals number)))
        (copied same w n more c below within m))

-- ## A local

module _ (scene new : Scene) (number : ℕ) (f : FoundLocal) (there : Some f ≡ locals_at scene.locals number) where
  seen
      : (closed : Type 0) (n : ℕ) (c : Context) → Matches closed n scene c → LocalMatches closed n (Some f) (local_at c number)
  seen closed n c m = subst (λ (o : Option FoundLocal). LocalMatches closed n o (local_at c number)) (sym there) (m.locals number)

  -- one that may be assigned
  pub not_narrowed
      : ((t : Option TypeData) (c : Context) → narrow_held number t f.hold c ≡ c) → IsSameScene scene new
      → (w : World) → GoesTo w scene new (λ p known c. narrow_local number (local_at c number) c)
  not_narrowed kept same w n more c below within m = at_local (local_at c number) (seen (Closed w more) n c m)
    where
      at_local : (k : Option Local) → LocalMatches (Closed w more) n (Some f) k → Matches (Closed w more) n new (narrow_local number k c)
      at_local None h = absurd h
      at_local (Some l) h =
          subst (λ (d : Context). Matches (Closed w more) n new d)
          (sym (ap (λ (hold : Hold). narrow_held number l.type_data hold c) (sym h.0) ∙ kept l.type_data c))
          (same_matches (Closed w more) n scene new c same m)

  -- one that always holds its first value
  pub is_narrowed
      : (g : FoundLocal) → f.hold ≡ Fixed → g.hold ≡ Fixed → g.type_data ≡ finding_map without_undefined f.type_data
      → IsSceneWith scene number g new
      → (w : World) → GoesTo w scene new (λ p known c. narrow_local number (local_at c number) c)
  is_narrowed g fixed holds types is w n more c below within m = at_local (local_at c number) (seen (Closed w more) n c m)
    where
      at_local : (k : Option Local) → LocalMatches (Closed w more) n (Some f) k → Matches (Closed w more) n new (narrow_local number k c)
      at_local None h = absurd h
      at_local (Some l) h =
          subst (λ (d : Context). Matches (Closed w more) n new d)
          (sym (ap (λ (hold : Hold). narrow_held number l.type_data hold c) (sym h.0 ∙ fixed)))
          (with_matches (Closed w more) n scene new c number g (option_map without_undefined l.type_data) Fixed is holds
          (subst (λ (q : Finding TypeData). Tells (Closed w more) n q (option_map without_undefined l.type_data)) (sym types)
          (tells_mapped (Closed w more) n without_undefined f.type_data l.type_data h.1)) m)

-- ## After an operand

pub followed
    : (outcome o : Option Bool) (e : ExprData) (scene new : Scene) → outcome ≡ o
    → ((w : World) → GoesTo w scene new (λ p known c. following o e c))
    → (w : World) → GoesTo w scene new (λ p known c. following outcome e c)
followed outcome o e scene new is goes w =
    subst (λ (q : Option Bool). GoesTo w scene new (λ p known c. following q e c)) (sym is) (goes w)

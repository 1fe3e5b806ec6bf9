-- What functions answer that stand as callbacks.
use Rattle.std.proofs.Common.{◌&&◌, ◌+◌, ◌-◌, ◌<◌, ◌∙◌, ◌∷◌, ◌≡◌, ◌≤◌, ◌⊎◌, ℕ, Bool, List, None, Option, Some, [], ap, arith, inl, inr, max, refl, subst, suc, sym, true, zero}
use Rattle.std.proofs.Math.Nat.{le-max_left, le-max_right}
use Rattle.std.proofs.lemmas.Bool.{cases_lt}
use Rattle.std.specs.List.{list_all}
use Rattle.std.specs.Option.{option_map}
use Rattle.dscript_program.specs.ProgramData.{FunctionData, ProgramData}
use Rattle.dscript_types_known.specs.Findings.{Finding, Found, Nothing, Open, Tells}
use Rattle.dscript_types_known.specs.Views.{finding_data}
use Rattle.dscript_types_known.specs.declared.finding.Finding.{Finding as AnyFinding}
use Rattle.dscript_types_known.specs.declared.finding.Finding.TheVariants as findings
use Rattle.dscript_types_known.specs.declared.finding.Pending.{Pending}
use Rattle.dscript_types_meaning.specs.Bodies.{body_uses, callback_uses, inferred}
use Rattle.dscript_types_meaning.specs.Contexts.{◌>>=◌, Callback, Context, Known, Local, Standing, Types, only, with_bodies}
use Rattle.dscript_types_meaning.specs.Functions.{answer_standing, arrow_answer, callback_context, given_locals}
use Rattle.dscript_types_meaning.specs.Lookups.{function_at}
use Rattle.dscript_types_meaning.specs.Typed.{answer_of_callback, body_passes, has_type, known_within}
use Rattle.dscript_types_meaning.specs.Types.{TypeData}
use Rattle.dscript_types_notes.specs.Means.{program_of}
use Rattle.dscript_types_notes.specs.declared.world.World.{World}
use Rattle.dscript_types_scenes.proofs.Going.{no_bodies}
use Rattle.dscript_types_scenes.specs.Functions.{FindsScene, body_typing}
use Rattle.dscript_types_scenes.specs.Scenes.{Closed, FindsAs, IsBelow, Matches, TypesAs}
use Rattle.dscript_types_scenes.specs.Typings.{FromOn, are_right}
use Rattle.dscript_types_scenes.specs.declared.found.Seen.{Seen}
use Rattle.dscript_types_scenes.specs.declared.found.Typing.{Typing}
use Rattle.dscript_types_scenes.specs.declared.found.Typing.TheVariants as typings
use Rattle.dscript_types_scenes.specs.declared.scene.Scene.{Scene}
use Rattle.dscript_types_exprs.proofs.Below.{closed_above, closed_below, matches_under, same_program}
use Rattle.dscript_types_exprs.specs.Bodies.{IsRightAs}

abbrev typed_as : TypeData → TypeData
typed_as t = t

-- one less, if there is one
one_less : (n : ℕ) → (n ≡ 0) ⊎ ((fewer : ℕ) × (n ≡ suc fewer))
one_less zero = inl refl
one_less (suc n) = inr (n, refl)

-- from where on what holds in a body holds around it
further_from
    : (first n fewer : ℕ) (right : Option ℕ) (test : Bool) → first ≤ n → n ≡ suc fewer → FromOn right fewer test
    → FromOn (option_map (λ (from : ℕ). max first (from + 1)) right) n test
further_from first n fewer None test l e h = h
further_from first n fewer (Some from) test l e h = (
  λ m. h.0 (omega (arith, m, le-max_right first (from + 1), e)),
  λ m. h.1 (omega arith),
)

module _ (w : World) (scene : Scene) (number : ℕ) (f : FunctionData) (given : List TypeData)
    (there : function_at (program_of w) number ≡ Some f) where
  abbrev pub context_of : ProgramData → Known → Context → Option Context
  context_of p known c = option_map (callback_context c f) (given_locals p known c f.first_local f.params given)

  abbrev pub arrow_of : ProgramData → Known → Context → Types TypeData
  arrow_of p known c = arrow_answer p known number c given (Some f)

  abbrev standing_in : ProgramData → Known → Option Context → Types TypeData
  standing_in p known None = None
  standing_in p known (Some d) = answer_standing p known number d

  by_locals
      : (p : ProgramData) (known : Known) (c : Context) (o : Option (List Local))
      → (only o >>= λ locals. answer_standing p known number (callback_context c f locals))
      ≡ standing_in p known (option_map (callback_context c f) o)
  by_locals p known c None = refl
  by_locals p known c (Some locals) = no_bodies (answer_standing p known number (callback_context c f locals))

  arrow_is : (p : ProgramData) (known : Known) (c : Context) → arrow_of p known c ≡ standing_in p known (context_of p known c)
  arrow_is p known c = by_locals p known c (given_locals p known c f.first_local f.params given)

  abbrev own_body : Context → Standing
  own_body d = record { number = number; context = d }

  none_standing : (o : Option Context) → standing_in (program_of w) (known_within (program_of w) zero) o ≡ None
  unfolding known_within
  none_standing None = refl
  none_standing (Some d) = refl

  arrow_zero
      : (n : ℕ) (c : Context) → n ≡ 0 → arrow_of (program_of w) (known_within (program_of w) n) c ≡ None
  arrow_zero n c e =
      ap (λ (k : ℕ). arrow_of (program_of w) (known_within (program_of w) k) c) e
      ∙ arrow_is (program_of w) (known_within (program_of w) zero) c
      ∙ none_standing (context_of (program_of w) (known_within (program_of w) zero) c)

  answer_known
      : (fewer : ℕ) (d : Context)
      → known_within (program_of w) (suc fewer) (Callback number d)
      ≡ inferred (program_of w) (known_within (program_of w) fewer) d f.body
  unfolding known_within
  answer_known fewer d = ap (answer_of_callback (program_of w) (known_within (program_of w) fewer) d) there

  arrow_suc
      : (n fewer : ℕ) (c d : Context) → n ≡ suc fewer → context_of (program_of w) (known_within (program_of w) n) c ≡ Some d
      → arrow_of (program_of w) (known_within (program_of w) n) c
      ≡ with_bodies (own_body d ∷ []) (only (inferred (program_of w) (known_within (program_of w) fewer) d f.body))
  arrow_suc n fewer c d e is =
      arrow_is (program_of w) (known_within (program_of w) n) c
      ∙ ap (standing_in (program_of w) (known_within (program_of w) n)) is
      ∙ ap (λ (k : ℕ). with_bodies (own_body d ∷ []) (only (known_within (program_of w) k (Callback number d)))) e
      ∙ ap (λ (o : Option TypeData). with_bodies (own_body d ∷ []) (only o)) (answer_known fewer d)

  -- ## No scene

  pub arrow_nowhere : FindsScene w scene findings.Nothing context_of → TypesAs typed_as w scene typings.Nothing arrow_of
  arrow_nowhere finds n more c below within m =
      arrow_is (program_of w) (known_within (program_of w) n) c
      ∙ ap (standing_in (program_of w) (known_within (program_of w) n)) (finds n more c below within m)

  pub arrow_opens
      : (a : Pending) → FindsScene w scene (findings.Open a) context_of → TypesAs typed_as w scene (typings.Open a) arrow_of
  arrow_opens a finds n more c below within m = λ closed.
      arrow_is (program_of w) (known_within (program_of w) n) c
      ∙ ap (standing_in (program_of w) (known_within (program_of w) n)) (finds n more c below within m closed)

  -- ## None below

  pub arrow_lowest : IsBelow w None → TypesAs typed_as w scene typings.Nothing arrow_of
  arrow_lowest lowest n more c below within m = arrow_zero n c (omega (arith, lowest))

  -- ## In the scene of the body

  module _ (b : World) (is : IsBelow w (Some b)) (inner : Scene) (first : ℕ)
      (finds : FindsScene w scene (findings.Found inner first) context_of) where
    abbrev pub body_of : ProgramData → Known → Context → Option TypeData
    body_of p known d = inferred p known d f.body

    -- what is found of the body says what the arrow comes to
    in_body
        : (answer : Finding TypeData) → FindsAs b inner answer body_of
        → (n fewer more : ℕ) (c d : Context) → n ≤ more → n ≤ w.left → n ≡ suc fewer → Matches (Closed w more) fewer inner d
        → Tells (Closed w more) fewer answer (inferred (program_of w) (known_within (program_of w) fewer) d f.body)
    in_body answer finds_answer n fewer more c d below within e m =
        let tells = finds_answer fewer more d (omega (arith, e)) (omega (arith, e, is.3))
        (matches_under (Closed b more) (Closed w more) fewer inner d (closed_above w b is more) m) in
        subst (λ (p : ProgramData). Tells (Closed w more) fewer answer (inferred p (known_within p fewer) d f.body)) (same_program w b is)
        (back answer tells)
      where
        back : (a : Finding TypeData) → Tells (Closed b more) fewer a (inferred (program_of b) (known_within (program_of b) fewer) d f.body)
            → Tells (Closed w more) fewer a (inferred (program_of b) (known_within (program_of b) fewer) d f.body)
        back (Found t rank) tells = tells
        back Nothing tells = tells
        back Open tells = λ closed. tells (closed_below w b is more closed)

    -- before the rank of the scene there is none
    no_scene
        : (n more : ℕ) (c : Context) → n ≤ more → n ≤ w.left → Matches (Closed w more) n scene c → n < first
        → arrow_of (program_of w) (known_within (program_of w) n) c ≡ None
    no_scene n more c below within m l =
        arrow_is (program_of w) (known_within (program_of w) n) c
        ∙ ap (standing_in (program_of w) (known_within (program_of w) n)) ((finds n more c below within m).1 l)

    -- where the body answers nothing
    body_none
        : (n more : ℕ) (c : Context) → n ≤ more → n ≤ w.left → Matches (Closed w more) n scene c
        → ((fewer : ℕ) (d : Context) → n ≡ suc fewer → Matches (Closed w more) fewer inner d
        → inferred (program_of w) (known_within (program_of w) fewer) d f.body ≡ None)
        → arrow_of (program_of w) (known_within (program_of w) n) c ≡ None
    body_none n more c below within m none = elim (cases_lt n first) [
      | inl l ↦ no_scene n more c below within m l
      | inr l ↦ elim (one_less n) [
        | inl e ↦ arrow_zero n c e
        | inr less ↦
            let s = (finds n more c below within m).0 l in
            arrow_suc n less.0 c s.0 less.1 s.1
            ∙ ap (λ (o : Option TypeData). with_bodies (own_body s.0 ∷ []) (only o))
            (none less.0 s.0 less.1 (s.2 less.0 (omega (arith, less.1))))
      ]
    ]

    pub arrow_nothing : FindsAs b inner Nothing body_of → TypesAs typed_as w scene typings.Nothing arrow_of
    arrow_nothing answer n more c below within m =
        body_none n more c below within m
        (λ fewer d e inside. in_body Nothing answer n fewer more c d below within e inside)

    pub arrow_open
        : (a : Pending) → FindsAs b inner Open body_of → TypesAs typed_as w scene (typings.Open a) arrow_of
    arrow_open a answer n more c below within m = λ closed.
        body_none n more c below within m
        (λ fewer d e inside. in_body Open answer n fewer more c d below within e inside closed)

    module _ (t : TypeData) (rank : ℕ) (right : Option ℕ) (answer : FindsAs b inner (Found t rank) body_of)
        (are : IsRightAs b inner right (λ p known d. body_uses p known None d f.body)) where
      abbrev pub seen_around : Seen
      seen_around = record { rank = max first (rank + 1); right = option_map (λ (from : ℕ). max first (from + 1)) right }

      body_right
          : (n fewer more : ℕ) (d : Context) → n ≤ more → n ≤ w.left → n ≡ suc fewer → first ≤ n
          → Matches (Closed w more) fewer inner d → Closed w more
          → FromOn (option_map (λ (from : ℕ). max first (from + 1)) right) n (are_right (program_of w) n (own_body d ∷ []))
      body_right n fewer more d below within e l inside closed =
          let p = program_of w in
          let holds = are fewer more d (omega (arith, e)) (omega (arith, e, is.3))
          (matches_under (Closed b more) (Closed w more) fewer inner d (closed_above w b is more) inside)
          (closed_below w b is more closed) in
          let here = subst (λ (q : ProgramData). FromOn right fewer (list_all (has_type q (suc fewer)) (body_uses q (known_within q fewer) None d f.body)))
          (same_program w b is) holds in
          subst (λ (test : Bool). FromOn (option_map (λ (from : ℕ). max first (from + 1)) right) n test)
          (sym (ap (λ (k : ℕ). are_right p k (own_body d ∷ [])) e ∙ uses_are fewer d))
          (further_from first n fewer right _ l e here)
        where
          and_true : (a : Bool) → (a && true) ≡ a
          and_true true = refl
          and_true _ = refl

          uses_are
              : (k : ℕ) (d : Context)
              → are_right (program_of w) (suc k) (own_body d ∷ [])
              ≡ list_all (has_type (program_of w) (suc k)) (body_uses (program_of w) (known_within (program_of w) k) None d f.body)
          uses_are k d =
              and_true (body_passes (program_of w) (suc k) (λ v. has_type (program_of w) (suc k) v) (own_body d))
              ∙ ap (λ (o : Option FunctionData). list_all (has_type (program_of w) (suc k))
              (callback_uses (program_of w) (known_within (program_of w) k) d o)) there

      pub arrow_found : TypesAs typed_as w scene (typings.Found t seen_around) arrow_of
      arrow_found n more c below within m = (
        λ l.
            let from_first : first ≤ n = omega (arith, l, le-max_left first (rank + 1)) in
            let s = (finds n more c below within m).0 from_first in
            let fewer = n - 1 in
            let e : n ≡ suc fewer = omega (arith, l, le-max_right first (rank + 1)) in
            let inside = s.2 fewer (omega (arith, e)) in (
              own_body s.0 ∷ [],
              arrow_suc n fewer c s.0 e s.1
                  ∙ ap (λ (o : Option TypeData). with_bodies (own_body s.0 ∷ []) (only o))
                  ((in_body (Found t rank) answer n fewer more c s.0 below within e inside).0
                  (omega (arith, l, le-max_right first (rank + 1), e))),
              body_right n fewer more s.0 below within e from_first inside,
            ),
        λ l. elim (cases_lt n first) [
          | inl less ↦ no_scene n more c below within m less
          | inr over ↦
              body_none n more c below within m
              (λ fewer d e inside. (in_body (Found t rank) answer n fewer more c d below within e inside).1
              (under_rank n fewer over l e))
        ],
      )
        where
          under_rank : (n fewer : ℕ) → first ≤ n → n < max first (rank + 1) → n ≡ suc fewer → fewer < rank
          under_rank n fewer over l e = omega arith

    -- by what is found of the body
    pub arrow_told
        : (answer : AnyFinding TypeData) (right : Option ℕ) (found : Typing TypeData) → found ≡ body_typing first answer right
        → FindsAs b inner (finding_data answer) body_of → IsRightAs b inner right (λ p known d. body_uses p known None d f.body)
        → TypesAs typed_as w scene found arrow_of
    arrow_told (findings.Found t rank) right found made finds_answer are =
        subst (λ (x : Typing TypeData). TypesAs typed_as w scene x arrow_of) (sym made) (arrow_found t rank right finds_answer are)
    arrow_told findings.Nothing right found made finds_answer are =
        subst (λ (x : Typing TypeData). TypesAs typed_as w scene x arrow_of) (sym made) (arrow_nothing finds_answer)
    arrow_told (findings.Open pending) right found made finds_answer are =
        subst (λ (x : Typing TypeData). TypesAs typed_as w scene x arrow_of) (sym made) (arrow_open pending finds_answer)

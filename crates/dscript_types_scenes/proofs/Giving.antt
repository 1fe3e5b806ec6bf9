-- The parameters of a callback, one after another.
use Rattle.std.proofs.Common.{◌++◌, ◌+◌, ◌<◌, ◌∙◌, ◌∷◌, ◌≡◌, ◌≤◌, ℕ, List, None, Option, Some, [], ap, append_assoc, arith, drop, get_or, inl, inr, length, map, max, refl, subst, sym}
use Rattle.std.proofs.Math.Nat.{le-max_left, le-max_right}
use Rattle.std.proofs.lemmas.Bool.{cases_lt}
use Rattle.std.specs.Option.{option_and_then, option_map}
use Rattle.dscript_ast.specs.Views.{param_tree}
use Rattle.dscript_ast.specs.declared.expr.Param.{Param}
use Rattle.dscript_program.specs.ProgramData.{FunctionData, ProgramData}
use Rattle.dscript_types_known.specs.Findings.{Found, Nothing, Open}
use Rattle.dscript_types_known.specs.Matching.{FoundLocal, LocalMatches}
use Rattle.dscript_types_known.specs.Views.{locals_at}
use Rattle.dscript_types_known.specs.declared.finding.Finding.TheVariants as findings
use Rattle.dscript_types_known.specs.declared.finding.Pending.{Pending}
use Rattle.dscript_types_known.specs.declared.locals.Locals.{Locals}
use Rattle.dscript_types_meaning.specs.Contexts.{Context, Fixed, Known, Local, captured_locals}
use Rattle.dscript_types_meaning.specs.Functions.{callback_context, first_or_undefined, given_locals, given_parameter, parameter, rest_of}
use Rattle.dscript_types_meaning.specs.Typed.{known_within}
use Rattle.dscript_types_meaning.specs.Types.{TypeData}
use Rattle.dscript_types_notes.proofs.Going.{under_both}
use Rattle.dscript_types_notes.proofs.Meant.{append_nil, drop_all, drop_next}
use Rattle.dscript_types_notes.specs.Means.{IsAt, program_of}
use Rattle.dscript_types_notes.specs.declared.world.Place.{Place}
use Rattle.dscript_types_notes.specs.declared.world.World.{World}
use Rattle.dscript_types_scenes.proofs.Pushing.{AreBelow, at_number, captures_match, more_below, none_below, pushed}
use Rattle.dscript_types_scenes.specs.Functions.{FindsScene, IsCaptured}
use Rattle.dscript_types_scenes.specs.Scenes.{Closed, FindsAs, Matches, with_found}
use Rattle.dscript_types_scenes.specs.declared.scene.Scene.{Scene}

-- a parameter that was found, with its type
abbrev pub found_parameter : TypeData → FoundLocal
found_parameter t = record { type_data = Found t 0; hold = Fixed }

before_nothing : (o : Option (List Local)) → o ≡ option_map (λ (ls : List Local). [] ++ ls) o
before_nothing None = refl
before_nothing (Some ls) = refl

before_more
    : (done : List Local) (l : Local) (o : Option (List Local))
    → option_map (λ (ls : List Local). done ++ ls) (option_map (λ (ls : List Local). l ∷ ls) o)
    ≡ option_map (λ (ls : List Local). (done ++ l ∷ []) ++ ls) o
before_more done l None = refl
before_more done l (Some ls) = ap Some (sym (append_assoc done (l ∷ []) ls))

module _ (w : World) (scene : Scene) (f : FunctionData) (params : List Param) (given : List TypeData) where
  abbrev whole : ProgramData → Known → Context → Option (List Local)
  whole p known c = given_locals p known c f.first_local (map param_tree params) given

  abbrev left_of : ℕ → ℕ → List TypeData → ProgramData → Known → Context → Option (List Local)
  left_of i number left p known c = given_locals p known c number (map param_tree (drop i params)) left

  -- What is found of the locals of the body, from a rank on, where the parameters from this one on get what is left.
  abbrev pub GivenGo : ℕ → Locals → ℕ → ℕ → List TypeData → Type 0
  GivenGo i locals rank number left =
      (n more : ℕ) (c : Context) → n ≤ more → n ≤ w.left → Matches (Closed w more) n scene c
      → (rank ≤ n
      → (done : List Local)
      × (whole (program_of w) (known_within (program_of w) n) c
      ≡ option_map (λ (ls : List Local). done ++ ls) (left_of i number left (program_of w) (known_within (program_of w) n) c))
      × AreBelow done number
      × ((fewer : ℕ) → n ≡ fewer + 1
      → (k : ℕ) → LocalMatches (Closed w more) fewer (locals_at locals k) (at_number (done ++ captured_locals f.captured c.locals) k)))
      × (n < rank → whole (program_of w) (known_within (program_of w) n) c ≡ None)

  pub given_begin : (locals : Locals) → IsCaptured scene f.captured locals → GivenGo 0 locals 0 f.first_local given
  given_begin locals is n more c below within m = (
    λ l. (
      [],
      before_nothing (whole (program_of w) (known_within (program_of w) n) c),
      none_below f.first_local,
      λ fewer e k. captures_match (Closed w more) n fewer scene c f.captured locals is m e k,
    ),
    λ l. absurd (omega arith),
  )

  module _ (i : ℕ) (locals : Locals) (rank number : ℕ) (left : List TypeData) (goes : GivenGo i locals rank number left)
      (param : Param) (l : i < length params) (e : param ≡ get_or params i param) where
    abbrev pub parameter_of : ProgramData → Known → Context → Option TypeData
    parameter_of p known c = given_parameter p known c (param_tree param) (first_or_undefined left) (param_tree param).type_node

    left_first
        : (p : ProgramData) (known : Known) (c : Context)
        → left_of i number left p known c
        ≡ option_and_then
        (λ (t : TypeData). option_map (λ (ls : List Local). parameter number (Some t) ∷ ls) (left_of (i + 1) (number + 1) (rest_of left) p known c))
        (parameter_of p known c)
    left_first p known c = ap (λ ps. given_locals p known c number (map param_tree ps) left) (drop_next params i param l e)

    -- where the parameter has no type, there are no locals
    none_left
        : (n more : ℕ) (c : Context) → n ≤ more → n ≤ w.left → Matches (Closed w more) n scene c
        → parameter_of (program_of w) (known_within (program_of w) n) c ≡ None
        → whole (program_of w) (known_within (program_of w) n) c ≡ None
    none_left n more c below within m none = elim (cases_lt n rank) [
      | inl less ↦ (goes n more c below within m).1 less
      | inr over ↦
          let p = program_of w in let known = known_within p n in
          let g = (goes n more c below within m).0 over in
          g.1
          ∙ ap (option_map (λ (ls : List Local). g.0 ++ ls))
          (left_first p known c
          ∙ ap (option_and_then (λ (t : TypeData). option_map (λ (ls : List Local). parameter number (Some t) ∷ ls)
          (left_of (i + 1) (number + 1) (rest_of left) p known c))) none)
    ]

    pub given_goes
        : (t : TypeData) (from new_rank new_number : ℕ) (new : Locals) (new_left : List TypeData)
        → FindsAs w scene (Found t from) parameter_of → new_rank ≡ max rank from → new_number ≡ number + 1 → new_left ≡ rest_of left
        → ((k : ℕ) → locals_at new k ≡ with_found (locals_at locals) number (found_parameter t) k)
        → GivenGo (i + 1) new new_rank new_number new_left
    given_goes t from new_rank new_number new new_left finds ranks numbers lefts adds =
        subst (λ (r : ℕ). GivenGo (i + 1) new r new_number new_left) (sym ranks)
        (subst (λ (j : ℕ). GivenGo (i + 1) new (max rank from) j new_left) (sym numbers)
        (subst (λ (ts : List TypeData). GivenGo (i + 1) new (max rank from) (number + 1) ts) (sym lefts) going))
      where
        going : GivenGo (i + 1) new (max rank from) (number + 1) (rest_of left)
        going n more c below within m =
            let p = program_of w in let known = known_within p n in
            let own : Local = parameter number (Some t) in (
              λ h.
                  let g = (goes n more c below within m).0 (omega (arith, h, le-max_left rank from)) in
                  let has = (finds n more c below within m).0 (omega (arith, h, le-max_right rank from)) in (
                    g.0 ++ own ∷ [],
                    g.1
                        ∙ ap (option_map (λ (ls : List Local). g.0 ++ ls))
                        (left_first p known c
                        ∙ ap (option_and_then (λ (u : TypeData). option_map (λ (ls : List Local). parameter number (Some u) ∷ ls)
                        (left_of (i + 1) (number + 1) (rest_of left) p known c))) has)
                        ∙ before_more g.0 own (left_of (i + 1) (number + 1) (rest_of left) p known c),
                    more_below g.0 number own refl g.2,
                    λ fewer less k.
                        subst (λ (o : Option FoundLocal). LocalMatches (Closed w more) fewer o (at_number ((g.0 ++ own ∷ []) ++ captured_locals f.captured c.locals) k))
                        (sym (adds k))
                        (subst (λ (ls : List Local). LocalMatches (Closed w more) fewer (with_found (locals_at locals) number (found_parameter t) k) (at_number ls k))
                        (sym (append_assoc g.0 (own ∷ []) (captured_locals f.captured c.locals)))
                        (pushed (Closed w more) fewer (locals_at locals) g.0 (captured_locals f.captured c.locals) number (found_parameter t) own
                        refl (g.2 number (omega arith)) (refl, (λ a. refl, λ a. absurd (omega arith))) (g.3 fewer less) k)),
                  ),
              λ h. elim (cases_lt n rank) [
                | inl less ↦ (goes n more c below within m).1 less
                | inr over ↦ none_left n more c below within m ((finds n more c below within m).1 (under_both rank from n over h))
              ],
            )

    pub given_stops : FindsAs w scene Nothing parameter_of → FindsScene w scene findings.Nothing
        (λ p known c. option_map (callback_context c f) (whole p known c))
    given_stops finds n more c below within m =
        ap (option_map (callback_context c f)) (none_left n more c below within m (finds n more c below within m))

    pub given_opens : (a : Pending) → FindsAs w scene Open parameter_of → FindsScene w scene (findings.Open a)
        (λ p known c. option_map (callback_context c f) (whole p known c))
    given_opens a finds n more c below within m closed =
        ap (option_map (callback_context c f)) (none_left n more c below within m (finds n more c below within m closed))

  pub given_ends
      : (i : ℕ) (locals : Locals) (rank number : ℕ) (left : List TypeData) (inner : Scene) → length params ≤ i
      → GivenGo i locals rank number left → inner.place ≡ scene.place → inner.locals ≡ locals
      → FindsScene w scene (findings.Found inner rank) (λ p known c. option_map (callback_context c f) (whole p known c))
  given_ends i locals rank number left inner l goes placed held n more c below within m = (
    λ h.
        let p = program_of w in let known = known_within p n in
        let g = (goes n more c below within m).0 h in (
          callback_context c f g.0,
          ap (option_map (callback_context c f))
              (g.1
              ∙ ap (λ ps. option_map (λ (ls : List Local). g.0 ++ ls) (given_locals p known c number (map param_tree ps) left))
              (drop_all params i l)
              ∙ ap Some (append_nil g.0)),
          λ fewer less. record {
            place = subst (λ (q : Place). IsAt q (callback_context c f g.0)) (sym placed)
                (record { file = m.place.file; around = m.place.around; parameters = m.place.parameters });
            locals = λ k. subst
                (λ (ls : Locals). LocalMatches (Closed w more) fewer (locals_at ls k) (at_number (g.0 ++ captured_locals f.captured c.locals) k))
                (sym held) (g.3 fewer less k);
          },
        ),
    λ h. ap (option_map (callback_context c f)) ((goes n more c below within m).1 h),
  )

-- The parameters of a declared function, one after another.
use Rattle.std.proofs.Common.{◌++◌, ◌+◌, ◌<◌, ◌∙◌, ◌∷◌, ◌≡◌, ◌≤◌, ℕ, Bool, List, None, Option, Some, [], ap, append_assoc, drop, false, get_or, length, map, max, refl, subst, sym, true}
use Rattle.std.specs.Option.{option_and_then, option_map}
use Rattle.bx_tree.proofs.Lists.{none_left}
use Rattle.dscript_ast.specs.Views.{param_tree}
use Rattle.dscript_ast.specs.declared.expr.Param.{Param}
use Rattle.dscript_program.specs.ProgramData.{ProgramData}
use Rattle.dscript_types_known.specs.Findings.{Found, Nothing, Open}
use Rattle.dscript_types_meaning.specs.Contexts.{Context, Known}
use Rattle.dscript_types_meaning.specs.Fits.{fits}
use Rattle.dscript_types_meaning.specs.Functions.{all_parameters, declared_parameter, first_or_undefined, parameters_fit, rest_of}
use Rattle.dscript_types_meaning.specs.Types.{TypeData}
use Rattle.dscript_types_notes.proofs.Going.{Answers, Goes, begins_as, ends_in, from_says, goes_on, is_rest, opens, stops}
use Rattle.dscript_types_notes.proofs.Meant.{append_nil, drop_all, drop_next}
use Rattle.dscript_types_notes.specs.Means.{Says, program_of}
use Rattle.dscript_types_notes.specs.declared.world.Place.{Place}
use Rattle.dscript_types_notes.specs.declared.world.World.{World}

meant_then
    : (xs : List TypeData) (a : Option TypeData) (b : Option (List TypeData))
    → option_map (λ (us : List TypeData). xs ++ us) (option_and_then (λ (u : TypeData). option_map (λ (us : List TypeData). u ∷ us) b) a)
    ≡ option_and_then (λ (u : TypeData). option_map (λ (us : List TypeData). (xs ++ u ∷ []) ++ us) b) a
meant_then xs None b = refl
meant_then xs (Some u) None = refl
meant_then xs (Some u) (Some us) = ap Some (sym (append_assoc xs (u ∷ []) us))

nothing_before : (b : Option (List TypeData)) → b ≡ option_map (λ (us : List TypeData). [] ++ us) b
nothing_before None = refl
nothing_before (Some us) = refl

module _ (w : World) (place : Place) (params : List Param) where
  abbrev pub parameters_whole : Answers (List TypeData)
  parameters_whole p known c = all_parameters p known c (map param_tree params)

  abbrev pub parameters_rest : ℕ → List TypeData → Answers (List TypeData)
  parameters_rest i types p known c =
      option_map (λ (us : List TypeData). types ++ us) (all_parameters p known c (map param_tree (drop i params)))

  abbrev pub ParametersGo : ℕ → ℕ → List TypeData → Type 0
  ParametersGo i rank types = Goes w place 0 rank parameters_whole (parameters_rest i types)

  pub parameters_begin : (types : List TypeData) → types ≡ [] → ParametersGo 0 0 types
  parameters_begin types e =
      begins_as w place 0 parameters_whole (parameters_rest 0 types)
      (λ p known c. nothing_before (parameters_whole p known c)
      ∙ ap (λ (ts : List TypeData). option_map (λ (us : List TypeData). ts ++ us) (parameters_whole p known c)) (sym e))

  module _ (i rank : ℕ) (types : List TypeData) (param : Param) (l : i < length params) (e : param ≡ get_or params i param)
      (goes : ParametersGo i rank types) where
    abbrev parameter_meant : Answers TypeData
    parameter_meant p known c = declared_parameter p known c (param_tree param)

    abbrev then_rest : TypeData → Answers (List TypeData)
    then_rest u = parameters_rest (i + 1) (types ++ u ∷ [])

    parameters_step : (p : ProgramData) (known : Known) (c : Context)
        → parameters_rest i types p known c ≡ option_and_then (λ u. then_rest u p known c) (parameter_meant p known c)
    parameters_step p known c =
        ap (λ ps. option_map (λ (us : List TypeData). types ++ us) (all_parameters p known c (map param_tree ps)))
        (drop_next params i param l e)
        ∙ meant_then types (parameter_meant p known c) (all_parameters p known c (map param_tree (drop (i + 1) params)))

    pub parameters_go
        : (t : TypeData) (from new_rank : ℕ) (new : List TypeData) → Says w place (Found t from) parameter_meant
        → new_rank ≡ max rank from → new ≡ types ++ t ∷ [] → ParametersGo (i + 1) new_rank new
    parameters_go t from new_rank new says is made =
        subst (λ (r : ℕ). ParametersGo (i + 1) r new) (sym is)
        (subst (λ (ts : List TypeData). ParametersGo (i + 1) (max rank from) ts) (sym made)
        (goes_on w place 0 rank parameters_whole (parameters_rest i types) parameter_meant then_rest t from parameters_step says goes))

    pub parameters_stop : Says w place Nothing parameter_meant → Says w place Nothing parameters_whole
    parameters_stop says =
        from_says w place Nothing parameters_whole
        (stops w place 0 rank parameters_whole (parameters_rest i types) parameter_meant then_rest parameters_step says goes)

    pub parameters_open : Says w place Open parameter_meant → Says w place Open parameters_whole
    parameters_open says =
        from_says w place Open parameters_whole
        (opens w place 0 rank parameters_whole (parameters_rest i types) parameter_meant then_rest parameters_step says goes)

  pub parameters_end
      : (i rank : ℕ) (types : List TypeData) → length params ≤ i → ParametersGo i rank types
      → Says w place (Found types rank) parameters_whole
  parameters_end i rank types l goes =
      from_says w place (Found types rank) parameters_whole
      (ends_in w place 0 rank parameters_whole (parameters_rest i types) (Found types rank) goes
      (is_rest w place rank (parameters_rest i types) (Some types) (λ known c at.
      ap (λ ps. option_map (λ (us : List TypeData). types ++ us) (all_parameters (program_of w) known c (map param_tree ps)))
      (drop_all params i l)
      ∙ ap Some (append_nil types))))

-- ## What parameters get

fit_passes : (t : TypeData) (more right : List TypeData) → fits (first_or_undefined right) t ≡ true
    → parameters_fit (t ∷ more) right ≡ parameters_fit more (rest_of right)
fit_passes t more [] e = rw (e, parameters_fit) refl
fit_passes t more (g ∷ gs) e = rw (e, parameters_fit) refl

fit_fails : (t : TypeData) (more right : List TypeData) → fits (first_or_undefined right) t ≡ false
    → parameters_fit (t ∷ more) right ≡ false
fit_fails t more [] e = rw (e, parameters_fit) refl
fit_fails t more (g ∷ gs) e = rw (e, parameters_fit) refl

pub fit_ends : (left right : List TypeData) (whole : Bool) → length left ≡ 0 → parameters_fit left right ≡ whole → true ≡ whole
fit_ends left right whole e kept = sym (ap (λ ts. parameters_fit ts right) (none_left left e)) ∙ kept

module _ (left more right : List TypeData) (t : TypeData) (whole fit : Bool) (split : left ≡ t ∷ more)
    (kept : parameters_fit left right ≡ whole) (is : fit ≡ fits (first_or_undefined right) t) where
  pub fit_goes : (rest : List TypeData) → fit ≡ true → rest ≡ rest_of right → parameters_fit more rest ≡ whole
  fit_goes rest passed e =
      ap (parameters_fit more) e ∙ sym (fit_passes t more right (sym is ∙ passed)) ∙ sym (ap (λ ts. parameters_fit ts right) split) ∙ kept

  pub fit_stops : fit ≡ false → false ≡ whole
  fit_stops fails = sym (fit_fails t more right (sym is ∙ fails)) ∙ sym (ap (λ ts. parameters_fit ts right) split) ∙ kept

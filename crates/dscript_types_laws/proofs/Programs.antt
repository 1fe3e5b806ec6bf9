-- Typed programs keep to the kinds of values.
use Rattle.std.proofs.Common.{◌≡◌, ℕ, zero, suc, ◌+◌, ◌<◌, ◌≤◌, Bool, true, false, cond, not, ◌&&◌, ◌⊎◌, List, [], ◌∷◌, ◌++◌, length, map, slice_get, slice_set}
use Rattle.std.proofs.Common.{Option, Some, None, Result, Ok, Err, refl, sym, ap, ◌∙◌, subst, inl, inr, arith}
use Rattle.std.specs.List.{AllByRecursion, AllZip, filter_map, list_all}
use Rattle.std.specs.Option.{option_and_then, option_map}
use Rattle.std.specs.Prelude.{IfSome, unwrap_or}
use Rattle.bx_tree.specs.Trees.{Files}
use Rattle.dscript_ast.specs.TypeTree.{TypeTree}
use Rattle.dscript_value.specs.declared.parts.Callee.TheVariants as callees
use Rattle.dscript_value.specs.Plain as plain
use Rattle.dscript_value.specs.Plain.{Plain}
use Rattle.dscript_program.specs.BoundTree.{BodyData, ExprData}
use Rattle.dscript_program.specs.Numbering.{HasConsecutiveLocals}
use Rattle.dscript_program.specs.ProgramData as declared
use Rattle.dscript_program.specs.ProgramData.{DeclData, FileData, FunctionData, KindData, ProgramData}
use Rattle.dscript_names.specs.Captures.{AllCaptureOuter}
use Rattle.dscript_eval_meaning.specs.declared.fault.EvalKind.TheVariants as faults
use Rattle.dscript_eval_meaning.specs.declared.limits.TheConstants.{MAX_OPEN_CALLS}
use Rattle.dscript_eval_meaning.specs.Acts.{Acts, Call, Demand}
use Rattle.dscript_eval_meaning.specs.Constants.{by_status, constant, mark, status_in, with_status}
use Rattle.dscript_eval_meaning.specs.Evaluating.{Fault, Stop, TooMany, followed, gives}
use Rattle.dscript_eval_meaning.specs.Expressions.{value}
use Rattle.dscript_eval_meaning.specs.Frames.{constant_frame, function_frame, within}
use Rattle.dscript_sdk_calls.specs.Sources.{tree_answers}
use Rattle.dscript_eval_meaning.specs.Meaning.{acts, demand, demand_decls, demand_files, demanded, evaluated, function_call, meaning, opened}
use Rattle.dscript_eval_meaning.specs.Meaning.{pips_or_refusal, start}
use Rattle.dscript_eval_meaning.specs.States.{Frame, State, Status, Waiting, Running, Done}
use Rattle.dscript_eval_meaning.specs.Statements.{body_value}
use Rattle.dscript_types_meaning.specs.Types.{TypeData}
use Rattle.dscript_types_meaning.specs.Sizes.{within_limit}
use Rattle.dscript_types_meaning.specs.Unions.{join_all, undefined_type}
use Rattle.dscript_types_meaning.specs.Fits.{fits, holds_of}
use Rattle.dscript_types_meaning.specs.Contexts.{Answer, Callback, Constant, Context, Known, Standing, bare}
use Rattle.dscript_types_meaning.specs.Lookups.{decl_at, decls_at, decls_in, function_at}
use Rattle.dscript_types_meaning.specs.Annotations.{meant}
use Rattle.dscript_types_meaning.specs.Expressions.{expr_type}
use Rattle.dscript_types_meaning.specs.Functions.{all_parameters, answer_at, answer_of_decl, answer_of_kind, context_of}
use Rattle.dscript_types_meaning.specs.Functions.{function_context, function_type, parameters_fit}
use Rattle.dscript_types_meaning.specs.Bodies.{Spot, Alone, Assigned, Declared, Looped, Returned, Use, all_types, annotated, answered, body_uses}
use Rattle.dscript_types_meaning.specs.Bodies.{callback_uses, decl_uses, function_uses, if_ends, if_returned, inferred, is_right_at, kind_uses}
use Rattle.dscript_types_meaning.specs.Bodies.{may_end, returned_at, type_of_value, use_at}
use Rattle.dscript_types_meaning.specs.Typed as typing
use Rattle.dscript_types_meaning.specs.Typed.{IsTyped, answer_of_function, constant_of_kind, decl_has_types, found, has_type, is_typed_file, known_within, number_of, reach}
use Rattle.dscript_types_meaning.specs.Values.{HasType}
use Rattle.dscript_types_values.proofs.Among.{Among, all_among, among_filter_map, among_right, and_left}
use Rattle.dscript_types_values.proofs.Fitting.{fits_has}
use Rattle.dscript_types_values.proofs.Joining.{has_one_of, undefined_itself}
use Rattle.dscript_types_laws.specs.Invariants.{ComesTo, HoldsLocals, IsChecked, IsScene, IsSound, IsSoundAt, IsStable}
use Rattle.dscript_types_laws.specs.Invariants.{OpensSoundly, is_checked}
use Rattle.dscript_types_laws.specs.Kinds.{KeepsToKinds}
use Rattle.dscript_types_laws.proofs.Callbacks.{function_runs, params_within}
use Rattle.dscript_types_laws.proofs.Checked.{all_checked, knows_itself}
use Rattle.dscript_types_laws.proofs.Doing.{Gives, IsFrame, IsGood, IsReturned, IsTypedUse, body_sound, note_holds, use_typed}
use Rattle.dscript_types_laws.proofs.Expressing.{expr_sound}
use Rattle.dscript_types_laws.proofs.Framing.{declared_hold, each_of, filled_length, of_each, param_is}
use Rattle.dscript_types_laws.proofs.Naming.{same_decl}
use Rattle.dscript_types_laws.proofs.Operators.{within_is}
use Rattle.dscript_types_laws.proofs.Places.{IsOf, body_of}
use Rattle.dscript_types_laws.proofs.Rising.{KnownBelow}
use Rattle.dscript_types_laws.proofs.RisingBodies.{stable}
use Rattle.dscript_types_laws.proofs.RisingNotes.{meant_below}
use Rattle.dscript_types_laws.proofs.Scenes.{declared_scene}
use Rattle.dscript_types_laws.proofs.Sound.{both, bound, failed, given, wider}

-- ## Places in lists

module _ {X : Type 0} where
  get_among : (xs : List X) (n : ℕ) (x : X) → slice_get xs n ≡ Some x → Among xs x
  get_among [] n x e = absurd cc
  get_among (y ∷ ys) zero x e = let same : y ≡ x = cc in inl same
  get_among (y ∷ ys) (suc n) x e = inr (get_among ys n x e)

  get_below : (xs : List X) (n : ℕ) (x : X) → slice_get xs n ≡ Some x → n < length xs
  get_below [] n x e = absurd cc
  get_below (y ∷ ys) zero x e = omega arith
  get_below (y ∷ ys) (suc n) x e = let r = get_below ys n x e in omega (arith, r)

  -- a place after one is set: as before, or it is the one that was set
  get_set
      : (xs : List X) (i : ℕ) (x : X) (k : ℕ)
      → (slice_get (slice_set xs i x) k ≡ slice_get xs k) ⊎ (k ≡ i) × (slice_get (slice_set xs i x) k ≡ Some x)
  get_set [] zero x k = inl refl
  get_set [] (suc i) x k = inl refl
  get_set (y ∷ ys) zero x zero = inr (refl, refl)
  get_set (y ∷ ys) zero x (suc k) = inl refl
  get_set (y ∷ ys) (suc i) x zero = inl refl
  get_set (y ∷ ys) (suc i) x (suc k) = onward (get_set ys i x k)
    where
      onward
          : (slice_get (slice_set ys i x) k ≡ slice_get ys k) ⊎ (k ≡ i) × (slice_get (slice_set ys i x) k ≡ Some x)
          → (slice_get (slice_set ys i x) k ≡ slice_get ys k) ⊎ (suc k ≡ suc i) × (slice_get (slice_set ys i x) k ≡ Some x)
      onward (inl e) = inl e
      onward (inr h) = inr (ap suc h.0, h.1)

-- a status after one is set
status_set
    : (table : List (List Status)) (file decl : ℕ) (status : Status) (f k : ℕ)
    → (status_in (with_status table file decl status) f k ≡ status_in table f k)
    ⊎ (f ≡ file) × (k ≡ decl) × (status_in (with_status table file decl status) f k ≡ status)
status_set table file decl status f k =
    by_row (get_set table file (slice_set (unwrap_or (slice_get table file) []) decl status) f)
  where
    row : List Status
    row = unwrap_or (slice_get table file) []

    by_place
        : (f ≡ file) → slice_get (with_status table file decl status) f ≡ Some (slice_set row decl status)
        → (slice_get (slice_set row decl status) k ≡ slice_get row k) ⊎ (k ≡ decl) × (slice_get (slice_set row decl status) k ≡ Some status)
        → (status_in (with_status table file decl status) f k ≡ status_in table f k)
        ⊎ (f ≡ file) × (k ≡ decl) × (status_in (with_status table file decl status) f k ≡ status)
    by_place same is (inl e) =
        inl (ap (λ o. unwrap_or (slice_get (unwrap_or o []) k) Waiting) is ∙ ap (λ o. unwrap_or o Waiting) e
        ∙ ap (λ n. unwrap_or (slice_get (unwrap_or (slice_get table n) []) k) Waiting) (sym same))
    by_place same is (inr h) =
        inr (same, h.0, ap (λ o. unwrap_or (slice_get (unwrap_or o []) k) Waiting) is ∙ ap (λ o. unwrap_or o Waiting) h.1)

    by_row
        : (slice_get (with_status table file decl status) f ≡ slice_get table f)
        ⊎ (f ≡ file) × (slice_get (with_status table file decl status) f ≡ Some (slice_set row decl status))
        → (status_in (with_status table file decl status) f k ≡ status_in table f k)
        ⊎ (f ≡ file) × (k ≡ decl) × (status_in (with_status table file decl status) f k ≡ status)
    by_row (inl e) = inl (ap (λ o. unwrap_or (slice_get (unwrap_or o []) k) Waiting) e)
    by_row (inr h) = by_place h.0 h.1 (get_set row decl status k)

decls_wait : (ds : List DeclData) (k : ℕ) → unwrap_or (slice_get (map (λ (d : DeclData). Waiting) ds) k) Waiting ≡ Waiting
decls_wait [] k = refl
decls_wait (d ∷ ds) zero = refl
decls_wait (d ∷ ds) (suc k) = decls_wait ds k

files_wait
    : (fs : List FileData) (f k : ℕ)
    → status_in (map (λ (g : FileData). map (λ (d : DeclData). Waiting) g.decls) fs) f k ≡ Waiting
files_wait [] f k = refl
files_wait (g ∷ fs) zero k = decls_wait g.decls k
files_wait (g ∷ fs) (suc f) k = files_wait fs f k

module _ (p : ProgramData) (known : Known) (stays : IsStable p known) (knows : KnownBelow known known) (outer : AllCaptureOuter p)
    (runs : HasConsecutiveLocals p) (depth : ℕ)
    (all : (file decl : ℕ) (d : DeclData) → decl_at p file decl ≡ Some d → list_all (is_checked p known depth) (decl_uses p known file d) ≡ true)
  where
    -- ## What bodies return

    returned_some : (u : Use) (spot : Spot) → IsReturned p known spot → returned_at u spot ≡ Some u
    returned_some u (Returned note) is = refl
    returned_some u Alone is = absurd is
    returned_some u (Declared note) is = absurd is
    returned_some u (Assigned n) is = absurd is
    returned_some u Looped is = absurd is

    types_case
        : (o : Option TypeData) (rest : Option (List TypeData)) (ts : List TypeData)
        → option_and_then (λ t. option_map (λ us. t ∷ us) rest) o ≡ Some ts
        → (t : TypeData) × (us : List TypeData) × (o ≡ Some t) × (rest ≡ Some us) × (t ∷ us ≡ ts)
    types_case None rest ts e = absurd cc
    types_case (Some t) None ts e = absurd cc
    types_case (Some t) (Some us) ts e = let same : t ∷ us ≡ ts = cc in (t, us, refl, refl, same)

    one_among
        : (w : Use) (us : List Use) (u : Use) (t : TypeData) (rest : List TypeData) (v : TypeData) (bodies : List Standing)
        → bare (expr_type p known w.context w.expr) ≡ Some t → expr_type p known u.context u.expr ≡ Some (v, bodies)
        → (Among us u → Among rest v) → Among (w ∷ us) u → Among (t ∷ rest) v
    one_among w us u t rest v bodies is typed more (inl one) =
        let at : bare (expr_type p known w.context w.expr) ≡ Some v
        = ap (λ (x : Use). bare (expr_type p known x.context x.expr)) one ∙ ap bare typed in
        let both : Some t ≡ Some v = sym is ∙ at in
        let here : t ≡ v = cc in inl here
    one_among w us u t rest v bodies is typed more (inr b) = inr (more b)

    types_among
        : (us : List Use) (ts : List TypeData) (u : Use) (v : TypeData) (bodies : List Standing) → all_types p known us ≡ Some ts
        → Among us u → expr_type p known u.context u.expr ≡ Some (v, bodies) → Among ts v
    types_among [] ts u v bodies e a typed = absurd a
    types_among (w ∷ us) ts u v bodies e a typed =
        let r = types_case (bare (expr_type p known w.context w.expr)) (all_types p known us) ts e in
        subst (λ xs. Among xs v) r.4
        (one_among w us u r.0 r.1 v bodies r.2 typed (λ b. types_among us r.1 u v bodies r.3 b typed) a)

    -- the expressions of a body, from what is said of those that are returned
    goods
        : (n : ℕ) (t : TypeData) (us : List Use) → list_all (is_checked p known n) us ≡ true
        → ((u : Use) → Among us u → IsReturned p known u.spot → (v : TypeData) (bodies : List Standing)
        → expr_type p known u.context u.expr ≡ Some (v, bodies) → is_right_at p known u.context u.spot v ≡ true
        → (x : Plain) → HasType x v → HasType x t)
        → AllByRecursion (IsGood p known n t) us
    goods n t us checked returns =
        of_each (IsGood p known n t) us (λ u a. (all_among (is_checked p known n) us u checked a, λ is v bodies typed right x h. returns u a is v bodies typed right x h))

    inferred_case
        : (c : Context) (body : BodyData) (o : Option (List TypeData)) (t : TypeData)
        → all_types p known (filter_map if_returned (body_uses p known None c body)) ≡ o
        → option_and_then (λ ts. within_limit (join_all (if_ends (may_end body) ++ ts))) o ≡ Some t
        → (ts : List TypeData) × (all_types p known (filter_map if_returned (body_uses p known None c body)) ≡ Some ts)
        × (join_all (if_ends (may_end body) ++ ts) ≡ t)
    inferred_case c body None t is e = absurd cc
    inferred_case c body (Some ts) t is e = (ts, is, within_is (join_all (if_ends (may_end body) ++ ts)) t e)

    ends_there : (b : Bool) (ts : List TypeData) → b ≡ true → Among (if_ends b ++ ts) undefined_type
    ends_there true ts e = inl refl
    ends_there false ts e = absurd cc

    -- what a body without an annotation answers is of the type that is inferred
    inferred_good
        : (n : ℕ) (c : Context) (body : BodyData) (t : TypeData) → inferred p known c body ≡ Some t
        → list_all (is_checked p known n) (body_uses p known None c body) ≡ true
        → AllByRecursion (IsGood p known n t) (body_uses p known None c body) × (may_end body ≡ true → HasType plain.Undefined t)
    unfolding inferred
    inferred_good n c body t e checked =
        let uses = filter_map if_returned (body_uses p known None c body) in
        let r = inferred_case c body (all_types p known (filter_map if_returned (body_uses p known None c body))) t refl e in (
          goods n t (body_uses p known None c body) checked
              (λ u a is v bodies typed right x h.
              subst (λ w. HasType x w) r.2
              (has_one_of x (if_ends (may_end body) ++ r.0) v
              (among_right (if_ends (may_end body)) r.0 v
              (types_among (filter_map if_returned (body_uses p known None c body)) r.0 u v bodies r.1
              (among_filter_map if_returned (body_uses p known None c body) u u a (returned_some u u.spot is)) typed)) h)),
          λ ends. subst (λ w. HasType plain.Undefined w) r.2
              (has_one_of plain.Undefined (if_ends (may_end body) ++ r.0) undefined_type (ends_there (may_end body) r.0 ends) undefined_itself),
        )

    noted_case
        : (body : BodyData) (o : Option TypeData) (t : TypeData) → option_and_then (annotated body) o ≡ Some t
        → (u : TypeData) × (o ≡ Some u) × (u ≡ t) × (may_end body ≡ true → fits undefined_type u ≡ true)
    noted_case body None t e = absurd cc
    noted_case body (Some u) t e = by_end (may_end body) (fits undefined_type u) refl refl e
      where
        by_end
            : (a b : Bool) → may_end body ≡ a → fits undefined_type u ≡ b → cond (a && not b) None (Some u) ≡ Some t
            → (v : TypeData) × (Some u ≡ Some v) × (v ≡ t) × (may_end body ≡ true → fits undefined_type v ≡ true)
        by_end true true is fit at = let same : u ≡ t = cc in (u, refl, same, λ ends. fit)
        by_end true false is fit at = absurd cc
        by_end false b is fit at =
            let same : u ≡ t = cc in (u, refl, same, λ ends. absurd (let no : false ≡ true = sym is ∙ ends in cc))

    annotated_good
        : (n : ℕ) (c : Context) (body : BodyData) (annotation : TypeTree) (t : TypeData)
        → option_and_then (annotated body) (meant p known c annotation) ≡ Some t
        → list_all (is_checked p known n) (body_uses p known (Some annotation) c body) ≡ true
        → AllByRecursion (IsGood p known n t) (body_uses p known (Some annotation) c body) × (may_end body ≡ true → HasType plain.Undefined t)
    annotated_good n c body annotation t e checked =
        let r = noted_case body (meant p known c annotation) t e in (
          goods n t (body_uses p known (Some annotation) c body) checked
              (λ u a is v bodies typed right x h.
              let of = each_of (IsOf p known c (Some annotation)) (body_uses p known (Some annotation) c body) u
              (body_of p known body (Some annotation) c) a in
              let at : is_right_at p known u.context (Returned (Some annotation)) v ≡ true
              = ap (λ spot. is_right_at p known u.context spot v) (sym (of.1 is)) ∙ right in
              let means = meant_below p known known knows c u.context of.0 annotation r.0 r.1 in
              let fit : fits v r.0 ≡ true = ap (holds_of (fits v)) (sym means) ∙ at in
              subst (λ w. HasType x w) r.2 (fits_has x v r.0 fit h)),
          λ ends. subst (λ w. HasType plain.Undefined w) r.2 (fits_has plain.Undefined undefined_type r.0 (r.3 ends) undefined_itself),
        )

    answered_good
        : (n : ℕ) (c : Context) (body : BodyData) (note : Option TypeTree) (t : TypeData) → answered p known c body note ≡ Some t
        → list_all (is_checked p known n) (body_uses p known note c body) ≡ true
        → AllByRecursion (IsGood p known n t) (body_uses p known note c body) × (may_end body ≡ true → HasType plain.Undefined t)
    answered_good n c body None t e checked = inferred_good n c body t e checked
    answered_good n c body (Some annotation) t e checked = annotated_good n c body annotation t e checked

    module _ (act : Acts) (opens : OpensSoundly p known act) where
      -- ## Bodies in frames of their own

      within_case
          : (A : Type 0) (Is : A → Type 0) (before : Frame) (s : State) (r : Result (A × State) Stop) → ComesTo A known Is before r
          → ComesTo A known Is s.frame (followed r (λ x after. Ok (x, record after { frame = s.frame })))
      within_case A Is before s (Ok r) c = record { is = c.is; frame = refl; constants = c.constants }
      within_case A Is before s (Err stop) c = c

      given_case
          : (t : TypeData) (s : State) (r : Result (Plain × State) Stop) → Gives known t r
          → ComesTo Plain known (λ x. HasType x t) s.frame (followed r (λ x after. Ok (x, record after { frame = s.frame })))
      given_case t s (Ok r) c = record { is = c.0; frame = refl; constants = c.1 }
      given_case t s (Err stop) c = c

      -- a call of a function whose body answers this
      called
          : (number n : ℕ) (f : FunctionData) (c : Context) (note : Option TypeTree) (held args : List Plain) (t : TypeData)
          → function_at p number ≡ Some f → answered p known c f.body note ≡ Some t
          → list_all (is_checked p known n) (body_uses p known note c f.body) ≡ true
          → IsScene f.first_local (f.first_local + length f.params) c.locals → HoldsLocals (function_frame f held args) c.locals
          → IsSoundAt known [] t (opened p act (Call (callees.Place number) held args))
      called number n f c note held args t at answers checked scene holds =
          subst (λ o. IsSoundAt known [] t (function_call p act o held args)) (sym at) in_frame
        where
          good : AllByRecursion (IsGood p known n t) (body_uses p known note c f.body) × (may_end f.body ≡ true → HasType plain.Undefined t)
          good = answered_good n c f.body note t answers checked

          low : f.first_local ≤ f.first_local + length f.params
          low = omega arith

          frame : IsFrame f.first_local (f.first_local + f.local_count) (function_frame f held args)
          frame = record {
            first_is = refl;
            end_is = ap (λ k. f.first_local + k) (filled_length f.local_count _);
          }

          in_frame : IsSoundAt known [] t (function_call p act (Some f) held args)
          in_frame s none constants =
              given_case t s (body_value p act f.body (record s { frame = function_frame f held args }))
              (body_sound p known act opens outer runs f.first_local (f.first_local + f.local_count) n t f.body c note
              (f.first_local + length f.params) good.0 good.1 low (function_runs p number f runs at) scene
              (record s { frame = function_frame f held args }) frame holds constants)

      -- ## Functions

      answer_case
          : (file decl : ℕ) (c : Context) (given : List TypeData) (t : TypeData) (o : Option FunctionData)
          → answer_at p known file decl c given o ≡ Some t
          → (f : FunctionData) × (types : List TypeData) × (o ≡ Some f) × (all_parameters p known c f.params ≡ Some types)
          × (parameters_fit types given ≡ true) × (known (Answer file decl) ≡ Some t)
      answer_case file decl c given t None e = absurd cc
      answer_case file decl c given t (Some f) e = by_types (all_parameters p known c f.params) refl e
        where
          by_fit
              : (types : List TypeData) (b : Bool) → all_parameters p known c f.params ≡ Some types → parameters_fit types given ≡ b
              → cond b (known (Answer file decl)) None ≡ Some t
              → (g : FunctionData) × (ts : List TypeData) × (Some f ≡ Some g) × (all_parameters p known c g.params ≡ Some ts)
              × (parameters_fit ts given ≡ true) × (known (Answer file decl) ≡ Some t)
          by_fit types true is fit at = (f, types, refl, is, fit, at)
          by_fit types false is fit at = absurd cc

          by_types
              : (q : Option (List TypeData)) → all_parameters p known c f.params ≡ q
              → option_and_then (λ types. cond (parameters_fit types given) (known (Answer file decl)) None) q ≡ Some t
              → (g : FunctionData) × (ts : List TypeData) × (Some f ≡ Some g) × (all_parameters p known c g.params ≡ Some ts)
              × (parameters_fit ts given ≡ true) × (known (Answer file decl) ≡ Some t)
          by_types None is at = absurd cc
          by_types (Some types) is at = by_fit types (parameters_fit types given) is refl at

      function_opened
          : (file decl : ℕ) (d : DeclData) (ts : List (List ℕ)) (note : Option TypeTree) (number : ℕ) (given : List TypeData)
          (args : List Plain) (t : TypeData) → decl_at p file decl ≡ Some d → d.kind ≡ declared.Function ts note number
          → function_type p known file decl given ≡ Some t → AllZip HasType args given
          → IsSoundAt known [] t (opened p act (Call (callees.Place number) [] args))
      unfolding function_type
      function_opened file decl d ts note number given args t at form typed zip =
          let from : answer_at p known file decl (context_of file d ts) given (function_at p number) ≡ Some t
          = sym (ap (answer_of_decl p known file decl given) at ∙ ap (answer_of_kind p known file decl d given) form) ∙ typed in
          let r = answer_case file decl (context_of file d ts) given t (function_at p number) from in
          let found_answer : typing.answer_of_decl p known file (decl_at p file decl) ≡ Some t = stays (Answer file decl) t r.5 in
          let answers : answer_of_function p known file d (declared.Function ts note number) (function_at p number) ≡ Some t
          = sym (ap (typing.answer_of_decl p known file) at
          ∙ ap (λ k. answer_of_function p known file d k (option_and_then (function_at p) (number_of k))) form) ∙ found_answer in
          let body : answered p known (function_context p known file d ts r.0) r.0.body note ≡ Some t
          = sym (ap (answer_of_function p known file d (declared.Function ts note number)) r.2) ∙ answers in
          let uses : decl_uses p known file d ≡ body_uses p known note (function_context p known file d ts r.0) r.0.body
          = ap (kind_uses p known file d) form ∙ ap (function_uses p known file d ts note) r.2 in
          let checked : list_all (is_checked p known depth) (body_uses p known note (function_context p known file d ts r.0) r.0.body) ≡ true
          = ap (list_all (is_checked p known depth)) (sym uses) ∙ all file decl d at in
          called number depth r.0 (function_context p known file d ts r.0) note [] args t r.2 body checked
          (declared_scene p known (context_of file d ts) r.0.first_local r.0.params)
          (declared_hold p known (context_of file d ts) r.0.params r.0.first_local given r.1 (function_frame r.0 [] args) args r.3 r.4 zip
          (λ i lt. param_is r.0 [] args i lt (params_within p number r.0 runs r.2)))

      -- ## Callbacks

      callback_opened
          : (n number : ℕ) (c : Context) (f : FunctionData) (held args : List Plain) (t : TypeData) → function_at p number ≡ Some f
          → known (Callback number c) ≡ Some t → IsChecked p known n (record { number = number; context = c })
          → IsScene f.first_local (f.first_local + length f.params) c.locals → HoldsLocals (function_frame f held args) c.locals
          → IsSoundAt known [] t (opened p act (Call (callees.Place number) held args))
      callback_opened n number c f held args t at is checked scene holds =
          let answers : typing.answer_of_callback p known c (Some f) ≡ Some t
          = sym (ap (typing.answer_of_callback p known c) at) ∙ stays (Callback number c) t is in
          let uses : list_all (is_checked p known n) (body_uses p known None c f.body) ≡ true
          = sym (ap (λ o. list_all (is_checked p known n) (callback_uses p known c o)) at) ∙ checked in
          called number n f c None held args t at answers uses scene holds

      -- ## Constants

      marked_sound
          : (file decl : ℕ) (status : Status)
          → ((x : Plain) (t : TypeData) → status ≡ Done x → known (Constant file decl) ≡ Some t → HasType x t)
          → IsSound (Unit {0}) known [] (λ u. Unit {0}) (mark file decl status)
      marked_sound file decl status has s none constants = record {
        is = tt;
        frame = refl;
        constants = λ f k x t at is. by_place f k x t at is (status_set s.constants file decl status f k);
      }
        where
          by_place
              : (f k : ℕ) (x : Plain) (t : TypeData) → status_in (with_status s.constants file decl status) f k ≡ Done x
              → known (Constant f k) ≡ Some t
              → (status_in (with_status s.constants file decl status) f k ≡ status_in s.constants f k)
              ⊎ (f ≡ file) × (k ≡ decl) × (status_in (with_status s.constants file decl status) f k ≡ status)
              → HasType x t
          by_place f k x t at is (inl same) = constants f k x t (sym same ∙ at) is
          by_place f k x t at is (inr h) =
              has x t (sym h.2 ∙ at) (sym (ap (λ n. known (Constant n k)) h.0 ∙ ap (λ n. known (Constant file n)) h.1) ∙ is)

      value_of_type : (file decl : ℕ) (x : Plain) (o : Option TypeData) → known (Constant file decl) ≡ o
          → ((t : TypeData) → o ≡ Some t → HasType x t) → IfSome o (HasType x)
      value_of_type file decl x None is has = tt
      value_of_type file decl x (Some t) is has = has t refl

      constant_opened
          : (file decl : ℕ) (d : DeclData) (note : Option TypeTree) (e : ExprData) → decl_at p file decl ≡ Some d
          → d.kind ≡ declared.Const note e
          → IsSound Plain known [] (λ x. IfSome (known (Constant file decl)) (HasType x)) (opened p act (Demand file decl))
      constant_opened file decl d note e at form =
          subst (λ o. IsSound Plain known [] (λ x. IfSome (known (Constant file decl)) (HasType x)) (demanded p act file decl o))
          (sym (same_decl p file decl ∙ ap (option_map (λ (k : DeclData). k.kind)) at ∙ ap Some form))
          (both known [] (Unit {0}) Plain (λ u. Unit {0}) (λ x. IfSome (known (Constant file decl)) (HasType x)) (mark file decl Running) _
          (marked_sound file decl Running (λ x t no is. absurd (running x no)))
          (bound known [] Plain Plain (λ x. HasType x u.0) (λ x. IfSome (known (Constant file decl)) (HasType x))
          (within (constant_frame file) (value p act e)) _ in_frame
          (λ x h. both known [] (Unit {0}) Plain (λ v. Unit {0}) (λ y. IfSome (known (Constant file decl)) (HasType y)) (mark file decl (Done x)) (gives x)
          (marked_sound file decl (Done x) (λ y t same is. subst (λ z. HasType z t) (done x y same) (of_type x h t is)))
          (given known [] Plain (λ y. IfSome (known (Constant file decl)) (HasType y)) x
          (value_of_type file decl x (known (Constant file decl)) refl (λ t is. of_type x h t is))))))
        where
          running : (x : Plain) → Running ≡ Done x → ⊥
          running x same = absurd cc

          done : (x y : Plain) → Done x ≡ Done y → x ≡ y
          done x y same = cc

          uses : decl_uses p known file d ≡ use_at (context_of file d []) (Declared note) e ∷ []
          uses = ap (kind_uses p known file d) form

          checked : is_checked p known depth (use_at (context_of file d []) (Declared note) e) ≡ true
          checked =
              and_left (is_checked p known depth (use_at (context_of file d []) (Declared note) e)) true
              (sym (ap (list_all (is_checked p known depth)) uses) ∙ all file decl d at)

          u : (v : TypeData) × (bodies : List Standing) × IsTypedUse p known (use_at (context_of file d []) (Declared note) e) v bodies
          u = use_typed p known depth (use_at (context_of file d []) (Declared note) e) checked

          in_frame : IsSoundAt known [] u.0 (within (constant_frame file) (value p act e))
          in_frame s none constants =
              within_case Plain (λ x. HasType x u.0) (constant_frame file) s (value p act e (record s { frame = constant_frame file }))
              (expr_sound p known act opens outer runs e (context_of file d []) u.0 u.1 u.2.0 u.2.1
              (record s { frame = constant_frame file }) tt constants)

          of_type : (x : Plain) → HasType x u.0 → (t : TypeData) → known (Constant file decl) ≡ Some t → HasType x t
          of_type x h t is =
              let found_type : type_of_value p known (context_of file d []) e note ≡ Some t
              = sym (ap (typing.constant_of_decl p known file) at ∙ ap (constant_of_kind p known file d) form)
              ∙ stays (Constant file decl) t is in
              subst (λ o. IfSome o (λ v. HasType x v)) found_type
              (note_holds p known (context_of file d []) e note u.0 u.1 x u.2.0 u.2.2 h)

    -- ## All calls

    pub acts_open : (n : ℕ) → OpensSoundly p known (acts p n)
    unfolding acts
    acts_open zero = record {
      function = λ file decl d ts note number given_types args t at form typed zip.
          failed known [] Plain (λ x. HasType x t) faults.Depth tt;
      callback = λ n number c f held args t at is checked scene holds.
          failed known [] Plain (λ x. HasType x t) faults.Depth tt;
      constant = λ file decl d note e at form.
          failed known [] Plain (λ x. IfSome (known (Constant file decl)) (HasType x)) faults.Depth tt;
    }
    acts_open (suc n) = record {
      function = function_opened (acts p n) (acts_open n);
      callback = callback_opened (acts p n) (acts_open n);
      constant = constant_opened (acts p n) (acts_open n);
    }

    -- ## Demands

    module _ (act : Acts) (opens : OpensSoundly p known act) where
      status_sound
          : (file decl : ℕ) (d : DeclData) (note : Option TypeTree) (e : ExprData) (status : Status) → decl_at p file decl ≡ Some d
          → d.kind ≡ declared.Const note e → IsSound Plain known [] (λ x. Unit {0}) (by_status act file decl status)
      status_sound file decl d note e Waiting at form =
          wider known [] Plain _ (λ x. Unit {0}) (act (Demand file decl)) (λ x h. tt) (opens.constant file decl d note e at form)
      status_sound file decl d note e Running at form = failed known [] Plain (λ x. Unit {0}) faults.Cycle tt
      status_sound file decl d note e (Done x) at form = given known [] Plain (λ y. Unit {0}) x tt

      constant_sound
          : (file decl : ℕ) (d : DeclData) (note : Option TypeTree) (e : ExprData) → decl_at p file decl ≡ Some d
          → d.kind ≡ declared.Const note e → IsSound Plain known [] (λ x. Unit {0}) (constant act file decl)
      unfolding constant
      constant_sound file decl d note e at form s none constants =
          status_sound file decl d note e (status_in s.constants file decl) at form s none constants

      demand_sound
          : (file decl : ℕ) (d : DeclData) (k : KindData) → decl_at p file decl ≡ Some d → d.kind ≡ k
          → IsSound (Unit {0}) known [] (λ u. Unit {0}) (demand act file decl k)
      demand_sound file decl d (declared.Const note e) at form =
          bound known [] Plain (Unit {0}) (λ x. Unit {0}) (λ u. Unit {0}) (constant act file decl) _
          (constant_sound file decl d note e at form) (λ x h. given known [] (Unit {0}) (λ u. Unit {0}) tt tt)
      demand_sound file decl d (declared.Function ts note number) at form = given known [] (Unit {0}) (λ u. Unit {0}) tt tt
      demand_sound file decl d (declared.Interface ts es ms) at form = given known [] (Unit {0}) (λ u. Unit {0}) tt tt
      demand_sound file decl d (declared.TypeAlias ts t) at form = given known [] (Unit {0}) (λ u. Unit {0}) tt tt

      decls_sound
          : (file decl : ℕ) (ds : List DeclData)
          → ((i : ℕ) (d : DeclData) → slice_get ds i ≡ Some d → decl_at p file (decl + i) ≡ Some d)
          → IsSound (Unit {0}) known [] (λ u. Unit {0}) (demand_decls act file decl ds)
      decls_sound file decl [] there = given known [] (Unit {0}) (λ u. Unit {0}) tt tt
      decls_sound file decl (d ∷ ds) there =
          both known [] (Unit {0}) (Unit {0}) (λ u. Unit {0}) (λ u. Unit {0}) (demand act file decl d.kind) (demand_decls act file (decl + 1) ds)
          (demand_sound file decl d d.kind (ap (decl_at p file) first ∙ there 0 d refl) refl)
          (decls_sound file (decl + 1) ds (λ i e is. ap (decl_at p file) (place i) ∙ there (suc i) e is))
        where
          first : decl ≡ decl + 0
          first = omega arith

          place : (i : ℕ) → decl + 1 + i ≡ decl + suc i
          place i = omega arith

      files_sound
          : (file : ℕ) (fs : List FileData) → ((i : ℕ) (f : FileData) → slice_get fs i ≡ Some f → slice_get p.files (file + i) ≡ Some f)
          → IsSound (Unit {0}) known [] (λ u. Unit {0}) (demand_files act file fs)
      files_sound file [] there = given known [] (Unit {0}) (λ u. Unit {0}) tt tt
      files_sound file (f ∷ fs) there =
          both known [] (Unit {0}) (Unit {0}) (λ u. Unit {0}) (λ u. Unit {0}) (demand_decls act file 0 f.decls) (demand_files act (file + 1) fs)
          (decls_sound file 0 f.decls (λ i d is. ap (λ o. slice_get (decls_in o) (0 + i)) here ∙ ap (slice_get f.decls) (none i) ∙ is))
          (files_sound (file + 1) fs (λ i g is. ap (slice_get p.files) (place i) ∙ there (suc i) g is))
        where
          first : file ≡ file + 0
          first = omega arith

          here : slice_get p.files file ≡ Some f
          here = ap (slice_get p.files) first ∙ there 0 f refl

          none : (i : ℕ) → 0 + i ≡ i
          none i = omega arith

          place : (i : ℕ) → file + 1 + i ≡ file + suc i
          place i = omega arith

    refused
        : (before : Frame) (r : Result (Unit {0} × State) Stop) → ComesTo (Unit {0}) known (λ u. Unit {0}) before r
        → KeepsToKinds (pips_or_refusal p r)
    refused before (Ok r) c = tt
    refused before (Err (Fault kind file message)) c = c
    refused before (Err TooMany) c = tt

    pub meaning_keeps : (sources : Files) (budget : ℕ) → KeepsToKinds (meaning p sources budget)
    unfolding meaning evaluated
    meaning_keeps sources budget =
        refused (start p (tree_answers sources) budget).frame (demand_files (acts p MAX_OPEN_CALLS) 0 p.files (start p (tree_answers sources) budget))
        (files_sound (acts p MAX_OPEN_CALLS) (acts_open MAX_OPEN_CALLS) 0 p.files (λ i f is. ap (slice_get p.files) (none i) ∙ is)
        (start p (tree_answers sources) budget) tt
        (λ f k x t at is. absurd (let no : Waiting ≡ Done x = sym (files_wait p.files f k) ∙ at in cc)))
      where
        none : (i : ℕ) → 0 + i ≡ i
        none i = omega arith

-- ## Typed programs

decl_case
    : (o : Option FileData) (decl : ℕ) (d : DeclData) → slice_get (decls_in o) decl ≡ Some d → (f : FileData) × (o ≡ Some f)
decl_case None decl d e = absurd cc
decl_case (Some f) decl d e = (f, refl)

-- each expression of a typed program is checked where all is known that is known in the program
all_of
    : (p : ProgramData) → IsTyped p → (file decl : ℕ) (d : DeclData) → decl_at p file decl ≡ Some d
    → list_all (is_checked p (known_within p (reach p)) (suc (reach p))) (decl_uses p (known_within p (reach p)) file d) ≡ true
all_of p typed file decl d at =
    let f = decl_case (slice_get p.files file) decl d at in
    let file_typed : is_typed_file p file ≡ true = typed file (get_below p.files file f.0 f.1) in
    let here : decl_has_types p (reach p) file d ≡ true
    = all_among (decl_has_types p (reach p) file) (decls_at p file) d file_typed (get_among (decls_at p file) decl d at) in
    all_checked p (reach p) (decl_uses p (known_within p (reach p)) file d) here

-- a typed program keeps to the kinds of values
pub typed_keeps
    : (p : ProgramData) → AllCaptureOuter p → HasConsecutiveLocals p → IsTyped p → (sources : Files) (budget : ℕ)
    → KeepsToKinds (meaning p sources budget)
typed_keeps p outer runs typed sources budget =
    meaning_keeps p (known_within p (reach p)) (stable p (reach p)) (knows_itself p (reach p)) outer runs (suc (reach p)) (all_of p typed)
    sources budget

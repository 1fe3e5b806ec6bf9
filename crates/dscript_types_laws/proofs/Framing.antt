-- Frames: what locals hold after one is bound, and in the body of a function.
use Rattle.std.proofs.Common.{◌≡◌, ℕ, zero, suc, ◌+◌, ◌-◌, ◌<◌, ◌≤◌, Bool, true, false, cond, eqb, ltb, List, [], ◌∷◌, ◌++◌, length, map, take}
use Rattle.std.proofs.Common.{slice_get, slice_set, filter, Option, Some, None, refl, sym, ap, ◌∙◌, subst, inl, inr, arith}
use Rattle.std.proofs.lemmas.Bool.{eqb-false, eqb-true, le-ltb, lt-ltb, ltb-false}
use Rattle.std.specs.List.{AllByRecursion, AllZip, list_any}
use Rattle.std.specs.Option.{option_and_then, option_map}
use Rattle.std.specs.Prelude.{IfSome, unwrap_or, ◌==◌}
use Rattle.dscript_ast.specs.ExprTree.{ParamTree}
use Rattle.dscript_ast.specs.TypeTree.{TypeTree}
use Rattle.dscript_value.specs.Plain as plain
use Rattle.dscript_value.specs.Plain.{Plain}
use Rattle.dscript_program.specs.ProgramData.{FunctionData, ProgramData}
use Rattle.dscript_eval_meaning.specs.Frames.{captured_value, captures, filled, function_frame, local_value, with_local}
use Rattle.dscript_eval_meaning.specs.States.{Frame, State}
use Rattle.dscript_types_meaning.specs.Types.{TypeData}
use Rattle.dscript_types_meaning.specs.Unions.{if_optional, undefined_type}
use Rattle.dscript_types_meaning.specs.Fits.{fits}
use Rattle.dscript_types_meaning.specs.Contexts.{Context, Known, Local, captured_local, captured_locals}
use Rattle.dscript_types_meaning.specs.Functions.{all_parameters, declared_locals, declared_parameter, given_locals}
use Rattle.dscript_types_meaning.specs.Functions.{given_parameter, noted, parameter, parameters_fit}
use Rattle.dscript_types_meaning.specs.Values.{HasType}
use Rattle.dscript_types_values.proofs.Among.{Among, any_among}
use Rattle.dscript_types_values.proofs.Fitting.{fits_has}
use Rattle.dscript_types_values.proofs.Joining.{has_if_optional, undefined_itself}
use Rattle.dscript_types_laws.specs.Invariants.{HoldsLocal, HoldsLocals}
use Rattle.dscript_types_laws.proofs.Operators.{within_is}

-- ## Lists of values

module _ {X : Type 0} where
  set_at : (xs : List X) (i : ℕ) (x : X) → i < length xs → slice_get (slice_set xs i x) i ≡ Some x
  set_at [] i x lt = absurd (omega (arith, lt))
  set_at (y ∷ ys) zero x lt = refl
  set_at (y ∷ ys) (suc i) x lt = set_at ys i x (omega (arith, lt))

  set_other : (xs : List X) (i k : ℕ) (x : X) → (i ≡ k → ⊥) → slice_get (slice_set xs i x) k ≡ slice_get xs k
  set_other [] zero k x ne = refl
  set_other [] (suc i) k x ne = refl
  set_other (y ∷ ys) zero zero x ne = absurd (ne refl)
  set_other (y ∷ ys) zero (suc k) x ne = refl
  set_other (y ∷ ys) (suc i) zero x ne = refl
  set_other (y ∷ ys) (suc i) (suc k) x ne = set_other ys i k x (λ e. ne (ap suc e))

  pub set_length : (xs : List X) (i : ℕ) (x : X) → length (slice_set xs i x) ≡ length xs
  set_length [] zero x = refl
  set_length [] (suc i) x = refl
  set_length (y ∷ ys) zero x = refl
  set_length (y ∷ ys) (suc i) x = let h = set_length ys i x in omega (arith, h)

  take_value : (n : ℕ) (xs : List X) (i : ℕ) → i < n → slice_get (take n xs) i ≡ slice_get xs i
  take_value zero xs i lt = absurd (omega (arith, lt))
  take_value (suc n) [] i lt = refl
  take_value (suc n) (x ∷ xs) zero lt = refl
  take_value (suc n) (x ∷ xs) (suc i) lt = take_value n xs i (omega (arith, lt))

  pub each_of : (P : X → Type 0) (xs : List X) (x : X) → AllByRecursion P xs → Among xs x → P x
  each_of P [] x h a = absurd a
  each_of P (y ∷ ys) x h (inl is) = subst P is h.0
  each_of P (y ∷ ys) x h (inr a) = each_of P ys x h.1 a

  pub of_each : (P : X → Type 0) (xs : List X) → ((x : X) → Among xs x → P x) → AllByRecursion P xs
  of_each P [] h = tt
  of_each P (x ∷ xs) h = (h x (inl refl), of_each P xs (λ y a. h y (inr a)))

filled_value
    : (n : ℕ) (xs : List Plain) (i : ℕ) → i < n
    → unwrap_or (slice_get (filled n xs) i) plain.Undefined ≡ unwrap_or (slice_get xs i) plain.Undefined
filled_value zero xs i lt = absurd (omega (arith, lt))
filled_value (suc n) [] zero lt = refl
filled_value (suc n) [] (suc i) lt = filled_value n [] i (omega (arith, lt))
filled_value (suc n) (x ∷ xs) zero lt = refl
filled_value (suc n) (x ∷ xs) (suc i) lt = filled_value n xs i (omega (arith, lt))

pub filled_length : (n : ℕ) (xs : List Plain) → length (filled n xs) ≡ n
filled_length zero xs = refl
filled_length (suc n) [] = let h = filled_length n [] in omega (arith, h)
filled_length (suc n) (x ∷ xs) = let h = filled_length n xs in omega (arith, h)

-- ## A local that is bound

pub local_set
    : (f : Frame) (n : ℕ) (x : Plain) → f.first ≤ n → n - f.first < length f.own → local_value (with_local n x f) n ≡ x
local_set f n x ge lt =
    ap (λ b. cond b (captured_value f.captured f.held n)
    (unwrap_or (slice_get (slice_set f.own (n - f.first) x) (n - f.first)) plain.Undefined)) (le-ltb n f.first ge)
    ∙ ap (λ o. unwrap_or o plain.Undefined) (set_at f.own (n - f.first) x lt)

pub local_other
    : (f : Frame) (n m : ℕ) (x : Plain) → f.first ≤ n → (n ≡ m → ⊥) → local_value (with_local n x f) m ≡ local_value f m
local_other f n m x ge ne = by_place (ltb m f.first) refl
  where
    by_place
        : (b : Bool) → ltb m f.first ≡ b
        → cond b (captured_value f.captured f.held m)
        (unwrap_or (slice_get (slice_set f.own (n - f.first) x) (m - f.first)) plain.Undefined)
        ≡ cond b (captured_value f.captured f.held m) (unwrap_or (slice_get f.own (m - f.first)) plain.Undefined)
    by_place true is = refl
    by_place false is =
        let there = ltb-false m f.first is in
        ap (λ o. unwrap_or o plain.Undefined)
        (set_other f.own (n - f.first) (m - f.first) x (λ e. let same : n ≡ m = omega (arith, e, there, ge) in ne same))

pub holds_as : (f g : Frame) (l : Local) → local_value f l.number ≡ local_value g l.number → HoldsLocal f l → HoldsLocal g l
holds_as f g l same h = subst (λ x. IfSome l.type_data (λ t. HasType x t)) same h

pub hold_as
    : (f g : Frame) (ls : List Local) → ((l : Local) → Among ls l → local_value f l.number ≡ local_value g l.number)
    → HoldsLocals f ls → HoldsLocals g ls
hold_as f g [] same h = tt
hold_as f g (l ∷ ls) same h = (holds_as f g l (same l (inl refl)) h.0, hold_as f g ls (λ k a. same k (inr a)) h.1)

pub append_hold
    : (f : Frame) (ls ks : List Local) → HoldsLocals f ls → HoldsLocals f ks → HoldsLocals f (ls ++ ks)
append_hold f [] ks p q = q
append_hold f (l ∷ ls) ks p q = (p.0, append_hold f ls ks p.1 q)

-- ## What a function captures

captured_case
    : (cs : List ℕ) (s : State) (c n : ℕ) (b : Bool) → eqb c n ≡ b → Among (c ∷ cs) n
    → (Among cs n → captured_value cs (captures cs s) n ≡ local_value s.frame n)
    → cond b (local_value s.frame c) (captured_value cs (captures cs s) n) ≡ local_value s.frame n
captured_case cs s c n true is a more = ap (λ k. local_value s.frame k) (eqb-true c n is)
captured_case cs s c n false is (inl same) more = absurd (eqb-false c n is same)
captured_case cs s c n false is (inr a) more = more a

captured_is
    : (cs : List ℕ) (s : State) (n : ℕ) → Among cs n → captured_value cs (captures cs s) n ≡ local_value s.frame n
captured_is [] s n a = absurd a
captured_is (c ∷ cs) s n a = captured_case cs s c n (eqb c n) refl a (captured_is cs s n)

module _ (f : FunctionData) (s : State) (args : List Plain) (outer : AllByRecursion (λ n. n < f.first_local) f.captured) where
  inside : (n : ℕ) → Among f.captured n → local_value (function_frame f (captures f.captured s) args) n ≡ local_value s.frame n
  inside n a =
      ap (λ b. cond b (captured_value f.captured (captures f.captured s) n)
      (unwrap_or (slice_get (filled f.local_count (take (length f.params) args)) (n - f.first_local)) plain.Undefined))
      (lt-ltb n f.first_local (each_of (λ k. k < f.first_local) f.captured n outer a))
      ∙ captured_is f.captured s n a

  one_captured
      : (l : Local) (ls : List Local) (b : Bool) → list_any (λ n. l.number == n) f.captured ≡ b → HoldsLocal s.frame l
      → HoldsLocals (function_frame f (captures f.captured s) args)
      (map captured_local (filter (λ (k : Local). list_any (λ n. k.number == n) f.captured) ls))
      → HoldsLocals (function_frame f (captures f.captured s) args)
      (map captured_local (cond b (l ∷ filter (λ (k : Local). list_any (λ n. k.number == n) f.captured) ls)
      (filter (λ (k : Local). list_any (λ n. k.number == n) f.captured) ls)))
  one_captured l ls true is h rest =
      let a = any_among (λ n. l.number == n) f.captured is in
      let there : Among f.captured l.number = subst (λ n. Among f.captured n) (sym (eqb-true l.number a.0 a.2)) a.1 in
      (holds_as s.frame (function_frame f (captures f.captured s) args) l (sym (inside l.number there)) h, rest)
  one_captured l ls false is h rest = rest

  pub captured_hold
      : (ls : List Local) → HoldsLocals s.frame ls
      → HoldsLocals (function_frame f (captures f.captured s) args) (captured_locals f.captured ls)
  captured_hold [] h = tt
  captured_hold (l ∷ ls) h =
      one_captured l ls (list_any (λ n. l.number == n) f.captured) refl h.0 (captured_hold ls h.1)

-- ## Parameters

-- what a parameter holds: what is given, or undefined
pub param_is
    : (f : FunctionData) (held args : List Plain) (i : ℕ) → i < length f.params → length f.params ≤ f.local_count
    → local_value (function_frame f held args) (f.first_local + i) ≡ unwrap_or (slice_get args i) plain.Undefined
param_is f held args i lt le =
    ap (λ b. cond b (captured_value f.captured held (f.first_local + i))
    (unwrap_or (slice_get (filled f.local_count (take (length f.params) args)) (f.first_local + i - f.first_local)) plain.Undefined))
    (le-ltb (f.first_local + i) f.first_local (omega arith))
    ∙ ap (λ k. unwrap_or (slice_get (filled f.local_count (take (length f.params) args)) k) plain.Undefined) place
    ∙ filled_value f.local_count (take (length f.params) args) i (omega (arith, lt, le))
    ∙ ap (λ o. unwrap_or o plain.Undefined) (take_value (length f.params) args i lt)
  where
    place : f.first_local + i - f.first_local ≡ i
    place = omega arith

-- the frame has what is given for parameters from this number on, one after another
abbrev GivesArguments : Frame → ℕ → List ParamTree → List Plain → Type 0
GivesArguments frame k params args =
    (i : ℕ) → i < length params → local_value frame (k + i) ≡ unwrap_or (slice_get args i) plain.Undefined

first_is : (frame : Frame) (k : ℕ) (param : ParamTree) (more : List ParamTree) (args : List Plain)
    → GivesArguments frame k (param ∷ more) args → local_value frame k ≡ unwrap_or (slice_get args 0) plain.Undefined
first_is frame k param more args gives =
    ap (λ n. local_value frame n) (same k) ∙ gives 0 (omega arith)
  where
    same : (n : ℕ) → n ≡ n + 0
    same n = omega arith

rest_is : (frame : Frame) (k : ℕ) (param : ParamTree) (more : List ParamTree) (x : Plain) (args : List Plain)
    → GivesArguments frame k (param ∷ more) (x ∷ args) → GivesArguments frame (k + 1) more args
rest_is frame k param more x args gives i lt =
    ap (λ n. local_value frame n) place ∙ gives (suc i) (omega (arith, lt))
  where
    place : k + 1 + i ≡ k + suc i
    place = omega arith

rest_none : (frame : Frame) (k : ℕ) (param : ParamTree) (more : List ParamTree)
    → GivesArguments frame k (param ∷ more) [] → GivesArguments frame (k + 1) more []
rest_none frame k param more gives i lt =
    ap (λ n. local_value frame n) place ∙ gives (suc i) (omega (arith, lt))
  where
    place : k + 1 + i ≡ k + suc i
    place = omega arith

module _ (p : ProgramData) (known : Known) (c : Context) where
  note_case
      : (optional : Bool) (given t : TypeData) (o : Option TypeData)
      → option_and_then (λ u. cond (fits given u) (Some u) None) o ≡ Some t → fits given t ≡ true
  note_case optional given t None e = absurd cc
  note_case optional given t (Some u) e = by_fit (fits given u) refl e
    where
      by_fit : (b : Bool) → fits given u ≡ b → cond b (Some u) None ≡ Some t → fits given t ≡ true
      by_fit true is at = let same : u ≡ t = cc in ap (fits given) (sym same) ∙ is
      by_fit false is at = absurd cc

  given_has
      : (param : ParamTree) (given t : TypeData) (note : Option TypeTree) (x : Plain) → given_parameter p known c param given note ≡ Some t
      → HasType x given → HasType x t
  given_has param given t None x e h =
      subst (λ u. HasType x u) (within_is (if_optional param.optional given) t e) (has_if_optional x param.optional given h)
  given_has param given t (Some annotation) x e h =
      fits_has x given t (note_case param.optional given t (noted p known c param.optional annotation) e) h

  cons_case
      : (k : ℕ) (t : TypeData) (rest : Option (List Local)) (locals : List Local)
      → option_map (λ ls. parameter k (Some t) ∷ ls) rest ≡ Some locals
      → (ls : List Local) × (rest ≡ Some ls) × (parameter k (Some t) ∷ ls ≡ locals)
  cons_case k t None locals e = absurd cc
  cons_case k t (Some ls) locals e = let same : parameter k (Some t) ∷ ls ≡ locals = cc in (ls, refl, same)

  locals_case
      : (k : ℕ) (o : Option TypeData) (rest : Option (List Local)) (locals : List Local)
      → option_and_then (λ t. option_map (λ ls. parameter k (Some t) ∷ ls) rest) o ≡ Some locals
      → (t : TypeData) × (ls : List Local) × (o ≡ Some t) × (rest ≡ Some ls) × (parameter k (Some t) ∷ ls ≡ locals)
  locals_case k None rest locals e = absurd cc
  locals_case k (Some t) rest locals e =
      let r = cons_case k t rest locals e in (t, r.0, refl, r.1, r.2)

  -- the parameters of a callback hold what is given
  pub given_hold
      : (params : List ParamTree) (k : ℕ) (given : List TypeData) (locals : List Local) (frame : Frame) (args : List Plain)
      → given_locals p known c k params given ≡ Some locals → AllZip HasType args given → GivesArguments frame k params args
      → HoldsLocals frame locals
  given_hold [] k given locals frame args e zip gives =
      let same : [] ≡ locals = cc in subst (λ ls. HoldsLocals frame ls) same tt
  given_hold (param ∷ more) k [] locals frame [] e zip gives =
      let r = locals_case k (given_parameter p known c param undefined_type param.type_node) (given_locals p known c (k + 1) more []) locals e in
      subst (λ ls. HoldsLocals frame ls) r.4 (
        subst (λ x. HasType x r.0) (sym (first_is frame k param more [] gives))
            (given_has param undefined_type r.0 param.type_node plain.Undefined r.2 undefined_itself),
        given_hold more (k + 1) [] r.1 frame [] r.3 tt (rest_none frame k param more gives),
      )
  given_hold (param ∷ more) k [] locals frame (x ∷ args) e zip gives = absurd zip
  given_hold (param ∷ more) k (g ∷ given) locals frame [] e zip gives = absurd zip
  given_hold (param ∷ more) k (g ∷ given) locals frame (x ∷ args) e zip gives =
      let r = locals_case k (given_parameter p known c param g param.type_node) (given_locals p known c (k + 1) more given) locals e in
      subst (λ ls. HoldsLocals frame ls) r.4 (
        subst (λ y. HasType y r.0) (sym (first_is frame k param more (x ∷ args) gives))
            (given_has param g r.0 param.type_node x r.2 zip.0),
        given_hold more (k + 1) given r.1 frame args r.3 zip.1 (rest_is frame k param more x args gives),
      )

  types_case
      : (t : TypeData) (rest : Option (List TypeData)) (types : List TypeData) → option_map (λ ts. t ∷ ts) rest ≡ Some types
      → (ts : List TypeData) × (rest ≡ Some ts) × (t ∷ ts ≡ types)
  types_case t None types e = absurd cc
  types_case t (Some ts) types e = let same : t ∷ ts ≡ types = cc in (ts, refl, same)

  all_case
      : (o : Option TypeData) (rest : Option (List TypeData)) (types : List TypeData)
      → option_and_then (λ t. option_map (λ ts. t ∷ ts) rest) o ≡ Some types
      → (t : TypeData) × (ts : List TypeData) × (o ≡ Some t) × (rest ≡ Some ts) × (t ∷ ts ≡ types)
  all_case None rest types e = absurd cc
  all_case (Some t) rest types e = let r = types_case t rest types e in (t, r.0, refl, r.1, r.2)

  fit_case
      : (g t : TypeData) (more given : List TypeData) (b : Bool) → fits g t ≡ b
      → elim b [
        | true ↦ parameters_fit more given
        | false ↦ false
      ] ≡ true
      → (fits g t ≡ true) × (parameters_fit more given ≡ true)
  fit_case g t more given true is e = (is, e)
  fit_case g t more given false is e = absurd cc

  holds_type : (x : Plain) (o : Option TypeData) (t : TypeData) → o ≡ Some t → HasType x t → IfSome o (λ u. HasType x u)
  holds_type x o t is h = subst (λ q. IfSome q (λ u. HasType x u)) (sym is) h

  -- the parameters of a declared function hold what is given
  pub declared_hold
      : (params : List ParamTree) (k : ℕ) (given types : List TypeData) (frame : Frame) (args : List Plain)
      → all_parameters p known c params ≡ Some types → parameters_fit types given ≡ true → AllZip HasType args given
      → GivesArguments frame k params args → HoldsLocals frame (declared_locals p known c k params)
  declared_hold [] k given types frame args e fit zip gives = tt
  declared_hold (param ∷ more) k [] types frame [] e fit zip gives =
      let r = all_case (declared_parameter p known c param) (all_parameters p known c more) types e in
      let fits_all : parameters_fit (r.0 ∷ r.1) [] ≡ true = ap (λ ts. parameters_fit ts []) r.4 ∙ fit in
      let f = fit_case undefined_type r.0 r.1 [] (fits undefined_type r.0) refl fits_all in (
        holds_type (local_value frame k) (declared_parameter p known c param) r.0 r.2
            (subst (λ x. HasType x r.0) (sym (first_is frame k param more [] gives))
            (fits_has plain.Undefined undefined_type r.0 f.0 undefined_itself)),
        declared_hold more (k + 1) [] r.1 frame [] r.3 f.1 tt (rest_none frame k param more gives),
      )
  declared_hold (param ∷ more) k [] types frame (x ∷ args) e fit zip gives = absurd zip
  declared_hold (param ∷ more) k (g ∷ given) types frame [] e fit zip gives = absurd zip
  declared_hold (param ∷ more) k (g ∷ given) types frame (x ∷ args) e fit zip gives =
      let r = all_case (declared_parameter p known c param) (all_parameters p known c more) types e in
      let fits_all : parameters_fit (r.0 ∷ r.1) (g ∷ given) ≡ true = ap (λ ts. parameters_fit ts (g ∷ given)) r.4 ∙ fit in
      let f = fit_case g r.0 r.1 given (fits g r.0) refl fits_all in (
        holds_type (local_value frame k) (declared_parameter p known c param) r.0 r.2
            (subst (λ y. HasType y r.0) (sym (first_is frame k param more (x ∷ args) gives)) (fits_has x g r.0 f.0 zip.0)),
        declared_hold more (k + 1) given r.1 frame args r.3 f.1 zip.1 (rest_is frame k param more x args gives),
      )

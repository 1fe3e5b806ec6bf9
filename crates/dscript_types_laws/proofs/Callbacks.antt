-- Members that call functions, and what stands as a callback.
use Rattle.std.proofs.Common.{◌≡◌, ℕ, zero, suc, ◌+◌, ◌<◌, ◌≤◌, Bool, true, false, cond, List, [], ◌∷◌, ◌++◌, length, pos, slice_get}
use Rattle.std.proofs.Common.{Option, Some, None, Ok, Err, refl, sym, ap, ◌∙◌, subst, inl, inr, arith}
use Rattle.std.specs.List.{AllByRecursion, AllZip, list_all}
use Rattle.std.specs.Prelude.{nat_le, nat_lt}
use Rattle.dscript_ast.specs.TypeTree.{TypeTree}
use Rattle.dscript_value.specs.Depths.{greatest_depth}
use Rattle.dscript_value.specs.declared.makers.TheConstants.{MAX_DEPTH}
use Rattle.dscript_value.specs.declared.parts.Callee.{Callee}
use Rattle.dscript_value.specs.declared.parts.Callee.TheVariants as callees
use Rattle.dscript_value.specs.Plain as plain
use Rattle.dscript_value.specs.Plain.{Plain, Items, item_list, item_list-to_items, to_items}
use Rattle.dscript_sdk_values.specs.declared.fault.SdkFault.TheVariants.{Range}
use Rattle.dscript_sdk_values.specs.declared.limits.TheConstants.{MAX_LIST_ITEMS}
use Rattle.dscript_sdk_values.specs.Answers.{function_answer, list_answer}
use Rattle.dscript_sdk_values.specs.Outcomes.{unless_none}
use Rattle.dscript_sdk_members.specs.declared.member.Member.{Member}
use Rattle.dscript_sdk_members.specs.declared.member.Member.TheVariants as members
use Rattle.dscript_program.specs.BoundTree as tree
use Rattle.dscript_program.specs.BoundTree.{ExprData}
use Rattle.dscript_program.specs.Numbering.{HasConsecutiveLocals, IsConsecutive, body_takers}
use Rattle.dscript_program.specs.ProgramData as declared
use Rattle.dscript_program.specs.ProgramData.{DeclData, FunctionData, KindData, ProgramData}
use Rattle.dscript_program.specs.declared.target.Target.TheVariants as targets
use Rattle.dscript_names.specs.Captures.{AllCaptureOuter, HasOuterCaptures}
use Rattle.dscript_eval_operators.specs.CallbackArguments.{Function as Called, callback_in, reduction_in}
use Rattle.dscript_eval_operators.specs.Spreads.{with_items_of}
use Rattle.dscript_eval_operators.specs.Truth.{is_true}
use Rattle.dscript_eval_meaning.specs.Acts.{Acts, Call}
use Rattle.dscript_eval_meaning.specs.Callbacks.{callbacks, filtered, joined, mapped, reduced}
use Rattle.dscript_eval_meaning.specs.Evaluating.{Gives, answered, step}
use Rattle.dscript_eval_meaning.specs.Expressions.{arrow, captured_of, value}
use Rattle.dscript_eval_meaning.specs.Frames.{captures, function_frame}
use Rattle.dscript_eval_meaning.specs.States.{State}
use Rattle.dscript_types_meaning.specs.declared.kind.Kind.TheVariants as kinds
use Rattle.dscript_types_meaning.specs.Types.{TypeData, list_type, members_of, never}
use Rattle.dscript_types_meaning.specs.Sizes.{within_limit}
use Rattle.dscript_types_meaning.specs.Unions.{is_list_type, is_never, items_of}
use Rattle.dscript_types_meaning.specs.Fits.{fits}
use Rattle.dscript_types_meaning.specs.Operators.{number_type}
use Rattle.dscript_types_meaning.specs.Contexts.{Callback, Context, Known, Local, Standing, only, stands}
use Rattle.dscript_types_meaning.specs.Lookups.{decl_at, function_at}
use Rattle.dscript_types_meaning.specs.Expressions as typing
use Rattle.dscript_types_meaning.specs.Expressions.{Function}
use Rattle.dscript_types_meaning.specs.Functions.{answer_of_decl, answer_of_kind, arrow_answer, by_answer, callback_answer}
use Rattle.dscript_types_meaning.specs.Functions.{callback_context, function_type, given_locals, given_to}
use Rattle.dscript_types_meaning.specs.Bodies.{standing_uses}
use Rattle.dscript_types_meaning.specs.Values.{HasType}
use Rattle.dscript_types_values.proofs.Among.{Among, all_among, and_left}
use Rattle.dscript_types_values.proofs.Fitting.{fits_has, kind_has}
use Rattle.dscript_types_values.proofs.Joining.{list_has, of_has}
use Rattle.dscript_types_laws.specs.Invariants.{Answers, ComesTo, HoldsConstants, HoldsLocals, IsChecked, IsFunctionOf, IsOfSubject}
use Rattle.dscript_types_laws.specs.Invariants.{IsSound, IsSoundAt, OpensSoundly, is_checked}
use Rattle.dscript_types_laws.proofs.Framing.{append_hold, captured_hold, each_of, given_hold, param_is}
use Rattle.dscript_types_laws.proofs.ListMethods.{append_all, wider_all}
use Rattle.dscript_types_laws.proofs.Methods.{list_answered}
use Rattle.dscript_types_laws.proofs.Naming.{named_sound}
use Rattle.dscript_types_laws.proofs.Operators.{within_is}
use Rattle.dscript_types_laws.proofs.Pairs.{some_pair}
use Rattle.dscript_types_laws.proofs.Scenes.{callback_scene, run_rises}
use Rattle.dscript_types_laws.proofs.Sound.{answer, both, bound, given, spent, wider}
use Rattle.dscript_types_laws.proofs.Typing.{AreChecked, checked_first, checked_more, in_turn, only_is}

-- ## Items of lists that are spread

spread_case
    : (done items : List Plain) (P : Plain → Type 0) (b : Bool) → AllByRecursion P (done ++ items)
    → Answers (List Plain) (λ xs. AllByRecursion P xs) (cond b (Ok (done ++ items)) (Err Range))
spread_case done items P true h = h
spread_case done items P false h = tt

pub spread_has
    : (done : List Plain) (x : Plain) (t item : TypeData) → is_list_type t ≡ true → HasType x t
    → AllByRecursion (λ y. HasType y item) done → ((y : Plain) → HasType y (items_of t) → HasType y item)
    → Answers (List Plain) (λ xs. AllByRecursion (λ y. HasType y item) xs) (with_items_of done x)
unfolding with_items_of
spread_has done x t item lists h before wide =
    let l = list_has x t lists h in
    subst (λ y. Answers (List Plain) (λ xs. AllByRecursion (λ z. HasType z item) xs) (with_items_of done y)) (sym l.2)
    (spread_case done (item_list l.1) (λ y. HasType y item) (nat_le (length (done ++ item_list l.1)) MAX_LIST_ITEMS)
    (append_all (λ y. HasType y item) done (item_list l.1) before
    (wider_all (λ y. HasType y (items_of t)) (λ y. HasType y item) (item_list l.1) wide l.3)))

number_has : (n : ℕ) → HasType (plain.Number (pos n)) number_type
number_has n = kind_has kinds.Number (plain.Number (pos n)) (pos n, refl)

no_value : (x : Plain) (t : TypeData) → is_never t ≡ true → HasType x t → ⊥
no_value x t e h =
    let r = of_has x t h in
    let no : false ≡ true = all_among (λ m. false) (members_of t) r.0 e r.1 in absurd cc

module _ (known : Known) (act : Acts) where
  -- called with arguments of these types it comes to a value of this type
  abbrev pub Calls : List TypeData → TypeData → Called → Type 0
  Calls given r f =
      (args : List Plain) → AllZip HasType args given → IsSoundAt known [] r (act (Call f.0 f.1 args))

  -- a function that may be called back
  abbrev pub IsCalledBack : List TypeData → TypeData → Plain → Type 0
  IsCalledBack given r x =
      (callee : Callee) × (depth : ℕ) × (held : Items) × (x ≡ plain.Function callee depth held)
      × Calls given r (callee, item_list held)

  -- ## The four loops

  mapped_sound
      : (f : Called) (item r : TypeData) (n : ℕ) (xs : List Plain) → Calls (item ∷ number_type ∷ []) r f
      → AllByRecursion (λ x. HasType x item) xs
      → IsSound (List Plain) known [] (λ ys. AllByRecursion (λ y. HasType y r) ys) (mapped act f n xs)
  mapped_sound f item r n [] calls all = given known [] (List Plain) _ [] tt
  mapped_sound f item r n (x ∷ xs) calls all =
      bound known [] Plain (List Plain) (λ y. HasType y r) _ _ _
      (calls (x ∷ plain.Number (pos n) ∷ []) (all.0, (number_has n, tt)))
      (λ y is. bound known [] (List Plain) (List Plain) (λ ys. AllByRecursion (λ z. HasType z r) ys) _ _ _
      (mapped_sound f item r (n + 1) xs calls all.1)
      (λ ys rest. given known [] (List Plain) _ (y ∷ ys) (is, rest)))

  kept : (P : Plain → Type 0) (x : Plain) (xs : List Plain) (b : Bool) → P x → AllByRecursion P xs
      → AllByRecursion P (cond b (x ∷ xs) xs)
  kept P x xs true h all = (h, all)
  kept P x xs false h all = all

  filtered_sound
      : (f : Called) (item r : TypeData) (n : ℕ) (xs : List Plain) → Calls (item ∷ number_type ∷ []) r f
      → AllByRecursion (λ x. HasType x item) xs
      → IsSound (List Plain) known [] (λ ys. AllByRecursion (λ y. HasType y item) ys) (filtered act f n xs)
  filtered_sound f item r n [] calls all = given known [] (List Plain) _ [] tt
  filtered_sound f item r n (x ∷ xs) calls all =
      bound known [] Plain (List Plain) (λ y. HasType y r) _ _ _
      (calls (x ∷ plain.Number (pos n) ∷ []) (all.0, (number_has n, tt)))
      (λ y is. bound known [] (List Plain) (List Plain) (λ ys. AllByRecursion (λ z. HasType z item) ys) _ _ _
      (filtered_sound f item r (n + 1) xs calls all.1)
      (λ ys rest. given known [] (List Plain) _ (cond (is_true y) (x ∷ ys) ys)
      (kept (λ z. HasType z item) x ys (is_true y) all.0 rest)))

  joined_sound
      : (f : Called) (item r : TypeData) (n : ℕ) (done xs : List Plain) → Calls (item ∷ number_type ∷ []) r f
      → is_list_type r ≡ true → AllByRecursion (λ x. HasType x item) xs
      → AllByRecursion (λ x. HasType x (items_of r)) done
      → IsSound (List Plain) known [] (λ ys. AllByRecursion (λ y. HasType y (items_of r)) ys) (joined act f n done xs)
  joined_sound f item r n done [] calls lists all before = given known [] (List Plain) _ done before
  joined_sound f item r n done (x ∷ xs) calls lists all before =
      bound known [] Plain (List Plain) (λ y. HasType y r) _ _ _
      (calls (x ∷ plain.Number (pos n) ∷ []) (all.0, (number_has n, tt)))
      (λ y is. bound known [] (List Plain) (List Plain) (λ ys. AllByRecursion (λ z. HasType z (items_of r)) ys) _ _ _
      (answer known [] (List Plain) _ (with_items_of done y) (spread_has done y r (items_of r) lists is before (λ z h. h)))
      (λ more now. joined_sound f item r (n + 1) more xs calls lists all.1 now))

  reduced_sound
      : (f : Called) (item r start : TypeData) (n : ℕ) (so_far : Plain) (xs : List Plain)
      → Calls (start ∷ item ∷ number_type ∷ []) r f → fits r start ≡ true → HasType so_far start
      → AllByRecursion (λ x. HasType x item) xs → IsSoundAt known [] start (reduced act f n so_far xs)
  reduced_sound f item r start n so_far [] calls fit h all = given known [] Plain _ so_far h
  reduced_sound f item r start n so_far (x ∷ xs) calls fit h all =
      bound known [] Plain Plain (λ y. HasType y r) _ _ _
      (calls (so_far ∷ x ∷ plain.Number (pos n) ∷ []) (h, (all.0, (number_has n, tt))))
      (λ y is. reduced_sound f item r start (n + 1) y xs calls fit (fits_has y r start fit is) all.1)

  -- ## The members

  abbrev Comes : TypeData → Member → List Plain → Plain → List Plain → Type 0
  Comes a m items f args = IsSoundAt known [] a (callbacks act (Some m) items (f ∷ args))

  map_sound
      : (item r : TypeData) (callee : Callee) (depth : ℕ) (held : Items) (items args : List Plain)
      → Calls (item ∷ number_type ∷ []) r (callee, item_list held) → AllByRecursion (λ x. HasType x item) items
      → Comes (list_type r) members.Map items (plain.Function callee depth held) args
  unfolding callbacks callback_in
  map_sound item r callee depth held items args calls all =
      bound known [] (List Plain) Plain (λ ys. AllByRecursion (λ y. HasType y r) ys) (λ x. HasType x (list_type r)) _ _
      (mapped_sound (callee, item_list held) item r 0 items calls all)
      (λ ys is. answer known [] Plain _ (list_answer ys) (list_answered ys r is))

  filter_sound
      : (item r : TypeData) (callee : Callee) (depth : ℕ) (held : Items) (items args : List Plain)
      → Calls (item ∷ number_type ∷ []) r (callee, item_list held) → AllByRecursion (λ x. HasType x item) items
      → Comes (list_type item) members.Filter items (plain.Function callee depth held) args
  unfolding callbacks callback_in
  filter_sound item r callee depth held items args calls all =
      bound known [] (List Plain) Plain (λ ys. AllByRecursion (λ y. HasType y item) ys) (λ x. HasType x (list_type item)) _ _
      (filtered_sound (callee, item_list held) item r 0 items calls all)
      (λ ys is. answer known [] Plain _ (list_answer ys) (list_answered ys item is))

  many_sound
      : (item r : TypeData) (callee : Callee) (depth : ℕ) (held : Items) (items args : List Plain) → is_list_type r ≡ true
      → Calls (item ∷ number_type ∷ []) r (callee, item_list held) → AllByRecursion (λ x. HasType x item) items
      → Comes (list_type (items_of r)) members.MapMany items (plain.Function callee depth held) args
  unfolding callbacks callback_in
  many_sound item r callee depth held items args lists calls all =
      bound known [] (List Plain) Plain (λ ys. AllByRecursion (λ y. HasType y (items_of r)) ys)
      (λ x. HasType x (list_type (items_of r))) _ _
      (joined_sound (callee, item_list held) item r 0 [] items calls lists all tt)
      (λ ys is. answer known [] Plain _ (list_answer ys) (list_answered ys (items_of r) is))

  reduce_sound
      : (item r start : TypeData) (callee : Callee) (depth : ℕ) (held : Items) (items args : List Plain) (x : Plain)
      → Calls (start ∷ item ∷ number_type ∷ []) r (callee, item_list held) → fits r start ≡ true → HasType x start
      → AllByRecursion (λ y. HasType y item) items
      → Comes start members.Reduce items (plain.Function callee depth held) (x ∷ args)
  unfolding callbacks reduction_in
  reduce_sound item r start callee depth held items args x calls fit h all =
      reduced_sound (callee, item_list held) item r start 0 x items calls fit h all

  -- what is given to a callback
  given_as : (given other : List TypeData) (r : TypeData) (f : Called) → Some given ≡ Some other → Calls other r f → Calls given r f
  given_as given other r f e calls = let same : given ≡ other = cc in subst (λ gs. Calls gs r f) (sym same) calls

  as_type : (t u : TypeData) (m : Gives Plain) → t ≡ u → IsSoundAt known [] t m → IsSoundAt known [] u m
  as_type t u m e h = subst (λ v. IsSoundAt known [] v m) e h

  many_case
      : (item r a : TypeData) (callee : Callee) (depth : ℕ) (held : Items) (items args : List Plain) (b : Bool)
      → is_list_type r ≡ b → cond b (within_limit (list_type (items_of r))) None ≡ Some a
      → Calls (item ∷ number_type ∷ []) r (callee, item_list held) → AllByRecursion (λ x. HasType x item) items
      → Comes a members.MapMany items (plain.Function callee depth held) args
  many_case item r a callee depth held items args true is e calls all =
      as_type (list_type (items_of r)) a _ (within_is (list_type (items_of r)) a e)
      (many_sound item r callee depth held items args is calls all)
  many_case item r a callee depth held items args false is e calls all = absurd cc

  reduce_case
      : (item r start a : TypeData) (callee : Callee) (depth : ℕ) (held : Items) (items args : List Plain) (x : Plain) (b : Bool)
      → fits r start ≡ b → cond b (Some start) None ≡ Some a
      → Calls (start ∷ item ∷ number_type ∷ []) r (callee, item_list held) → HasType x start
      → AllByRecursion (λ y. HasType y item) items
      → Comes a members.Reduce items (plain.Function callee depth held) (x ∷ args)
  reduce_case item r start a callee depth held items args x true is e calls h all =
      let same : start ≡ a = cc in
      as_type start a _ same (reduce_sound item r start callee depth held items args x calls is h all)
  reduce_case item r start a callee depth held items args x false is e calls h all = absurd cc

  member_calls
      : (m : Member) (item r a : TypeData) (further given : List TypeData) (callee : Callee) (depth : ℕ) (held : Items)
      (items args : List Plain) → given_to m item further ≡ Some given → by_answer m item further r ≡ Some a
      → Calls given r (callee, item_list held) → AllZip HasType args further → AllByRecursion (λ x. HasType x item) items
      → Comes a m items (plain.Function callee depth held) args
  member_calls members.Map item r a further given callee depth held items args e by calls zip all =
      as_type (list_type r) a _ (within_is (list_type r) a by)
      (map_sound item r callee depth held items args (given_as _ given r _ e calls) all)
  member_calls members.Filter item r a further given callee depth held items args e by calls zip all =
      as_type (list_type item) a _ (within_is (list_type item) a by)
      (filter_sound item r callee depth held items args (given_as _ given r _ e calls) all)
  member_calls members.MapMany item r a further given callee depth held items args e by calls zip all =
      many_case item r a callee depth held items args (is_list_type r) refl by (given_as _ given r _ e calls) all
  member_calls members.Reduce item r a [] given callee depth held items args e by calls zip all = absurd cc
  member_calls members.Reduce item r a (start ∷ further) given callee depth held items [] e by calls zip all = absurd zip
  member_calls members.Reduce item r a (start ∷ further) given callee depth held items (x ∷ args) e by calls zip all =
      reduce_case item r start a callee depth held items args x (fits r start) refl by (given_as _ given r _ e calls) zip.0 all
  member_calls m item r a further given callee depth held items args e by calls zip all = absurd cc

  never_case
      : (m : Member) (t item r a : TypeData) (further : List TypeData) (x : Plain) (b : Bool) → is_never t ≡ b
      → cond b (Some never) (by_answer m item further r) ≡ Some a → HasType x t → by_answer m item further r ≡ Some a
  never_case m t item r a further x true is e h = absurd (no_value x t is h)
  never_case m t item r a further x false is e h = e

  -- a member that calls functions, at a list of the type and a callback
  pub callbacks_sound
      : (m : Member) (t r a : TypeData) (further given : List TypeData) (f : Plain) (depth : ℕ) (xs : Items) (args : List Plain)
      → is_list_type t ≡ true → given_to m (items_of t) further ≡ Some given
      → cond (is_never t) (Some never) (by_answer m (items_of t) further r) ≡ Some a
      → HasType (plain.Listed depth xs) t → AllByRecursion (λ y. HasType y (items_of t)) (item_list xs)
      → IsCalledBack given r f → AllZip HasType args further
      → IsSoundAt known [] a (callbacks act (Some m) (item_list xs) (f ∷ args))
  callbacks_sound m t r a further given f depth xs args lists e by h all back zip =
      subst (λ g. IsSoundAt known [] a (callbacks act (Some m) (item_list xs) (g ∷ args))) (sym back.3)
      (member_calls m (items_of t) r a further given back.0 back.1 back.2 (item_list xs) args e
      (never_case m t (items_of t) r a further (plain.Listed depth xs) (is_never t) refl by h) back.4 zip all)

-- ## Numbers of locals

get_among : {X : Type 0} (xs : List X) (n : ℕ) (x : X) → slice_get xs n ≡ Some x → Among xs x
get_among [] n x e = absurd cc
get_among (y ∷ ys) zero x e = let same : y ≡ x = cc in inl same
get_among (y ∷ ys) (suc n) x e = inr (get_among ys n x e)

-- the locals of a function of a program are numbered in one run
pub function_runs
    : (p : ProgramData) (number : ℕ) (f : FunctionData) → HasConsecutiveLocals p → function_at p number ≡ Some f
    → IsConsecutive p.functions f
function_runs p number f runs at =
    each_of (IsConsecutive p.functions) p.functions f runs (get_among p.functions number f at)

pub params_within
    : (p : ProgramData) (number : ℕ) (f : FunctionData) → HasConsecutiveLocals p → function_at p number ≡ Some f
    → length f.params ≤ f.local_count
params_within p number f runs at =
    let r = run_rises p.functions (f.first_local + length f.params) (body_takers f.body) (f.first_local + f.local_count)
    (function_runs p number f runs at) in
    omega (arith, r)

pub captures_outer
    : (p : ProgramData) (number : ℕ) (f : FunctionData) → AllCaptureOuter p → function_at p number ≡ Some f
    → AllByRecursion (λ n. n < f.first_local) f.captured
captures_outer p number f outer at =
    (each_of HasOuterCaptures p.functions f outer (get_among p.functions number f at)).0

-- ## Callbacks

-- a call of a declared function that has a type is one of a function
pub function_there
    : (p : ProgramData) (known : Known) (file decl : ℕ) (given : List TypeData) (t : TypeData)
    → function_type p known file decl given ≡ Some t
    → (d : DeclData) × (ts : List (List ℕ)) × (note : Option TypeTree) × (number : ℕ) × (decl_at p file decl ≡ Some d)
    × (d.kind ≡ declared.Function ts note number)
unfolding function_type
function_there p known file decl given t e = by_decl (decl_at p file decl) refl e
  where
    by_kind
        : (d : DeclData) (k : KindData) → decl_at p file decl ≡ Some d → d.kind ≡ k
        → answer_of_kind p known file decl d given k ≡ Some t
        → (d : DeclData) × (ts : List (List ℕ)) × (note : Option TypeTree) × (number : ℕ) × (decl_at p file decl ≡ Some d)
        × (d.kind ≡ declared.Function ts note number)
    by_kind d (declared.Const note e) at is typed = absurd cc
    by_kind d (declared.Function ts note number) at is typed = (d, ts, note, number, at, is)
    by_kind d (declared.Interface ts es ms) at is typed = absurd cc
    by_kind d (declared.TypeAlias ts u) at is typed = absurd cc

    by_decl
        : (o : Option DeclData) → decl_at p file decl ≡ o → answer_of_decl p known file decl given o ≡ Some t
        → (d : DeclData) × (ts : List (List ℕ)) × (note : Option TypeTree) × (number : ℕ) × (decl_at p file decl ≡ Some d)
        × (d.kind ≡ declared.Function ts note number)
    by_decl None at typed = absurd cc
    by_decl (Some d) at typed = by_kind d d.kind at refl typed

module _ (p : ProgramData) (known : Known) (act : Acts) (opens : OpensSoundly p known act) (outer : AllCaptureOuter p)
    (runs : HasConsecutiveLocals p) where
  -- an arrow, with what its captured locals hold
  arrow_calls
      : (c : Context) (number n : ℕ) (f : FunctionData) (s : State) (given : List TypeData) (locals : List Local) (r : TypeData)
      → function_at p number ≡ Some f → given_locals p known c f.first_local f.params given ≡ Some locals
      → known (Callback number (callback_context c f locals)) ≡ Some r
      → IsChecked p known n (record { number = number; context = callback_context c f locals })
      → HoldsLocals s.frame c.locals → Calls known act given r (callees.Place number, captures f.captured s)
  arrow_calls c number n f s given locals r at typed back checked holds args zip =
      opens.callback n number (callback_context c f locals) f (captures f.captured s) args r at back checked
      (callback_scene p known c f given locals c.locals typed (captures_outer p number f outer at))
      (append_hold (function_frame f (captures f.captured s) args) locals _
      (given_hold p known c f.params f.first_local given locals (function_frame f (captures f.captured s) args) args typed zip
      (λ i lt. param_is f (captures f.captured s) args i lt (params_within p number f runs at)))
      (captured_hold f s args (captures_outer p number f outer at) c.locals holds))

  arrow_case
      : (number : ℕ) (s : State) (given : List TypeData) (r : TypeData) (held : List Plain) (b : Bool)
      → Calls known act given r (callees.Place number, held) → HoldsConstants known s
      → ComesTo Plain known (IsCalledBack known act given r) s.frame
      (answered (unless_none Range (cond b (Some (plain.Function (callees.Place number) (greatest_depth held + 1) (to_items held))) None)) s)
  arrow_case number s given r held true calls constants = record {
    is = (
      callees.Place number,
      greatest_depth held + 1,
      to_items held,
      refl,
      subst (λ xs. Calls known act given r (callees.Place number, xs)) (sym (item_list-to_items held)) calls,
    );
    frame = refl;
    constants = constants;
  }
  arrow_case number s given r held false calls constants = tt

  arrow_sound
      : (c : Context) (number : ℕ) (f : FunctionData) (given : List TypeData) (r : TypeData) (bodies : List Standing)
      → function_at p number ≡ Some f → arrow_answer p known number c given (Some f) ≡ Some (r, bodies)
      → AreChecked p known bodies → IsSound Plain known c.locals (IsCalledBack known act given r) (arrow p number)
  unfolding arrow
  arrow_sound c number f given r bodies at typed checked s holds constants =
      let first = in_turn (only (given_locals p known c f.first_local f.params given)) _ r bodies typed in
      let locals = (only_is (given_locals p known c f.first_local f.params given) first.0 first.1 first.3).0 in
      let body : Standing = record { number = number; context = callback_context c f first.0 } in
      let second = in_turn (stands body) (λ u. only (known (Callback number (callback_context c f first.0)))) r first.2 first.4 in
      let back = (only_is (known (Callback number (callback_context c f first.0))) r second.2 second.4).0 in
      let more = checked_more p known first.1 first.2 bodies first.5 checked in
      let one = checked_first p known second.1 second.2 first.2 second.5 more in
      let stood : second.1 ≡ body ∷ [] = sym (some_pair tt second.0 (body ∷ []) second.1 second.3).1 in
      let all : list_all (λ b. list_all (is_checked p known one.depth) (standing_uses p known b)) (body ∷ []) ≡ true
      = ap (list_all (λ b. list_all (is_checked p known one.depth) (standing_uses p known b))) (sym stood) ∙ one.is in
      let is : IsChecked p known one.depth body = and_left (list_all (is_checked p known one.depth) (standing_uses p known body)) true all in
      subst (λ o. ComesTo Plain known (IsCalledBack known act given r) s.frame
      (answered (function_answer (callees.Place number) (captures (captured_of o) s)) s)) (sym at)
      (arrow_case number s given r (captures f.captured s) (nat_lt (greatest_depth (captures f.captured s)) MAX_DEPTH)
      (arrow_calls c number one.depth f s given first.0 r at locals back is holds) constants)

  function_calls
      : (file decl : ℕ) (given : List TypeData) (r : TypeData) (x : Plain) → function_type p known file decl given ≡ Some r
      → IsFunctionOf p file decl x → IsCalledBack known act given r x
  function_calls file decl given r x typed h = (
    callees.Place h.3,
    h.4,
    plain.End,
    h.7,
    λ args zip. opens.function file decl h.0 h.1 h.2 h.3 given args r h.5 h.6 typed zip,
  )

  arrow_of
      : (c : Context) (number : ℕ) (given : List TypeData) (r : TypeData) (bodies : List Standing) (o : Option FunctionData)
      → function_at p number ≡ o → arrow_answer p known number c given o ≡ Some (r, bodies) → AreChecked p known bodies
      → IsSound Plain known c.locals (IsCalledBack known act given r) (arrow p number)
  arrow_of c number given r bodies None at typed checked = absurd cc
  arrow_of c number given r bodies (Some f) at typed checked = arrow_sound c number f given r bodies at typed checked

  -- what stands as a callback is a function that may be called back
  pub callback_sound
      : (c : Context) (e : ExprData) (given : List TypeData) (r : TypeData) (bodies : List Standing)
      → callback_answer p known c (Some e) given ≡ Some (r, bodies) → AreChecked p known bodies
      → IsSound Plain known c.locals (IsCalledBack known act given r) (value p act e)
  unfolding callback_answer value typing.named
  callback_sound c (tree.Arrow number) given r bodies typed checked =
      both known c.locals _ Plain _ _ step (arrow p number) (spent known c.locals 1)
      (arrow_of c number given r bodies (function_at p number) refl typed checked)
  callback_sound c (tree.Name (targets.Declared file decl)) given r bodies typed checked =
      let is = (only_is (function_type p known file decl given) r bodies typed).0 in
      let there = function_there p known file decl given r is in
      both known c.locals _ Plain _ _ step _ (spent known c.locals 1)
      (wider known c.locals Plain (IsOfSubject p (Function file decl)) (IsCalledBack known act given r) _
      (λ x h. function_calls file decl given r x is h)
      (named_sound p known act opens c (targets.Declared file decl) (Function file decl) []
      (ap (typing.named_decl known file decl) there.4 ∙ ap (typing.named_kind known file decl) there.5)))
  callback_sound c e given r bodies typed checked = absurd cc

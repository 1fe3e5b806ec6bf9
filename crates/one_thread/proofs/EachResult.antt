-- Each pip's result is read off the results of all.
use Rattle.std.proofs.Common.{◌≡◌, ℕ, zero, suc, ◌+◌, ◌<◌, ◌≤◌, ◌==◌, Bool, true, false, ◌&&◌, ◌||◌, cond, List, [], ◌∷◌, ◌++◌, length, take, drop, Some, refl, ap, sym, ◌∙◌, subst, inl, inr, arith, length-append, length-take, add-one}
use Rattle.std.specs.Prelude.{IsSomeAnd, slice_get}
use Rattle.std.specs.List.{Contains, list_all, list_any}
use Rattle.std.proofs.lemmas.Bool.{cases_Bool, cases_lt}
use Rattle.std.proofs.lemmas.Bool.Decides.{Decides-eqb}
use Rattle.std.proofs.lemmas.List.{length-map, map-append, take-append-drop, take-append-le, take_all}
use Rattle.std.proofs.lemmas.Option.{slice_get_within}
use Rattle.bx_tree.specs.Paths.{Atoms}
use Rattle.bx_tree.specs.Trees.{Files}
use Rattle.bx_tree.specs.Members.{Has}
use Rattle.bx_tree.proofs.Sets.{contains_has}
use Rattle.bx_tree.proofs.Lists.{slice_get-append}
use Rattle.pip_model_types.specs.Makers.{IsPipList}
use Rattle.pip_model_types.specs.declared.pip.Pip.{Pip}
use Rattle.pip_model_types.specs.declared.pip.PipKind.{PipKind}
use Rattle.pip_model_types.specs.declared.pip.PipKind.TheVariants.{Process, Copy, Write, Seal}
use Rattle.pip_model.specs.Edges.{targets}
use Rattle.pip_model.proofs.EdgesBack.{edge_back}
use Rattle.pip_view_inputs.specs.Results.{ByPip, inputs_of, kept_from}
use Rattle.run_record.specs.declared.outcome.Outcome.{Outcome}
use Rattle.run_record.specs.declared.outcome.Outcome.TheVariants.{Good, Failed}
use Rattle.violations.specs.declared.verdict.Verdict.TheVariants as verdicts
use Rattle.violations.specs.DoubleWrites.{clash_at, first_clash, has_clash, least_clash, or_next, outdirs_in, shared_paths}
use Rattle.one_thread.specs.OneThread.{Result, by_outcome, failed, inputs_are_good, is_good, made_by, on_from, one_thread, process_outcome, result_of, unless_clash, worked}

-- ## Places in lists

get_last : {X : Type 0} (xs : List X) (y : X) (i : ℕ) → length xs ≡ i → slice_get (xs ++ y ∷ []) i ≡ Some y
get_last [] y zero e = refl
get_last [] y (suc i) e = absurd (omega (arith, e))
get_last (x ∷ xs) y zero e = absurd (omega (arith, e))
get_last (x ∷ xs) y (suc i) e = get_last xs y i (omega (arith, e))

-- ## What a result is read off

-- tests that agree at each element
all_alike : (p q : ℕ → Bool) (js : List ℕ) → ((j : ℕ) → Has js j → p j ≡ q j) → list_all p js ≡ list_all q js
all_alike p q [] same = refl
all_alike p q (j ∷ js) same =
    ap (λ b. b && list_all p js) (same j (inl refl)) ∙ ap (λ b. q j && b) (all_alike p q js (λ k h. same k (inr h)))

-- numbers from k on are not kept, where all that are kept come before
no_test : (ts : List ℕ) (k : ℕ) → ((j : ℕ) → Has ts j → j < k) → list_any (λ j. j == k) ts ≡ false
no_test [] k low = refl
no_test (t ∷ ts) k low = elim (cases_Bool (t == k)) [
  | inl e ↦ let same = (Decides-eqb t k).0 e in let less = low t (inl refl) in absurd (omega (arith, same, less))
  | inr e ↦ ap (λ b. b || list_any (λ j. j == k) ts) e ∙ no_test ts k (λ j h. low j (inr h))
]

none_kept : (ts : List ℕ) (k : ℕ) (files : List Files) → ((j : ℕ) → Has ts j → j < k) → kept_from ts k files ≡ []
none_kept ts k [] low = refl
none_kept ts k (f ∷ fs) low =
    ap (λ b. cond b ((k, f) ∷ kept_from ts (k + 1) fs) (kept_from ts (k + 1) fs)) (no_test ts k low)
    ∙ none_kept ts (k + 1) fs (λ j h. let l = low j h in omega (arith, l))

kept_before : (ts : List ℕ) (k : ℕ) (as' bs : List Files) → ((j : ℕ) → Has ts j → j < k + length as') → kept_from ts k (as' ++ bs) ≡ kept_from ts k as'
kept_before ts k [] bs low = none_kept ts k bs (λ j h. let l = low j h in omega (arith, l))
kept_before ts k (f ∷ fs) bs low =
    by_test (list_any (λ j. j == k) ts) (kept_before ts (k + 1) fs bs (λ j h. let l = low j h in omega (arith, l)))
  where
    by_test : (t : Bool) → kept_from ts (k + 1) (fs ++ bs) ≡ kept_from ts (k + 1) fs
        → cond t ((k, f) ∷ kept_from ts (k + 1) (fs ++ bs)) (kept_from ts (k + 1) (fs ++ bs)) ≡ cond t ((k, f) ∷ kept_from ts (k + 1) fs) (kept_from ts (k + 1) fs)
    by_test true more = ap (λ ps. (k, f) ∷ ps) more
    by_test false more = more

-- a search among pips ends with the pips
clash_before : (path : Atoms) (j : ℕ) (pips : List Pip) (as' bs : List Files) → length pips ≤ length as'
    → least_clash path j pips (as' ++ bs) ≡ least_clash path j pips as'
clash_before path j [] as' bs l = refl
clash_before path j (pip ∷ pips) [] bs l = absurd (omega (arith, l))
clash_before path j (pip ∷ pips) (f ∷ fs) bs l =
    ap (cond (has_clash path pip.kind f) (Some j)) (clash_before path (j + 1) pips fs bs (omega (arith, l)))

first_before : (paths : List Atoms) (pips : List Pip) (as' bs : List Files) → length pips ≤ length as'
    → first_clash paths pips (as' ++ bs) ≡ first_clash paths pips as'
first_before [] pips as' bs l = refl
first_before (path ∷ paths) pips as' bs l =
    ap (λ o. or_next path o (first_clash paths pips (as' ++ bs))) (clash_before path 0 pips as' bs l)
    ∙ ap (or_next path (least_clash path 0 pips as')) (first_before paths pips as' bs l)

-- ## The results of the first pips are enough

module _ (pips : List Pip) (list : IsPipList pips) (tree : Files) (budget i : ℕ) (pip : Pip) (at : slice_get pips i ≡ Some pip)
    (first more : List Result) (long : length first ≡ i) where
  below : (j : ℕ) → Has (targets pips pip.kind) j → j < i
  below j h = edge_back pips list i j
      (subst (λ o. IsSomeAnd o (λ (p : Pip). Contains (targets pips p.kind) j)) (sym at) (contains_has (targets pips pip.kind) j h))

  pub goods : inputs_are_good pips pip.kind (first ++ more) ≡ inputs_are_good pips pip.kind first
  goods = all_alike (λ j. is_good (slice_get (first ++ more) j)) (λ j. is_good (slice_get first j)) (targets pips pip.kind)
      (λ j h. let l = below j h in ap is_good (slice_get-append first more j (omega (arith, l, long))))

  made : made_by (first ++ more) ≡ made_by first ++ made_by more
  made = map-append (λ (r : Result). r.files) first more

  pub inputs : inputs_of pips pip.kind (made_by (first ++ more)) ≡ inputs_of pips pip.kind (made_by first)
  inputs =
      ap (inputs_of pips pip.kind) made
      ∙ kept_before (targets pips pip.kind) 0 (made_by first) (made_by more)
      (λ j h. let l = below j h in omega (arith, l, long, length-map first (λ (r : Result). r.files)))

  outcome : (o : Outcome) → by_outcome pips tree (made_by (first ++ more)) i o ≡ by_outcome pips tree (made_by first) i o
  outcome (Good files) =
      ap (λ ms. unless_clash files (clash_at pips ms i files)) made
      ∙ ap (unless_clash files) (first_before (shared_paths (outdirs_in (slice_get pips i)) files) (take i pips) (made_by first) (made_by more)
      (omega (arith, long, length-take i pips, length-map first (λ (r : Result). r.files))))
  outcome (Failed cause) = refl

  work : (ms : ByPip) (kind : PipKind) → worked pips tree budget (made_by (first ++ more)) ms i kind ≡ worked pips tree budget (made_by first) ms i kind
  work ms (Process d) = outcome (process_outcome pips tree budget ms i d)
  work ms (Copy d) = refl
  work ms (Write d) = refl
  work ms (Seal d) = refl

  pub result_same : result_of pips tree budget (first ++ more) i pip.kind ≡ result_of pips tree budget first i pip.kind
  result_same =
      ap (λ b. cond b (worked pips tree budget (made_by (first ++ more)) (inputs_of pips pip.kind (made_by (first ++ more))) i pip.kind) (failed verdicts.Skipped)) goods
      ∙ ap (λ r. cond (inputs_are_good pips pip.kind first) r (failed verdicts.Skipped))
      (ap (λ ms. worked pips tree budget (made_by (first ++ more)) ms i pip.kind) inputs ∙ work (inputs_of pips pip.kind (made_by first)) pip.kind)

-- ## Going through the pips

-- each result so far is that of the results before it
AreSoFar : List Pip → Files → ℕ → List Result → Type 0
AreSoFar pips tree budget results = (j : ℕ) (pip : Pip) → slice_get pips j ≡ Some pip → j < length results
    → slice_get results j ≡ Some (result_of pips tree budget (take j results) j pip.kind)

one_more : (pips : List Pip) (tree : Files) (budget i : ℕ) (pip : Pip) (results : List Result) → length results ≡ i → slice_get pips i ≡ Some pip
    → AreSoFar pips tree budget results → AreSoFar pips tree budget (results ++ result_of pips tree budget results i pip.kind ∷ [])
unfolding AreSoFar
one_more pips tree budget i pip results long at so_far j p here l = elim (cases_lt j i) [
  | inl less ↦
      let before : j < length results = omega (arith, less, long) in
      slice_get-append results (next ∷ []) j before ∙ so_far j p here before
      ∙ ap (λ rs. Some (result_of pips tree budget rs j p.kind)) (sym (take-append-le j results (next ∷ []) (omega (arith, before))))
  | inr past ↦
      let same : j ≡ i = omega (arith, past, l, long, length-append results (next ∷ [])) in
      ap (slice_get (results ++ next ∷ [])) same ∙ get_last results next i long
      ∙ ap (λ rs. Some (result_of pips tree budget rs i pip.kind))
      (sym (take-append-le i results (next ∷ []) (omega (arith, long)) ∙ take_all i results (omega (arith, long))))
      ∙ ap (λ n. Some (result_of pips tree budget (take n (results ++ next ∷ [])) n pip.kind)) (sym same)
      ∙ ap (λ (q : Pip). Some (result_of pips tree budget (take j (results ++ next ∷ [])) j q.kind)) (one_pip (sym at ∙ ap (slice_get pips) (sym same) ∙ here))
]
  where
    next : Result
    next = result_of pips tree budget results i pip.kind

    one_pip : Some pip ≡ Some p → pip ≡ p
    one_pip e = cc

-- pip i is the first of those that are left
first_left : (pips left : List Pip) (i : ℕ) (pip : Pip) → drop i pips ≡ pip ∷ left → slice_get pips i ≡ Some pip
first_left [] left zero pip e = cc
first_left [] left (suc i) pip e = cc
first_left (p ∷ ps) left zero pip e = cc
first_left (p ∷ ps) left (suc i) pip e = first_left ps left i pip e

rest_left : (pips left : List Pip) (i : ℕ) (pip : Pip) → drop i pips ≡ pip ∷ left → drop (i + 1) pips ≡ left
rest_left pips left i pip e = ap (λ n. drop n pips) (add-one i) ∙ by_place pips i e
  where
    by_place : (ps : List Pip) (n : ℕ) → drop n ps ≡ pip ∷ left → drop (suc n) ps ≡ left
    by_place [] zero e = cc
    by_place [] (suc n) e = cc
    by_place (p ∷ ps) zero e = cc
    by_place (p ∷ ps) (suc n) e = by_place ps n e

all_so_far : (pips : List Pip) (tree : Files) (budget : ℕ) (left : List Pip) (results : List Result) (i : ℕ) → length results ≡ i → drop i pips ≡ left
    → AreSoFar pips tree budget results → AreSoFar pips tree budget (on_from pips tree budget results i left)
all_so_far pips tree budget [] results i long e so_far = so_far
all_so_far pips tree budget (pip ∷ left) results i long e so_far =
    let next = result_of pips tree budget results i pip.kind in
    all_so_far pips tree budget left (results ++ next ∷ []) (i + 1) (length-append results (next ∷ []) ∙ ap (λ n. n + 1) long)
    (rest_left pips left i pip e) (one_more pips tree budget i pip results long (first_left pips left i pip e) so_far)

long_from : (pips : List Pip) (tree : Files) (budget : ℕ) (left : List Pip) (results : List Result) (i : ℕ)
    → length (on_from pips tree budget results i left) ≡ length results + length left
long_from pips tree budget [] results i = omega arith
long_from pips tree budget (pip ∷ left) results i =
    let next = result_of pips tree budget results i pip.kind in
    let rest = long_from pips tree budget left (results ++ next ∷ []) (i + 1) in
    omega (arith, rest, length-append results (next ∷ []))

pub number_of_results : (pips : List Pip) (tree : Files) (budget : ℕ) → length (one_thread pips tree budget) ≡ length pips
number_of_results pips tree budget = let all = long_from pips tree budget pips [] 0 in omega (arith, all)

none_so_far : (pips : List Pip) (tree : Files) (budget : ℕ) → AreSoFar pips tree budget []
unfolding AreSoFar
none_so_far pips tree budget j pip at l = absurd (omega (arith, l))

-- each pip's result is that which the results of all give
pub result_of_all : (pips : List Pip) (tree : Files) (budget i : ℕ) (pip : Pip) → IsPipList pips → slice_get pips i ≡ Some pip
    → slice_get (one_thread pips tree budget) i ≡ Some (result_of pips tree budget (one_thread pips tree budget) i pip.kind)
unfolding AreSoFar
result_of_all pips tree budget i pip list at =
    let all = one_thread pips tree budget in
    let within : i < length all = let l = slice_get_within pips i pip at in omega (arith, l, number_of_results pips tree budget) in
    let first : length (take i all) ≡ i = omega (arith, within, length-take i all) in
    all_so_far pips tree budget pips [] 0 refl refl (none_so_far pips tree budget) i pip at within
    ∙ ap Some (sym (result_same pips list tree budget i pip at (take i all) (drop i all) first))
    ∙ ap (λ rs. Some (result_of pips tree budget rs i pip.kind)) (take-append-drop i all)

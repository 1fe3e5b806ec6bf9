-- The build so far, one pip after the other.
use Rattle.std.proofs.Common.{◌≡◌, ℕ, zero, suc, ◌+◌, ◌<◌, ◌≤◌, Bool, ◌&&◌, cond, List, [], ◌∷◌, ◌++◌, length, map, drop, get_or, Some, refl, ap, sym, subst, ◌∙◌, arith, add-one, length-append}
use Rattle.std.specs.Prelude.{slice_get}
use Rattle.std.specs.List.{list_all}
use Rattle.std.proofs.lemmas.List.{drop_all, map-append}
use Rattle.std.proofs.lemmas.Option.{slice_get-get_or}
use Rattle.std.proofs.Math.Seq.{drop-cons}
use Rattle.bx_tree.specs.Trees.{Files}
use Rattle.pip_model_types.specs.declared.made.Slot.{Slot}
use Rattle.pip_model_types.specs.declared.pip.Pip.{Pip}
use Rattle.pip_model_types.specs.declared.pip.PipKind.{PipKind}
use Rattle.pip_model.specs.Edges.{targets}
use Rattle.violations.specs.Slots.{slot_files}
use Rattle.pip_view_inputs.specs.Results.{inputs_of}
use Rattle.violations.specs.Verdicts.{is_success}
use Rattle.violations.specs.declared.verdict.Verdict.{Verdict}
use Rattle.violations.specs.declared.verdict.Verdict.TheVariants as verdicts
use Rattle.one_thread.specs.OneThread.{Result, failed, inputs_are_good, is_good, made_by, on_from, one_thread, result_of, verdicts_of, worked}
use Rattle.one_thread.specs.Views.{AllAgree, ended_in, good_in, is_good_slot, kind_ended, result_in, results_of}

-- ## Verdicts and slots, as results

pub made_is : (vs : List Verdict) (ss : List Slot) → length vs ≡ length ss → made_by (results_of vs ss) ≡ map slot_files ss
made_is [] [] e = refl
made_is [] (s ∷ ss) e = absurd (omega (arith, e))
made_is (v ∷ vs) [] e = absurd (omega (arith, e))
made_is (v ∷ vs) (s ∷ ss) e = ap (λ fs. slot_files s ∷ fs) (made_is vs ss (omega (arith, e)))

pub verdicts_are : (vs : List Verdict) (ss : List Slot) → length vs ≡ length ss → verdicts_of (results_of vs ss) ≡ vs
verdicts_are [] [] e = refl
verdicts_are [] (s ∷ ss) e = absurd (omega (arith, e))
verdicts_are (v ∷ vs) [] e = absurd (omega (arith, e))
verdicts_are (v ∷ vs) (s ∷ ss) e = ap (λ ws. v ∷ ws) (verdicts_are vs ss (omega (arith, e)))

heads_agree : (a b : Bool) (xs ys : List Bool) → a ∷ xs ≡ b ∷ ys → a ≡ b
heads_agree a b xs ys e = cc

tails_agree : (a b : Bool) (xs ys : List Bool) → a ∷ xs ≡ b ∷ ys → xs ≡ ys
tails_agree a b xs ys e = cc

good_is : (vs : List Verdict) (ss : List Slot) → length vs ≡ length ss → AllAgree vs ss → (j : ℕ)
    → is_good (slice_get (results_of vs ss) j) ≡ good_in (slice_get ss j)
good_is [] [] e h zero = refl
good_is [] [] e h (suc j) = refl
good_is [] (s ∷ ss) e h j = absurd (omega (arith, e))
good_is (v ∷ vs) [] e h j = absurd (omega (arith, e))
good_is (v ∷ vs) (s ∷ ss) e h zero = sym (heads_agree (is_good_slot s) (is_success v) (map is_good_slot ss) (map is_success vs) h)
good_is (v ∷ vs) (s ∷ ss) e h (suc j) =
    good_is vs ss (omega (arith, e)) (tails_agree (is_good_slot s) (is_success v) (map is_good_slot ss) (map is_success vs) h) j

pub all_good : (vs : List Verdict) (ss : List Slot) → length vs ≡ length ss → AllAgree vs ss → (js : List ℕ)
    → list_all (λ j. is_good (slice_get (results_of vs ss) j)) js ≡ list_all (λ j. good_in (slice_get ss j)) js
all_good vs ss e h [] = refl
all_good vs ss e h (j ∷ js) =
    ap (λ b. b && list_all (λ k. is_good (slice_get (results_of vs ss) k)) js) (good_is vs ss e h j)
    ∙ ap (λ b. good_in (slice_get ss j) && b) (all_good vs ss e h js)

-- what a pip comes to by slots is what it comes to by results
pub ended_is : (pips : List Pip) (tree : Files) (budget i : ℕ) (kind : PipKind) (vs : List Verdict) (ss : List Slot) → length vs ≡ length ss → AllAgree vs ss
    → kind_ended pips tree budget ss i kind ≡ result_of pips tree budget (results_of vs ss) i kind
ended_is pips tree budget i kind vs ss e h =
    ap (λ b. cond b (worked pips tree budget (map slot_files ss) (inputs_of pips kind (map slot_files ss)) i kind) (failed verdicts.Skipped))
    (sym (all_good vs ss e h (targets pips kind)))
    ∙ ap (λ (ms : List Files). cond (inputs_are_good pips kind (results_of vs ss)) (worked pips tree budget ms (inputs_of pips kind ms) i kind) (failed verdicts.Skipped))
    (sym (made_is vs ss e))

pub results_more : (vs : List Verdict) (ss : List Slot) (v : Verdict) (s : Slot) → length vs ≡ length ss
    → results_of (vs ++ v ∷ []) (ss ++ s ∷ []) ≡ results_of vs ss ++ result_in v s ∷ []
results_more [] [] v s e = refl
results_more [] (t ∷ ts) v s e = absurd (omega (arith, e))
results_more (w ∷ ws) [] v s e = absurd (omega (arith, e))
results_more (w ∷ ws) (t ∷ ts) v s e = ap (λ rs. result_in w t ∷ rs) (results_more ws ts v s (omega (arith, e)))

-- ## The build so far

pub record IsSoFar (pips : List Pip) (tree : Files) (budget n : ℕ) (vs : List Verdict) (ss : List Slot) : Type 0 where
  pub verdicts : length vs ≡ n
  pub slots : length ss ≡ n
  pub agree : AllAgree vs ss
  pub goes_on : on_from pips tree budget (results_of vs ss) n (drop n pips) ≡ one_thread pips tree budget

begins : (pips : List Pip) (tree : Files) (budget : ℕ) → IsSoFar pips tree budget 0 [] []
begins pips tree budget = record { verdicts = refl; slots = refl; agree = refl; goes_on = refl }

pub begun : (pips : List Pip) (tree : Files) (budget : ℕ) (vs : List Verdict) (ss : List Slot) → vs ≡ [] → ss ≡ [] → IsSoFar pips tree budget 0 vs ss
begun pips tree budget vs ss none_vs none_ss =
    subst (λ (ws : List Verdict). IsSoFar pips tree budget 0 ws ss) (sym none_vs)
    (subst (λ (ts : List Slot). IsSoFar pips tree budget 0 [] ts) (sym none_ss) (begins pips tree budget))

-- one pip more
pub one_pip_more : (pips : List Pip) (tree : Files) (budget n : ℕ) (vs new_vs : List Verdict) (ss new_ss : List Slot) (d : Pip) (v : Verdict) (s : Slot)
    → IsSoFar pips tree budget n vs ss → n < length pips → result_in v s ≡ ended_in pips tree budget ss n (slice_get pips n)
    → is_good_slot s ≡ is_success v → new_vs ≡ vs ++ v ∷ [] → new_ss ≡ ss ++ s ∷ [] → IsSoFar pips tree budget (n + 1) new_vs new_ss
one_pip_more pips tree budget n vs new_vs ss new_ss d v s h l is agrees more_vs more_ss =
    let pip = get_or pips n d in
    let even : length vs ≡ length ss = omega (arith, h.verdicts, h.slots) in
    let here : slice_get pips n ≡ Some pip = slice_get-get_or pips n d l in
    let result : result_in v s ≡ result_of pips tree budget (results_of vs ss) n pip.kind =
    is ∙ ap (ended_in pips tree budget ss n) here ∙ ended_is pips tree budget n pip.kind vs ss even h.agree in
    record {
      verdicts = ap length more_vs ∙ length-append vs (v ∷ []) ∙ ap (λ k. k + 1) h.verdicts;
      slots = ap length more_ss ∙ length-append ss (s ∷ []) ∙ ap (λ k. k + 1) h.slots;
      agree =
          ap (map is_good_slot) more_ss ∙ map-append is_good_slot ss (s ∷ [])
          ∙ ap (λ bs. bs ++ is_good_slot s ∷ []) h.agree ∙ ap (λ b. map is_success vs ++ b ∷ []) agrees
          ∙ sym (map-append is_success vs (v ∷ [])) ∙ ap (map is_success) (sym more_vs);
      goes_on =
          ap (λ (ws : List Verdict). on_from pips tree budget (results_of ws new_ss) (n + 1) (drop (n + 1) pips)) more_vs
          ∙ ap (λ (ts : List Slot). on_from pips tree budget (results_of (vs ++ v ∷ []) ts) (n + 1) (drop (n + 1) pips)) more_ss
          ∙ ap (λ rs. on_from pips tree budget rs (n + 1) (drop (n + 1) pips)) (results_more vs ss v s even)
          ∙ ap (λ (r : Result). on_from pips tree budget (results_of vs ss ++ r ∷ []) (n + 1) (drop (n + 1) pips)) result
          ∙ ap (λ m. on_from pips tree budget (results_of vs ss ++ result_of pips tree budget (results_of vs ss) n pip.kind ∷ []) (n + 1) (drop m pips)) (add-one n)
          ∙ ap (on_from pips tree budget (results_of vs ss) n) (sym (drop-cons pips n d l))
          ∙ h.goes_on;
    }

-- all pips
all_built : (pips : List Pip) (tree : Files) (budget n : ℕ) (vs : List Verdict) (ss : List Slot) → IsSoFar pips tree budget n vs ss → length pips ≤ n
    → results_of vs ss ≡ one_thread pips tree budget
all_built pips tree budget n vs ss h l =
    ap (on_from pips tree budget (results_of vs ss) n) (sym (drop_all n pips l)) ∙ h.goes_on

pub verdicts_built : (pips : List Pip) (tree : Files) (budget n : ℕ) (vs : List Verdict) (ss : List Slot) → IsSoFar pips tree budget n vs ss
    → length pips ≤ n → vs ≡ verdicts_of (one_thread pips tree budget)
verdicts_built pips tree budget n vs ss h l =
    sym (verdicts_are vs ss (omega (arith, h.verdicts, h.slots))) ∙ ap verdicts_of (all_built pips tree budget n vs ss h l)

pub files_built : (pips : List Pip) (tree : Files) (budget n : ℕ) (vs : List Verdict) (ss : List Slot) → IsSoFar pips tree budget n vs ss
    → length pips ≤ n → map slot_files ss ≡ made_by (one_thread pips tree budget)
files_built pips tree budget n vs ss h l =
    sym (made_is vs ss (omega (arith, h.verdicts, h.slots))) ∙ ap made_by (all_built pips tree budget n vs ss h l)

-- one pip more, without a pip that is given for places out of range
pub next_built : (pips : List Pip) (tree : Files) (budget n : ℕ) (vs new_vs : List Verdict) (ss new_ss : List Slot) (v : Verdict) (s : Slot)
    → IsSoFar pips tree budget n vs ss → n < length pips → result_in v s ≡ ended_in pips tree budget ss n (slice_get pips n)
    → is_good_slot s ≡ is_success v → new_vs ≡ vs ++ v ∷ [] → new_ss ≡ ss ++ s ∷ [] → IsSoFar pips tree budget (n + 1) new_vs new_ss
next_built [] tree budget n vs new_vs ss new_ss v s h l is agrees more_vs more_ss = absurd (omega (arith, l))
next_built (pip ∷ pips) tree budget n vs new_vs ss new_ss v s h l is agrees more_vs more_ss =
    one_pip_more (pip ∷ pips) tree budget n vs new_vs ss new_ss pip v s h l is agrees more_vs more_ss

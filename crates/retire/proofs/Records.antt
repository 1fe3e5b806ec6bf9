-- The records that are saved are those of processes that succeed, in their order.
use Rattle.std.proofs.Common.{◌≡◌, ℕ, ◌+◌, zero, suc, true, List, [], ◌∷◌, ◌++◌, length, Option, Some, refl, sym, ap, ◌∙◌, arith}
use Rattle.std.specs.Prelude.{slice_get}
use Rattle.std.specs.List.{AllByRecursion}
use Rattle.std.specs.Option.{option_map}
use Rattle.std.proofs.lemmas.Option.{slice_get-map, same_Some}
use Rattle.bx_tree.specs.Trees.{Files}
use Rattle.bx_tree.proofs.Lists.{slice_get-take}
use Rattle.pip_model_types.specs.declared.made.Slot.{Slot}
use Rattle.pip_model_types.specs.declared.pip.Pip.{Pip}
use Rattle.run_record.specs.Facts.{Facts}
use Rattle.violations.specs.Verdicts.{is_success}
use Rattle.violations.specs.declared.verdict.Verdict.{Verdict}
use Rattle.violations.specs.declared.verdict.Verdict.TheVariants as verdicts
use Rattle.one_thread.specs.OneThread.{Result, one_thread, verdicts_of}
use Rattle.one_thread.specs.Views.{result_in, results_of}
use Rattle.one_thread.proofs.GoingThrough.{IsSoFar}
use Rattle.retire.specs.Runs.{IsOfSuccess, SucceedsAt}
use Rattle.retire.specs.Builds.{Between}
use Rattle.retire.proofs.Along.{before_is}

-- ## Verdicts

pub success_is : (v : Verdict) → is_success v ≡ true → v ≡ verdicts.Succeeded
success_is verdicts.Succeeded e = refl
success_is verdicts.Skipped e = absurd cc
success_is (verdicts.Exit code) e = absurd cc
success_is (verdicts.Tool end) e = absurd cc
success_is (verdicts.MissingOutput path) e = absurd cc
success_is (verdicts.Violated violation) e = absurd cc

last_result : (vs : List Verdict) (ss : List Slot) (v : Verdict) (s : Slot) (n : ℕ) → length vs ≡ n → length ss ≡ n
    → slice_get (results_of (vs ++ v ∷ []) (ss ++ s ∷ [])) n ≡ Some (result_in v s)
last_result [] [] v s zero e k = refl
last_result [] [] v s (suc n) e k = absurd (omega (arith, e))
last_result [] (t ∷ ts) v s zero e k = absurd (omega (arith, k))
last_result [] (t ∷ ts) v s (suc n) e k = absurd (omega (arith, e))
last_result (w ∷ ws) [] v s zero e k = absurd (omega (arith, e))
last_result (w ∷ ws) [] v s (suc n) e k = absurd (omega (arith, k))
last_result (w ∷ ws) (t ∷ ts) v s zero e k = absurd (omega (arith, e))
last_result (w ∷ ws) (t ∷ ts) v s (suc n) e k = last_result ws ts v s n (omega (arith, e)) (omega (arith, k))

-- the verdict of the pip that was decided last
pub verdict_last : (pips : List Pip) (tree : Files) (budget n : ℕ) (vs : List Verdict) (ss : List Slot) (v : Verdict) (s : Slot)
    → length vs ≡ n → length ss ≡ n → IsSoFar pips tree budget (n + 1) (vs ++ v ∷ []) (ss ++ s ∷ [])
    → slice_get (verdicts_of (one_thread pips tree budget)) n ≡ Some v
verdict_last pips tree budget n vs ss v s e k so_far =
    let all : List Result = one_thread pips tree budget in
    let there : slice_get all n ≡ Some (result_in v s) =
    sym (slice_get-take all (n + 1) n (omega arith))
    ∙ ap (λ (rs : List Result). slice_get rs n) (before_is pips tree budget (n + 1) (vs ++ v ∷ []) (ss ++ s ∷ []) so_far)
    ∙ last_result vs ss v s n e k in
    slice_get-map (λ (r : Result). r.verdict) all n
    ∙ ap (λ (o : Option Result). option_map (λ (r : Result). r.verdict) o) there

-- the pip succeeds just where its verdict says so
pub verdict_success : (pips : List Pip) (tree : Files) (budget n : ℕ) (v : Verdict) → slice_get (verdicts_of (one_thread pips tree budget)) n ≡ Some v
    → is_success v ≡ true → SucceedsAt pips tree budget n
verdict_success pips tree budget n v last good = last ∙ ap (λ (w : Verdict). Some w) (success_is v good)

pub success_verdict : (pips : List Pip) (tree : Files) (budget n : ℕ) (v : Verdict) → slice_get (verdicts_of (one_thread pips tree budget)) n ≡ Some v
    → SucceedsAt pips tree budget n → is_success v ≡ true
success_verdict pips tree budget n v last succeeds = ap is_success (same_Some v verdicts.Succeeded (sym last ∙ succeeds))

-- ## Records in order

pub between_more : (pips : List Pip) (tree : Files) (budget low high : ℕ) (fs : List Facts) → Between pips tree budget low high fs
    → Between pips tree budget low (high + 1) fs
between_more pips tree budget low high [] h = omega (arith, h)
between_more pips tree budget low high (f ∷ fs) h = (h.0, h.1, between_more pips tree budget (h.0.pip + 1) high fs h.2)

pub between_one : (pips : List Pip) (tree : Files) (budget low high : ℕ) (fs : List Facts) (f : Facts) (s : IsOfSuccess pips tree budget f) → s.pip ≡ high
    → Between pips tree budget low high fs → Between pips tree budget low (high + 1) (fs ++ f ∷ [])
between_one pips tree budget low high [] f s at h = (s, omega (arith, at, h), omega (arith, at))
between_one pips tree budget low high (g ∷ fs) f s at h = (h.0, h.1, between_one pips tree budget (h.0.pip + 1) high fs f s at h.2)

pub all_successes : (pips : List Pip) (tree : Files) (budget low high : ℕ) (fs : List Facts) → Between pips tree budget low high fs
    → AllByRecursion (IsOfSuccess pips tree budget) fs
all_successes pips tree budget low high [] h = tt
all_successes pips tree budget low high (f ∷ fs) h = (h.0, all_successes pips tree budget (h.0.pip + 1) high fs h.2)

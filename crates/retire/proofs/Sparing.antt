-- The processes that a store would spare run: they and the others are at most all that run.
use Rattle.std.proofs.Common.{◌≡◌, ℕ, ◌+◌, ◌<◌, ◌≤◌, ◌&&◌, Bool, true, false, not, cond, List, [], ◌∷◌, ◌++◌, length, sym, ap, ◌∙◌, subst, inl, inr, arith, append_assoc}
use Rattle.std.specs.List.{AllByRecursion}
use Rattle.std.proofs.lemmas.List.Sums.{sum_by-cons}
use Rattle.bx_tree.specs.Trees.{Files}
use Rattle.bx_io.specs.Holdings.{Holdings}
use Rattle.pip_model_types.specs.declared.pip.Pip.{Pip}
use Rattle.pip_model_types.specs.declared.pip.PipKind.{PipKind}
use Rattle.pip_model_types.specs.declared.pip.PipKind.TheVariants.{Process, Copy, Write, Seal}
use Rattle.violations.specs.Verdicts.{is_skip}
use Rattle.violations.specs.declared.verdict.Verdict.TheVariants as verdicts
use Rattle.one_thread.specs.OneThread.{Result, failed, made_by, one_thread, process_outcome, result_of, run_count, runs, verdicts_of, worked}
use Rattle.one_thread.proofs.NotSkipped.{outcome_ran}
use Rattle.retire_compared.specs.Compared.{inputs_after}
use Rattle.retire.specs.Accepting.{is_among, is_marked, others_from, without_run}
use Rattle.retire.specs.Counts.{verdicts_there}
use Rattle.retire.specs.HitSet.{HitsFrom, IsHitSet, PipHits}
use Rattle.retire.proofs.AllHits.{on_rest, rest_of}
use Rattle.retire.proofs.Counted.{all_of, ran_here}
use Rattle.retire.proofs.Counts.{process_one}
use Rattle.retire.proofs.Masks.{among_below, among_first, among_joined, one_unmarked}

few_unmarked : (marked : Bool) → one_unmarked marked ≤ 1
few_unmarked true = omega arith
few_unmarked false = omega arith

pub without_few : (marks : List Bool) (numbers : List ℕ) → without_run marks numbers ≤ length numbers
without_few marks [] = omega arith
without_few marks (i ∷ rest) =
    let here = sum_by-cons (λ k. one_unmarked (is_marked marks k)) i rest in
    let one = few_unmarked (is_marked marks i) in
    let more = without_few marks rest in
    omega (arith, here, one, more)

all_last : (P : ℕ → Type 0) (xs : List ℕ) (n : ℕ) → AllByRecursion P xs → P n → AllByRecursion P (xs ++ n ∷ [])
all_last P [] n h last = (last, tt)
all_last P (x ∷ xs) n h last = (h.0, all_last P xs n h.1 last)

-- one more that runs, or none
spared_step : (here marked among : Bool) (k r n : ℕ) → here ≡ true → among ≡ true → k + n ≤ r → cond (here && not marked && not among) (1 + k) k + (1 + n) ≤ cond here (1 + r) r
spared_step true true true k r n e f l = omega (arith, l)
spared_step true false true k r n e f l = omega (arith, l)
spared_step true marked false k r n e f l = absurd (let never : false ≡ true = f in cc)
spared_step false marked among k r n e f l = absurd (let never : false ≡ true = e in cc)

other_step : (here marked among : Bool) (k r n : ℕ) → k + n ≤ r → cond (here && not marked && not among) (1 + k) k + n ≤ cond here (1 + r) r
other_step true true true k r n l = omega (arith, l)
other_step true true false k r n l = omega (arith, l)
other_step true false true k r n l = omega (arith, l)
other_step true false false k r n l = omega (arith, l)
other_step false marked among k r n l = omega (arith, l)

module _ (pips : List Pip) (tree : Files) (budget : ℕ) (S : Holdings) (marks : List Bool) where
  -- a process that the store would spare runs
  spared_runs : (kind : PipKind) (results : List Result) (i : ℕ) → PipHits pips tree budget S results i kind
      → runs kind (result_of pips tree budget results i kind).verdict ≡ true
  spared_runs (Process p) results i h =
      let ran : is_skip (result_of pips tree budget results i (Process p)).verdict ≡ false =
      ap (λ t. is_skip (cond t (worked pips tree budget (made_by results) (inputs_after pips (Process p) results) i (Process p)) (failed verdicts.Skipped)).verdict) h.0
      ∙ outcome_ran pips tree (made_by results) i (process_outcome pips tree budget (inputs_after pips (Process p) results) i p) in
      ran_here (runs (Process p) (result_of pips tree budget results i (Process p)).verdict)
      (process_one p (result_of pips tree budget results i (Process p)).verdict ran)
  spared_runs (Copy p) results i h = absurd h.1
  spared_runs (Write p) results i h = absurd h.1
  spared_runs (Seal p) results i h = absurd h.1

  left_and : (left : List Pip) (results : List Result) (i : ℕ) (first rest : List ℕ) → AllByRecursion (λ k. k < i) first → HitsFrom pips tree budget S results i left rest
      → others_from marks (first ++ rest) i left (verdicts_of (rest_of pips tree budget results i left)) + length rest
      ≤ run_count left (verdicts_of (rest_of pips tree budget results i left))
  left_and [] results i first rest below h = let none : length rest ≡ 0 = ap length h in omega (arith, none)
  left_and (pip ∷ left) results i first rest below h =
      let next = result_of pips tree budget results i pip.kind in
      let more = results ++ next ∷ [] in
      let vs = verdicts_of (rest_of pips tree budget more (i + 1) left) in
      let here = runs pip.kind next.verdict in
      elim h [
        | inl a ↦
            let joined : first ++ rest ≡ (first ++ i ∷ []) ++ a.1.0 =
            ap (λ (r : List ℕ). first ++ r) a.1.1 ∙ sym (append_assoc first (i ∷ []) a.1.0) in
            let among : is_among (first ++ rest) i ≡ true =
            ap (λ (r : List ℕ). is_among (first ++ r) i) a.1.1 ∙ among_joined first (i ∷ a.1.0) i (among_below first i below) ∙ among_first i a.1.0 in
            let below_more : AllByRecursion (λ k. k < i + 1) (first ++ i ∷ []) =
            all_last (λ k. k < i + 1) first i (all_of (λ k. k < i) (λ k. k < i + 1) first (λ k l. omega (arith, l)) below) (omega arith) in
            let rest_and : others_from marks (first ++ rest) (i + 1) left vs + length a.1.0 ≤ run_count left vs =
            subst (λ (ns : List ℕ). others_from marks ns (i + 1) left vs + length a.1.0 ≤ run_count left vs) (sym joined)
            (left_and left more (i + 1) (first ++ i ∷ []) a.1.0 below_more a.1.2) in
            let long : length rest ≡ length (i ∷ a.1.0) = ap length a.1.1 in
            let step = spared_step here (is_marked marks i) (is_among (first ++ rest) i) (others_from marks (first ++ rest) (i + 1) left vs) (run_count left vs) (length a.1.0)
            (spared_runs pip.kind results i a.0) among rest_and in
            omega (arith, step, long)
        | inr b ↦
            let below_more : AllByRecursion (λ k. k < i + 1) first = all_of (λ k. k < i) (λ k. k < i + 1) first (λ k l. omega (arith, l)) below in
            other_step here (is_marked marks i) (is_among (first ++ rest) i) (others_from marks (first ++ rest) (i + 1) left vs) (run_count left vs) (length rest)
            (left_and left more (i + 1) first rest below_more b.1)
      ]

  pub others_and : (numbers : List ℕ) → IsHitSet pips tree budget S numbers
      → others_from marks numbers 0 pips (verdicts_there pips tree budget) + length numbers ≤ run_count pips (verdicts_there pips tree budget)
  others_and numbers set =
      let same : one_thread pips tree budget ≡ rest_of pips tree budget [] 0 pips = on_rest pips tree budget pips [] 0 in
      subst (λ (rs : List Result). others_from marks numbers 0 pips (verdicts_of rs) + length numbers ≤ run_count pips (verdicts_of rs)) (sym same)
      (left_and pips [] 0 [] numbers tt set)

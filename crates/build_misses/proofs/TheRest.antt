-- What a store spares and what it does not are all processes that are not skipped.
use Rattle.std.proofs.Common.{◌≡◌, ◌⊎◌, ℕ, ◌+◌, ◌≤◌, zero, suc, Bool, true, false, not, cond, List, [], ◌∷◌, ◌++◌, length, Option, Some, None, inl, inr, refl, ap, sym, ◌∙◌, subst, arith, append_assoc, append-nil}
use Rattle.std.specs.Prelude.{Contains}
use Rattle.bx_tree.specs.Trees.{Files}
use Rattle.bx_tree.specs.Members.{Has}
use Rattle.bx_io.specs.Holdings.{Holdings}
use Rattle.pip_model_types.specs.declared.pip.Pip.{Pip}
use Rattle.pip_model_types.specs.declared.pip.PipKind.{PipKind}
use Rattle.pip_model_types.specs.declared.pip.PipKind.TheVariants.{Process, Copy, Write, Seal}
use Rattle.pip_model_types.specs.declared.pip.ProcessDesc.{ProcessDesc}
use Rattle.run_record.specs.declared.outcome.Cause.{Cause}
use Rattle.run_record.specs.declared.outcome.Cause.TheVariants as causes
use Rattle.run_record.specs.declared.outcome.Outcome.{Outcome}
use Rattle.run_record.specs.declared.outcome.Outcome.TheVariants.{Good, Failed}
use Rattle.violations.specs.Classes.{class_of}
use Rattle.violations.specs.DoubleWrites.{clash_at}
use Rattle.violations.specs.Verdicts.{is_skip}
use Rattle.violations.specs.declared.verdict.Verdict.TheVariants as verdicts
use Rattle.violations.specs.declared.verdict.Violation.{Violation}
use Rattle.one_thread.specs.OneThread.{Result, by_cause, by_outcome, failed, inputs_are_good, made_by, on_from, one_thread, process_outcome, result_of, run_count, runs, unless_clash, verdicts_of, violated, worked}
use Rattle.retire.specs.HitSet.{HitsFrom, IsHitSet, PipHits}
use Rattle.retire_compared.specs.Compared.{inputs_after}
use Rattle.build_misses.specs.MissSet.{IsMissSet, MissesFrom, PipMisses}

-- ## What runs is not skipped

violated_ran : (o : Option Violation) → is_skip (violated o).verdict ≡ false
violated_ran None = refl
violated_ran (Some violation) = refl

cause_ran : (pips : List Pip) (tree : Files) (i : ℕ) (cause : Cause) → is_skip (by_cause pips tree i cause).verdict ≡ false
cause_ran pips tree i (causes.Exit code) = refl
cause_ran pips tree i (causes.Tool end) = refl
cause_ran pips tree i (causes.MissingOutput path) = refl
cause_ran pips tree i (causes.Denied access) = violated_ran (class_of pips tree i access)

clash_ran : (files : Files) (o : Option Violation) → is_skip (unless_clash files o).verdict ≡ false
clash_ran files None = refl
clash_ran files (Some violation) = refl

outcome_ran : (pips : List Pip) (tree : Files) (made : List Files) (i : ℕ) (o : Outcome) → is_skip (by_outcome pips tree made i o).verdict ≡ false
outcome_ran pips tree made i (Good files) = clash_ran files (clash_at pips made i files)
outcome_ran pips tree made i (Failed cause) = cause_ran pips tree i cause

-- ## Numbers from a pip on

abbrev above : (n : ℕ) → List ℕ → Type 0
above n [] = Unit {0}
above n (x ∷ xs) = (n ≤ x) × above n xs

not_below : (n x : ℕ) (xs : List ℕ) → above n xs → Has xs x → n ≤ x
not_below n x [] h has = absurd has
not_below n x (y ∷ ys) h (inl is) = subst (λ z. n ≤ z) is h.0
not_below n x (y ∷ ys) h (inr later) = not_below n x ys h.1 later

lower : (n : ℕ) (xs : List ℕ) → above (n + 1) xs → above n xs
lower n [] h = tt
lower n (x ∷ xs) h = (let l = h.0 in omega (arith, l), lower n xs h.1)

-- ## One pip counts once

abbrev one_run : PipKind → Result → ℕ
one_run (Process d) r = cond (not (is_skip r.verdict)) 1 0
one_run (Copy d) r = 0
one_run (Write d) r = 0
one_run (Seal d) r = 0

-- sums of counts, over any numbers
none_more : (n : ℕ) → n ≡ 0 + n
none_more n = omega arith

one_if : (n : ℕ) (t : Bool) → cond (not t) (1 + n) n ≡ cond (not t) 1 0 + n
one_if n true = omega arith
one_if n false = refl

one_longer : (n m : ℕ) → n ≡ suc m → n ≡ 1 + m
one_longer n m e = omega (arith, e)

count_sum : (hits misses h m x y one rest all : ℕ) → hits ≡ h + x → misses ≡ m + y → x + y ≡ rest → h + m ≡ one → all ≡ one + rest → hits + misses ≡ all
count_sum hits misses h m x y one rest all is_h is_m more once sum = omega (arith, is_h, is_m, more, once, sum)

module _ (pips : List Pip) (tree : Files) (budget : ℕ) (S : Holdings) where
  abbrev tally : {A B : Type 0} → A ⊎ B → ℕ
  tally (inl x) = 1
  tally (inr y) = 0

  abbrev Told : Type 0 → Type 0
  Told A = A ⊎ (A → ⊥)

  -- a process counts once where it is not skipped
  once_process : (results : List Result) (i : ℕ) (d : ProcessDesc) (b : Bool) → inputs_are_good pips (Process d) results ≡ b
      → (h : Told (PipHits pips tree budget S results i (Process d))) (m : Told (PipMisses pips tree budget S results i (Process d)))
      → tally h + tally m ≡ one_run (Process d) (cond b (worked pips tree budget (made_by results) (inputs_after pips (Process d) results) i (Process d)) (failed verdicts.Skipped))
  once_process results i d true good (inl h) (inl m) = absurd (m.1 h.1)
  once_process results i d true good (inl h) (inr m) = sym (ap (λ t. cond (not t) 1 0) (outcome_ran pips tree (made_by results) i (process_outcome pips tree budget (inputs_after pips (Process d) results) i d)))
  once_process results i d true good (inr h) (inl m) = sym (ap (λ t. cond (not t) 1 0) (outcome_ran pips tree (made_by results) i (process_outcome pips tree budget (inputs_after pips (Process d) results) i d)))
  once_process results i d true good (inr h) (inr m) = absurd (m (good, λ usable. h (good, usable)))
  once_process results i d false bad (inl h) m = let z : true ≡ false = sym h.0 ∙ bad in cc
  once_process results i d false bad (inr h) (inl m) = let z : true ≡ false = sym m.0 ∙ bad in cc
  once_process results i d false bad (inr h) (inr m) = refl

  once : (results : List Result) (i : ℕ) (kind : PipKind) (h : Told (PipHits pips tree budget S results i kind)) (m : Told (PipMisses pips tree budget S results i kind))
      → tally h + tally m ≡ one_run kind (result_of pips tree budget results i kind)
  once results i (Process d) h m = once_process results i d (inputs_are_good pips (Process d) results) refl h m
  once results i (Copy d) (inl h) m = absurd h.1
  once results i (Copy d) (inr h) (inl m) = absurd m.1
  once results i (Copy d) (inr h) (inr m) = refl
  once results i (Write d) (inl h) m = absurd h.1
  once results i (Write d) (inr h) (inl m) = absurd m.1
  once results i (Write d) (inr h) (inr m) = refl
  once results i (Seal d) (inl h) m = absurd h.1
  once results i (Seal d) (inr h) (inl m) = absurd m.1
  once results i (Seal d) (inr h) (inr m) = refl

  both : (results : List Result) (i : ℕ) (kind : PipKind) → PipHits pips tree budget S results i kind → PipMisses pips tree budget S results i kind → ⊥
  both results i (Process d) h m = m.1 h.1
  both results i (Copy d) h m = h.1
  both results i (Write d) h m = h.1
  both results i (Seal d) h m = h.1

  -- ## All pips

  -- the results from pip i on
  abbrev rest_of : List Result → ℕ → List Pip → List Result
  rest_of results i [] = []
  rest_of results i (pip ∷ left) =
      result_of pips tree budget results i pip.kind ∷ rest_of (results ++ result_of pips tree budget results i pip.kind ∷ []) (i + 1) left

  on_rest : (left : List Pip) (results : List Result) (i : ℕ) → on_from pips tree budget results i left ≡ results ++ rest_of results i left
  on_rest [] results i = sym (append-nil results)
  on_rest (pip ∷ left) results i =
      let next = result_of pips tree budget results i pip.kind in
      on_rest left (results ++ next ∷ []) (i + 1) ∙ append_assoc results (next ∷ []) (rest_of (results ++ next ∷ []) (i + 1) left)

  count_one : (kind : PipKind) (pip : Pip) (left : List Pip) (r : Result) (rs : List Result) → pip.kind ≡ kind
      → run_count (pip ∷ left) (verdicts_of (r ∷ rs)) ≡ one_run kind r + run_count left (verdicts_of rs)
  count_one (Process d) pip left r rs is =
      ap (λ (k : PipKind). cond (runs k r.verdict) (1 + run_count left (verdicts_of rs)) (run_count left (verdicts_of rs))) is
      ∙ one_if (run_count left (verdicts_of rs)) (is_skip r.verdict)
  count_one (Copy d) pip left r rs is =
      ap (λ (k : PipKind). cond (runs k r.verdict) (1 + run_count left (verdicts_of rs)) (run_count left (verdicts_of rs))) is ∙ none_more (run_count left (verdicts_of rs))
  count_one (Write d) pip left r rs is =
      ap (λ (k : PipKind). cond (runs k r.verdict) (1 + run_count left (verdicts_of rs)) (run_count left (verdicts_of rs))) is ∙ none_more (run_count left (verdicts_of rs))
  count_one (Seal d) pip left r rs is =
      ap (λ (k : PipKind). cond (runs k r.verdict) (1 + run_count left (verdicts_of rs)) (run_count left (verdicts_of rs))) is ∙ none_more (run_count left (verdicts_of rs))

  -- one more pip, by whether it is a hit and whether it is a miss
  whole : (pip : Pip) (left : List Pip) (results : List Result) (i : ℕ) (hits misses x y : List ℕ) (th : Told (PipHits pips tree budget S results i pip.kind))
      (tm : Told (PipMisses pips tree budget S results i pip.kind)) → length hits ≡ tally th + length x → length misses ≡ tally tm + length y
      → length x + length y ≡ run_count left (verdicts_of (rest_of (results ++ result_of pips tree budget results i pip.kind ∷ []) (i + 1) left))
      → length hits + length misses ≡ run_count (pip ∷ left) (verdicts_of (rest_of results i (pip ∷ left)))
  whole pip left results i hits misses x y th tm is_h is_m more =
      let next = result_of pips tree budget results i pip.kind in
      let others = rest_of (results ++ next ∷ []) (i + 1) left in
      count_sum (length hits) (length misses) (tally th) (tally tm) (length x) (length y) (one_run pip.kind next) (run_count left (verdicts_of others))
      (run_count (pip ∷ left) (verdicts_of (next ∷ others))) is_h is_m more (once results i pip.kind th tm) (count_one pip.kind pip left next others refl)

  counts : (left : List Pip) (results : List Result) (i : ℕ) (hits misses : List ℕ) → HitsFrom pips tree budget S results i left hits
      → MissesFrom pips tree budget S results i left misses → length hits + length misses ≡ run_count left (verdicts_of (rest_of results i left))
  counts [] results i hits misses h m = ap (λ (xs : List ℕ). length xs + length misses) h ∙ ap (λ (xs : List ℕ). 0 + length xs) m
  counts (pip ∷ left) results i hits misses (inl (hit, (x, is, h))) (inl (miss, (y, are, m))) = absurd (both results i pip.kind hit miss)
  counts (pip ∷ left) results i hits misses (inl (hit, (x, is, h))) (inr (none, m)) =
      whole pip left results i hits misses x misses (inl hit) (inr none) (one_longer (length hits) (length x) (ap length is)) (none_more (length misses))
      (counts left (results ++ result_of pips tree budget results i pip.kind ∷ []) (i + 1) x misses h m)
  counts (pip ∷ left) results i hits misses (inr (none, h)) (inl (miss, (y, are, m))) =
      whole pip left results i hits misses hits y (inr none) (inl miss) (none_more (length hits)) (one_longer (length misses) (length y) (ap length are))
      (counts left (results ++ result_of pips tree budget results i pip.kind ∷ []) (i + 1) hits y h m)
  counts (pip ∷ left) results i hits misses (inr (none, h)) (inr (other, m)) =
      whole pip left results i hits misses hits misses (inr none) (inr other) (none_more (length hits)) (none_more (length misses))
      (counts left (results ++ result_of pips tree budget results i pip.kind ∷ []) (i + 1) hits misses h m)

  hits_above : (left : List Pip) (results : List Result) (i : ℕ) (hits : List ℕ) → HitsFrom pips tree budget S results i left hits → above i hits
  hits_above [] results i hits h = subst (above i) (sym h) tt
  hits_above (pip ∷ left) results i hits (inl (hit, (x, is, h))) =
      subst (above i) (sym is) (omega arith, lower i x (hits_above left (results ++ result_of pips tree budget results i pip.kind ∷ []) (i + 1) x h))
  hits_above (pip ∷ left) results i hits (inr (none, h)) =
      lower i hits (hits_above left (results ++ result_of pips tree budget results i pip.kind ∷ []) (i + 1) hits h)

  misses_above : (left : List Pip) (results : List Result) (i : ℕ) (misses : List ℕ) → MissesFrom pips tree budget S results i left misses → above i misses
  misses_above [] results i misses m = subst (above i) (sym m) tt
  misses_above (pip ∷ left) results i misses (inl (miss, (x, is, m))) =
      subst (above i) (sym is) (omega arith, lower i x (misses_above left (results ++ result_of pips tree budget results i pip.kind ∷ []) (i + 1) x m))
  misses_above (pip ∷ left) results i misses (inr (none, m)) =
      lower i misses (misses_above left (results ++ result_of pips tree budget results i pip.kind ∷ []) (i + 1) misses m)

  one_above : (i x : ℕ) (xs : List ℕ) → above (i + 1) xs → i ≡ x → Has xs x → ⊥
  one_above i x xs h is has = let l = not_below (i + 1) x xs h has in omega (arith, l, is)

  disjoint : (left : List Pip) (results : List Result) (i : ℕ) (hits misses : List ℕ) → HitsFrom pips tree budget S results i left hits
      → MissesFrom pips tree budget S results i left misses → (x : ℕ) → Has hits x → Has misses x → ⊥
  disjoint [] results i hits misses h m x has also = subst (λ xs. Has xs x) h has
  disjoint (pip ∷ left) results i hits misses (inl (hit, (r, is, h))) (inl (miss, (y, are, m))) x has also = both results i pip.kind hit miss
  disjoint (pip ∷ left) results i hits misses (inl (hit, (r, is, h))) (inr (none, m)) x has also =
      let next = result_of pips tree budget results i pip.kind in
      elim (subst (λ xs. Has xs x) is has) [
        | inl e ↦ one_above i x misses (misses_above left (results ++ next ∷ []) (i + 1) misses m) e also
        | inr later ↦ disjoint left (results ++ next ∷ []) (i + 1) r misses h m x later also
      ]
  disjoint (pip ∷ left) results i hits misses (inr (none, h)) (inl (miss, (y, are, m))) x has also =
      let next = result_of pips tree budget results i pip.kind in
      elim (subst (λ xs. Has xs x) are also) [
        | inl e ↦ one_above i x hits (hits_above left (results ++ next ∷ []) (i + 1) hits h) e has
        | inr later ↦ disjoint left (results ++ next ∷ []) (i + 1) hits y h m x has later
      ]
  disjoint (pip ∷ left) results i hits misses (inr (none, h)) (inr (other, m)) x has also =
      disjoint left (results ++ result_of pips tree budget results i pip.kind ∷ []) (i + 1) hits misses h m x has also

has_of : (xs : List ℕ) (x : ℕ) → Contains xs x → Has xs x
has_of [] x (k, l, e) = absurd (omega (arith, l))
has_of (y ∷ ys) x (zero, l, e) = inl e
has_of (y ∷ ys) x (suc k, l, e) = inr (has_of ys x (k, omega (arith, l), e))

pub all_of : (pips : List Pip) (tree : Files) (budget : ℕ) (S : Holdings) (hits misses : List ℕ) → IsHitSet pips tree budget S hits
    → IsMissSet pips tree budget S misses → length hits + length misses ≡ run_count pips (verdicts_of (one_thread pips tree budget))
all_of pips tree budget S hits misses h m =
    counts pips tree budget S pips [] 0 hits misses h m
    ∙ ap (λ rs. run_count pips (verdicts_of rs)) (sym (on_rest pips tree budget S pips [] 0))

pub none_of_both : (pips : List Pip) (tree : Files) (budget : ℕ) (S : Holdings) (hits misses : List ℕ) (pip : ℕ) → IsHitSet pips tree budget S hits
    → IsMissSet pips tree budget S misses → Contains hits pip → Contains misses pip → ⊥
none_of_both pips tree budget S hits misses pip h m has also =
    disjoint pips tree budget S pips [] 0 hits misses h m pip (has_of hits pip has) (has_of misses pip also)

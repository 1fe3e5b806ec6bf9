-- Where something is usable for each process that succeeds, and all pips succeed, all processes hit.
use Rattle.std.proofs.Common.{◌≡◌, ◌⊎◌, ℕ, zero, suc, ◌+◌, Bool, true, false, cond, List, [], ◌∷◌, ◌++◌, length, take, Option, Some, refl, sym, ap, ◌∙◌, subst, inl, inr, arith, append_assoc, append-nil, length-append}
use Rattle.std.specs.Prelude.{slice_get}
use Rattle.std.specs.List.{list_all}
use Rattle.std.proofs.lemmas.Option.{slice_get-map}
use Rattle.std.specs.Option.{option_map}
use Rattle.std.proofs.lemmas.Bool.{and_parts}
use Rattle.bx_tree.specs.Trees.{Files}
use Rattle.bx_io.specs.Holdings.{Holdings}
use Rattle.pip_model_types.specs.declared.pip.Pip.{Pip}
use Rattle.pip_model_types.specs.declared.pip.PipKind.{PipKind}
use Rattle.pip_model_types.specs.declared.pip.PipKind.TheVariants.{Process, Copy, Write, Seal}
use Rattle.pip_model_types.specs.declared.pip.ProcessDesc.{ProcessDesc}
use Rattle.two_phase_meaning.specs.Usable.{Usable}
use Rattle.pip_view_inputs.specs.Plain.{kind_process, process_in}
use Rattle.violations.specs.Verdicts.{is_success}
use Rattle.violations.specs.declared.verdict.Verdict.{Verdict}
use Rattle.violations.specs.declared.verdict.Verdict.TheVariants as verdicts
use Rattle.one_thread.specs.OneThread.{Result, failed, inputs_are_good, on_from, one_thread, result_of, run_count, runs, verdicts_of}
use Rattle.retire.specs.HitSet.{HitsFrom, IsHitSet, PipHits}
use Rattle.retire_compared.specs.Compared.{desc_after, view_after}
use Rattle.retire.specs.Runs.{AllUsable, results_before}
use Rattle.retire.proofs.SoFar.{taken}
use Rattle.retire.proofs.Records.{success_is}

-- ## Results that are left

-- the results from pip i on
abbrev pub rest_of : List Pip → Files → ℕ → List Result → ℕ → List Pip → List Result
rest_of pips tree budget results i [] = []
rest_of pips tree budget results i (pip ∷ left) =
    result_of pips tree budget results i pip.kind
    ∷ rest_of pips tree budget (results ++ result_of pips tree budget results i pip.kind ∷ []) (i + 1) left

pub on_rest : (pips : List Pip) (tree : Files) (budget : ℕ) (left : List Pip) (results : List Result) (i : ℕ)
    → on_from pips tree budget results i left ≡ results ++ rest_of pips tree budget results i left
on_rest pips tree budget [] results i = sym (append-nil results)
on_rest pips tree budget (pip ∷ left) results i =
    let next = result_of pips tree budget results i pip.kind in
    on_rest pips tree budget left (results ++ next ∷ []) (i + 1)
    ∙ append_assoc results (next ∷ []) (rest_of pips tree budget (results ++ next ∷ []) (i + 1) left)

-- ## Places in lists

get_next : {X : Type 0} (xs ys : List X) (y : X) (i : ℕ) → length xs ≡ i → slice_get (xs ++ y ∷ ys) i ≡ Some y
get_next [] ys y zero e = refl
get_next [] ys y (suc i) e = absurd (omega (arith, e))
get_next (x ∷ xs) ys y zero e = absurd (omega (arith, e))
get_next (x ∷ xs) ys y (suc i) e = get_next xs ys y i (omega (arith, e))

one_longer : {X : Type 0} (xs : List X) (x : X) (i : ℕ) → length xs ≡ i → length (xs ++ x ∷ []) ≡ i + 1
one_longer xs x i e = length-append xs (x ∷ []) ∙ ap (λ n. n + 1) e

-- ## Successes

-- a pip that succeeds is not skipped
good_inputs : (b : Bool) (r : Result) → is_success (cond b r (failed verdicts.Skipped)).verdict ≡ true → b ≡ true
good_inputs true r e = refl
good_inputs false r e = absurd cc

-- ## Hits

module _ (pips : List Pip) (tree : Files) (budget : ℕ) (S : Holdings) (usable : AllUsable pips tree budget S) where
  -- something is usable for pip i, which is a process that succeeds after these results
  found : (d : ProcessDesc) (left before : List Pip) (pip : Pip) (results : List Result) (i : ℕ) → pip.kind ≡ Process d → pips ≡ before ++ pip ∷ left
      → length before ≡ i → length results ≡ i → on_from pips tree budget results i (pip ∷ left) ≡ one_thread pips tree budget
      → inputs_are_good pips pip.kind results ≡ true → is_success (result_of pips tree budget results i pip.kind).verdict ≡ true
      → Usable S (desc_after pips tree budget results d) (view_after pips tree results i d)
  found d left before pip results i kind is long count all good success =
      let next = result_of pips tree budget results i pip.kind in
      let same : results_before pips tree budget i ≡ results =
      ap (take i) (sym all) ∙ taken pips tree budget (pip ∷ left) results i count in
      let there : slice_get pips i ≡ Some pip = ap (λ (ps : List Pip). slice_get ps i) is ∙ get_next before left pip i long in
      let process : process_in (slice_get pips i) ≡ Some d = ap process_in there ∙ process_of pip d kind in
      let runs_here : inputs_are_good pips (Process d) (results_before pips tree budget i) ≡ true =
      ap (λ (rs : List Result). inputs_are_good pips (Process d) rs) same ∙ ap (λ (k : PipKind). inputs_are_good pips k results) (sym kind) ∙ good in
      let rest = rest_of pips tree budget (results ++ next ∷ []) (i + 1) left in
      let whole : one_thread pips tree budget ≡ results ++ next ∷ rest = sym all ∙ on_rest pips tree budget (pip ∷ left) results i in
      let at : slice_get (one_thread pips tree budget) i ≡ Some next = ap (λ (rs : List Result). slice_get rs i) whole ∙ get_next results rest next i count in
      let succeeds : slice_get (verdicts_of (one_thread pips tree budget)) i ≡ Some verdicts.Succeeded =
      slice_get-map (λ (r : Result). r.verdict) (one_thread pips tree budget) i ∙ ap (λ (o : Option Result). option_map (λ (r : Result). r.verdict) o) at
      ∙ ap (λ (v : Verdict). Some v) (success_is next.verdict success) in
      let here : Usable S (desc_after pips tree budget (results_before pips tree budget i) d) (view_after pips tree (results_before pips tree budget i) i d) =
      usable i _ _ (record { process = d; is_process = process; is_run = runs_here; desc_is = refl; view_is = refl }) succeeds in
      subst (λ (rs : List Result). Usable S (desc_after pips tree budget rs d) (view_after pips tree rs i d)) same here
    where
      process_of : (pip : Pip) (d : ProcessDesc) → pip.kind ≡ Process d → process_in (Some pip) ≡ Some d
      process_of pip d e = ap kind_process e

  -- one pip, by its kind
  one : (kind : PipKind) (left : List Pip) (results : List Result) (i : ℕ) (v : Verdict) (vs : List Verdict) → v ≡ verdicts.Succeeded
      → inputs_are_good pips kind results ≡ true
      → ((d : ProcessDesc) → kind ≡ Process d → Usable S (desc_after pips tree budget results d) (view_after pips tree results i d))
      → (rest : List ℕ) → HitsFrom pips tree budget S (results ++ result_of pips tree budget results i kind ∷ []) (i + 1) left rest
      → length rest ≡ run_count left vs
      → (numbers : List ℕ)
      × ((PipHits pips tree budget S results i kind
      × ((more : List ℕ) × (numbers ≡ i ∷ more) × HitsFrom pips tree budget S (results ++ result_of pips tree budget results i kind ∷ []) (i + 1) left more))
      ⊎ ((PipHits pips tree budget S results i kind → ⊥)
      × HitsFrom pips tree budget S (results ++ result_of pips tree budget results i kind ∷ []) (i + 1) left numbers))
      × (length numbers ≡ cond (runs kind v) (1 + run_count left vs) (run_count left vs))
  one (Process d) left results i v vs is good spare rest hits count =
      let long : length (i ∷ rest) ≡ 1 + run_count left vs = omega (arith, count) in (
        i ∷ rest,
        inl ((good, spare d refl), (rest, refl, hits)),
        long ∙ ap (λ (w : Verdict). cond (runs (Process d) w) (1 + run_count left vs) (run_count left vs)) (sym is),
      )
  one (Copy d) left results i v vs is good spare rest hits count = (rest, inr (λ h. h.1, hits), count)
  one (Write d) left results i v vs is good spare rest hits count = (rest, inr (λ h. h.1, hits), count)
  one (Seal d) left results i v vs is good spare rest hits count = (rest, inr (λ h. h.1, hits), count)

  hits_from : (left : List Pip) (results : List Result) (i : ℕ) (before : List Pip) → pips ≡ before ++ left → length before ≡ i → length results ≡ i
      → on_from pips tree budget results i left ≡ one_thread pips tree budget
      → list_all is_success (verdicts_of (rest_of pips tree budget results i left)) ≡ true
      → (numbers : List ℕ) × HitsFrom pips tree budget S results i left numbers
      × (length numbers ≡ run_count left (verdicts_of (rest_of pips tree budget results i left)))
  hits_from [] results i before is long count all good = ([], refl, refl)
  hits_from (pip ∷ left) results i before is long count all good =
      let next = result_of pips tree budget results i pip.kind in
      let vs = verdicts_of (rest_of pips tree budget (results ++ next ∷ []) (i + 1) left) in
      let g = and_parts (is_success next.verdict) (list_all is_success vs) good in
      let go = good_inputs (inputs_are_good pips pip.kind results) _ g.0 in
      let rest =
      hits_from left (results ++ next ∷ []) (i + 1) (before ++ pip ∷ []) (is ∙ sym (append_assoc before (pip ∷ []) left)) (one_longer before pip i long)
      (one_longer results next i count) all g.1 in
      one pip.kind left results i next.verdict vs (success_is next.verdict g.0) go
      (λ d kind. found d left before pip results i kind is long count all go g.0) rest.0 rest.1 rest.2

  pub all_hit : list_all is_success (verdicts_of (one_thread pips tree budget)) ≡ true
      → (numbers : List ℕ) × IsHitSet pips tree budget S numbers × (length numbers ≡ run_count pips (verdicts_of (one_thread pips tree budget)))
  all_hit good =
      let same : one_thread pips tree budget ≡ rest_of pips tree budget [] 0 pips = on_rest pips tree budget pips [] 0 in
      let h =
      hits_from pips [] 0 [] refl refl refl refl (subst (λ (rs : List Result). list_all is_success (verdicts_of rs) ≡ true) same good) in
      (h.0, h.1, subst (λ (rs : List Result). length h.0 ≡ run_count pips (verdicts_of rs)) (sym same) h.2)

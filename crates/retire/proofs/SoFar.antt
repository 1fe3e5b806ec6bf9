-- What is so at one process of a build, read off the results before it.
use Rattle.std.proofs.Common.{◌≡◌, ℕ, zero, suc, ◌+◌, List, [], ◌∷◌, ◌++◌, length, take, Some, refl, sym, ap, ◌∙◌, subst, inl, inr, arith, append_assoc, append-nil, length-append}
use Rattle.std.specs.Prelude.{slice_get}
use Rattle.std.proofs.lemmas.List.{take-append-le, take_all}
use Rattle.std.proofs.lemmas.Option.{same_Some}
use Rattle.pip_view.proofs.TakenDirs.{process_is}
use Rattle.bx_tree.specs.Trees.{Files}
use Rattle.bx_tree.specs.Members.{Has}
use Rattle.bx_io.specs.Holdings.{Holdings}
use Rattle.pip_model_types.specs.declared.desc.Desc.{Desc}
use Rattle.pip_model_types.specs.declared.pip.Pip.{Pip}
use Rattle.pip_model_types.specs.declared.pip.PipKind.{PipKind}
use Rattle.observed.specs.declared.ask.Ask.{Ask}
use Rattle.observed.specs.declared.access.Answer.{Answer}
use Rattle.run_record.specs.Facts.{Facts}
use Rattle.two_phase_meaning.specs.Saving.{blobs_of}
use Rattle.two_phase_meaning.specs.Compared.{ComparedInRun}
use Rattle.one_thread.specs.OneThread.{Result, on_from, result_of}
use Rattle.retire_compared.specs.Compared.{Compared, compared_at_pip, compared_from, desc_after, view_after}
use Rattle.retire.specs.HitSet.{HitsFrom}
use Rattle.retire.specs.Runs.{IsOfSuccess, RunsAs, results_before}
use Rattle.retire.proofs.RecordMet.{record_met}

-- ## Processes among pips

module _ (pips : List Pip) (tree : Files) (budget : ℕ) where
  -- ## Results so far

  goes_on : (left : List Pip) (results : List Result) (i : ℕ) → (more : List Result) × (on_from pips tree budget results i left ≡ results ++ more)
  goes_on [] results i = ([], sym (append-nil results))
  goes_on (pip ∷ left) results i =
      let next = result_of pips tree budget results i pip.kind in
      let rest = goes_on left (results ++ next ∷ []) (i + 1) in
      (next ∷ rest.0, rest.1 ∙ append_assoc results (next ∷ []) rest.0)

  pub taken : (left : List Pip) (results : List Result) (i : ℕ) → length results ≡ i → take i (on_from pips tree budget results i left) ≡ results
  taken left results i long =
      let on = goes_on left results i in
      ap (take i) on.1 ∙ take-append-le i results on.0 (omega (arith, long)) ∙ take_all i results (omega (arith, long))

  -- ## What is met

  module _ (S : Holdings) (x : List ℕ) where
    met_at : (left : List Pip) (results : List Result) (i j n : ℕ) (pip : Pip) → length results ≡ i → n ≡ i + j → slice_get left j ≡ Some pip
        → compared_at_pip pips tree budget S (take n (on_from pips tree budget results i left)) n pip.kind x → compared_from pips tree budget S results i left x
    met_at [] results i zero n pip long e at m = absurd cc
    met_at [] results i (suc j) n pip long e at m = absurd cc
    met_at (p ∷ ps) results i zero n pip long e at m =
        let here : n ≡ i = omega (arith, e) in
        inl (subst (λ (q : Pip). compared_at_pip pips tree budget S results i q.kind x) (sym (same_Some p pip at))
        (subst (λ (rs : List Result). compared_at_pip pips tree budget S rs i pip.kind x) (taken (p ∷ ps) results i long)
        (subst (λ (k : ℕ). compared_at_pip pips tree budget S (take k (on_from pips tree budget results i (p ∷ ps))) k pip.kind x) here m)))
    met_at (p ∷ ps) results i (suc j) n pip long e at m =
        let next = result_of pips tree budget results i p.kind in
        inr (met_at ps (results ++ next ∷ []) (i + 1) j n pip (length-append results (next ∷ []) ∙ ap (λ k. k + 1) long) (omega (arith, e)) at m)

    -- what is met at a process that runs is met in the build
    pub run_met : (i : ℕ) (d : Desc) (see : Ask → Answer) → RunsAs pips tree budget i d see → ComparedInRun S d see x → Compared pips tree budget S x
    run_met i d see runs m =
        let there = process_is (slice_get pips i) runs.process runs.is_process in
        let before : List Result = results_before pips tree budget i in
        let here : ComparedInRun S (desc_after pips tree budget before runs.process) (view_after pips tree before i runs.process) x =
        subst (λ (e : Desc). ComparedInRun S e (view_after pips tree before i runs.process) x) (sym runs.desc_is)
        (subst (λ (v : Ask → Answer). ComparedInRun S d v x) (sym runs.view_is) m) in
        inr (met_at pips [] 0 i i there.0 refl (omega arith) there.1
        (subst (λ (k : PipKind). compared_at_pip pips tree budget S before i k x) (sym there.2) (runs.is_run, here)))

  -- what is put for the record of a process that succeeds is met in the build
  pub success_met : (S : Holdings) (f : Facts) → IsOfSuccess pips tree budget f → (x : List ℕ) → Has (blobs_of f) x → Compared pips tree budget S x
  success_met S f s x h = run_met S x s.pip f.desc s.see s.runs (record_met S f s.see s.run s.good x h)

  -- ## Which processes a store would spare

  pub one_set : (S : Holdings) (left : List Pip) (results : List Result) (i : ℕ) (xs ys : List ℕ) → HitsFrom pips tree budget S results i left xs
      → HitsFrom pips tree budget S results i left ys → xs ≡ ys
  one_set S [] results i xs ys h k = h ∙ sym k
  one_set S (pip ∷ left) results i xs ys h k =
      let next = result_of pips tree budget results i pip.kind in
      elim h [
        | inl a ↦ elim k [
          | inl b ↦ a.1.1 ∙ ap (λ rest. i ∷ rest) (one_set S left (results ++ next ∷ []) (i + 1) a.1.0 b.1.0 a.1.2 b.1.2) ∙ sym b.1.1
          | inr b ↦ absurd (b.0 a.0)
        ]
        | inr a ↦ elim k [
          | inl b ↦ absurd (a.0 b.0)
          | inr b ↦ one_set S left (results ++ next ∷ []) (i + 1) xs ys a.1 b.1
        ]
      ]

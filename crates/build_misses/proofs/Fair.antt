-- Over a fair store a build runs just what is not usable.
use Rattle.std.proofs.Common.{◌≡◌, ℕ, ◌+◌, Bool, true, false, cond, List, [], ◌∷◌, ◌++◌, inl, inr, refl, ap, sym, ◌∙◌, subst}
use Rattle.bx_tree.specs.Trees.{Files}
use Rattle.bx_io.specs.Holdings.{Holdings}
use Rattle.pip_model_types.specs.declared.desc.Desc.{Desc}
use Rattle.pip_model_types.specs.declared.pip.Pip.{Pip}
use Rattle.pip_model_types.specs.declared.pip.PipKind.{PipKind}
use Rattle.pip_model_types.specs.declared.pip.PipKind.TheVariants.{Process, Copy, Write, Seal}
use Rattle.observed.specs.declared.ask.Ask.{Ask}
use Rattle.observed.specs.declared.access.Answer.{Answer}
use Rattle.tool_run.specs.Described.{described}
use Rattle.run_record.specs.Collisions.{NoCollision}
use Rattle.run_record.specs.declared.outcome.Outcome.{Outcome}
use Rattle.run_record.specs.declared.outcome.Outcome.TheVariants.{Good}
use Rattle.two_phase_meaning.specs.Compared.{ComparedInRun}
use Rattle.two_phase_meaning.specs.Honest.{Honest, IsGoodRun}
use Rattle.two_phase_meaning.specs.Usable.{Usable}
use Rattle.two_phase_meaning.proofs.Found.{found}
use Rattle.violations.specs.declared.verdict.Verdict.TheVariants as verdicts
use Rattle.one_thread.specs.OneThread.{Result, by_outcome, failed, inputs_are_good, made_by, ran, result_of, worked}
use Rattle.retire_compared.specs.Compared.{compared_at_pip, compared_from, compared_in_work, desc_after, inputs_after, view_after}
use Rattle.retire.specs.Builds.{IsFair}
use Rattle.build_misses.specs.MissSet.{IsMissSet, MissesFrom, PipMisses}
use Rattle.retire.specs.Over as over
use Rattle.retire.specs.Over.{ComesOver, RunsFrom, RunsOver, TakesOver, WorksOver, no_slot, number_if}
use Rattle.retire.proofs.Spared.{hit_usable}

-- ## One process

-- what a process takes is what its run gives, and it runs just where nothing is usable
record TakesAsRun (S : Holdings) (d : Desc) (see : Ask → Answer) (outcome : Outcome) (missed : Bool) : Type 0 where
  same : outcome ≡ ran d see
  runs : missed ≡ true → Usable S d see → ⊥
  spared : missed ≡ false → Usable S d see

as_run : (S : Holdings) (d : Desc) (see : Ask → Answer) (outcome : Outcome) (missed : Bool) → Honest S → NoCollision (ComparedInRun S d see)
    → TakesOver S d see no_slot outcome missed → TakesAsRun S d see outcome missed
as_run S d see outcome missed honest apart (over.hit f none hits readback is is_no) =
    let good : IsGoodRun (described d) see hits.leads.usable.asks hits.leads.usable.files =
    found S d see honest readback apart hits.selector hits.leads.usable (hits.list, hits.held, (hits.selector, hits.listed, refl)) in
    record {
      same = is ∙ sym (good.outcome ∙ ap Good hits.leads.files_are);
      runs = λ is_yes. let z : true ≡ false = sym is_yes ∙ is_no in cc;
      spared = λ e. hit_usable S d see f hits;
    }
as_run S d see outcome missed honest apart (over.accepted run is is_yes) = absurd run
as_run S d see outcome missed honest apart (over.miss no_run none is is_yes) =
    record { same = is; runs = λ e. none; spared = λ is_no. let z : true ≡ false = sym is_yes ∙ is_no in cc }

-- ## One pip

-- what a pip comes to is what it comes to on one thread, and it is a miss just where nothing is usable
record ComesAsRun (pips : List Pip) (tree : Files) (budget : ℕ) (S : Holdings) (results : List Result) (i : ℕ) (kind : PipKind) (result : Result)
    (missed : Bool) : Type 0 where
  same : result ≡ result_of pips tree budget results i kind
  runs : missed ≡ true → PipMisses pips tree budget S results i kind
  spared : missed ≡ false → PipMisses pips tree budget S results i kind → ⊥

module _ (pips : List Pip) (tree : Files) (budget : ℕ) (S : Holdings) (honest : Honest S) where
  good_result : (results : List Result) (i : ℕ) (kind : PipKind) → inputs_are_good pips kind results ≡ true
      → worked pips tree budget (made_by results) (inputs_after pips kind results) i kind ≡ result_of pips tree budget results i kind
  good_result results i kind good =
      sym (ap (λ b. cond b (worked pips tree budget (made_by results) (inputs_after pips kind results) i kind) (failed verdicts.Skipped)) good)

  not_both : (missed : Bool) → missed ≡ false → missed ≡ true → ⊥
  not_both missed is_no is_yes = let z : true ≡ false = sym is_yes ∙ is_no in cc

  works : (results : List Result) (i : ℕ) (kind : PipKind) (result : Result) (missed : Bool) → inputs_are_good pips kind results ≡ true
      → NoCollision (compared_in_work pips tree budget S results i kind) → WorksOver pips tree budget S no_slot results i kind result missed
      → ComesAsRun pips tree budget S results i kind result missed
  works results i (Process d) result missed good apart h =
      let taken = as_run S (desc_after pips tree budget results d) (view_after pips tree results i d) h.outcome missed honest apart h.takes in
      record {
        same = h.result_is ∙ ap (by_outcome pips tree (made_by results) i) taken.same ∙ good_result results i (Process d) good;
        runs = λ is_yes. (good, taken.runs is_yes);
        spared = λ is_no m. m.1 (taken.spared is_no);
      }
  works results i (Copy d) result missed good apart h =
      record { same = h.0 ∙ good_result results i (Copy d) good; runs = λ is_yes. absurd (not_both missed h.1 is_yes); spared = λ is_no m. m.1 }
  works results i (Write d) result missed good apart h =
      record { same = h.0 ∙ good_result results i (Write d) good; runs = λ is_yes. absurd (not_both missed h.1 is_yes); spared = λ is_no m. m.1 }
  works results i (Seal d) result missed good apart h =
      record { same = h.0 ∙ good_result results i (Seal d) good; runs = λ is_yes. absurd (not_both missed h.1 is_yes); spared = λ is_no m. m.1 }

  comes : (results : List Result) (i : ℕ) (kind : PipKind) (result : Result) (missed : Bool) → NoCollision (compared_at_pip pips tree budget S results i kind)
      → ComesOver pips tree budget S no_slot results i kind result missed → ComesAsRun pips tree budget S results i kind result missed
  comes results i kind result missed apart (inl (good, h)) =
      works results i kind result missed good (λ x y m n e. apart x y (good, m) (good, n) e) h
  comes results i kind result missed apart (inr (bad, is, is_no)) = record {
    same = is ∙ sym (ap (λ b. cond b (worked pips tree budget (made_by results) (inputs_after pips kind results) i kind) (failed verdicts.Skipped)) bad);
    runs = λ is_yes. absurd (not_both missed is_no is_yes);
    spared = λ e m. not_both (inputs_are_good pips kind results) bad m.0;
  }

  -- ## All pips

  from : (left : List Pip) (results : List Result) (i : ℕ) (numbers : List ℕ) → NoCollision (compared_from pips tree budget S results i left)
      → RunsFrom pips tree budget S [] results i left numbers → MissesFrom pips tree budget S results i left numbers
  from [] results i numbers apart h = h
  from (pip ∷ left) results i numbers apart (result, missed, rest, step, are, more) =
      let own = comes results i pip.kind result missed (λ x y m n e. apart x y (inl m) (inl n) e) step in
      let next = result_of pips tree budget results i pip.kind in
      let after : MissesFrom pips tree budget S (results ++ next ∷ []) (i + 1) left rest =
      from left (results ++ next ∷ []) (i + 1) rest (λ x y m n e. apart x y (inr m) (inr n) e)
      (subst (λ r. RunsFrom pips tree budget S [] (results ++ r ∷ []) (i + 1) left rest) own.same more) in
      by_test missed own.runs own.spared are after
    where
      by_test : (t : Bool) → (t ≡ true → PipMisses pips tree budget S results i pip.kind) → (t ≡ false → PipMisses pips tree budget S results i pip.kind → ⊥)
          → numbers ≡ number_if t i ++ rest
          → MissesFrom pips tree budget S (results ++ result_of pips tree budget results i pip.kind ∷ []) (i + 1) left rest
          → MissesFrom pips tree budget S results i (pip ∷ left) numbers
      by_test true runs spared are after = inl (runs refl, (rest, are, after))
      by_test false runs spared are after =
          inr (spared refl, subst (MissesFrom pips tree budget S (results ++ result_of pips tree budget results i pip.kind ∷ []) (i + 1) left) (sym are) after)

pub fair : (pips : List Pip) (tree : Files) (budget : ℕ) (S : Holdings) (numbers : List ℕ) → IsFair pips tree budget S
    → RunsOver pips tree budget S numbers → IsMissSet pips tree budget S numbers
fair pips tree budget S numbers is_fair h =
    from pips tree budget S is_fair.honest pips [] 0 numbers (λ x y m n e. is_fair.apart x y (inr m) (inr n) e) h

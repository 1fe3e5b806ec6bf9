-- A build follows the sequential build, over an honest store or without one.
use Rattle.std.proofs.Common.{◌≡◌, ℕ, true, cond, List, [], ◌∷◌, drop, length, map, take, Option, Some, refl, sym, ap, ◌∙◌, subst, inl, inr, arith}
use Rattle.std.specs.Prelude.{slice_get}
use Rattle.bx_tree.specs.Trees.{Files}
use Rattle.bx_io.specs.Holdings.{Holdings}
use Rattle.pip_model_types.specs.declared.desc.Desc.{Desc}
use Rattle.pip_model_types.specs.declared.made.Slot.{Slot}
use Rattle.pip_model_types.specs.declared.pip.Pip.{Pip}
use Rattle.pip_model_types.specs.declared.pip.PipKind.{PipKind}
use Rattle.pip_model_types.specs.declared.pip.PipKind.TheVariants.{Process}
use Rattle.pip_model_types.specs.declared.pip.ProcessDesc.{ProcessDesc}
use Rattle.pip_model.specs.Edges.{targets}
use Rattle.observed.specs.declared.ask.Ask.{Ask}
use Rattle.observed.specs.declared.access.Answer.{Answer}
use Rattle.tool_run.specs.Described.{described}
use Rattle.tool_run.proofs.Depends.{depends}
use Rattle.run_record.specs.Facts.{Facts, IsRun, Sound, run_for}
use Rattle.run_record.specs.Holding.{HoldsNow, at_desc}
use Rattle.run_record.proofs.SameWork.{holds_run}
use Rattle.run_record.specs.Outcomes.{outcome_of}
use Rattle.run_record.specs.declared.outcome.Outcome.TheVariants.{Good}
use Rattle.run_record.specs.Collisions.{NoCollision}
use Rattle.two_phase_meaning.specs.Honest.{Honest, IsGoodRun}
use Rattle.two_phase_meaning.specs.Compared.{ComparedInRun}
use Rattle.two_phase_meaning.proofs.Found.{found}
use Rattle.pip_view_inputs.specs.Plain.{desc_of, kind_process, process_in}
use Rattle.pip_view_inputs.specs.Results.{inputs_of}
use Rattle.violations.specs.Slots.{slot_files}
use Rattle.pip_view.specs.Sees.{sees}
use Rattle.violations.specs.declared.verdict.Verdict.{Verdict}
use Rattle.violations.specs.declared.verdict.Verdict.TheVariants as verdicts
use Rattle.one_thread.specs.OneThread.{Result, by_outcome, failed, inputs_are_good, ran, worked}
use Rattle.one_thread.specs.Views.{ended_result, kind_ended, results_of, slots_are_good}
use Rattle.one_thread.proofs.GoingThrough.{IsSoFar, all_good, made_is}
use Rattle.retire_compared.specs.Compared.{desc_after, view_after}
use Rattle.retire.specs.Runs.{RunsAs, results_before}
use Rattle.retire.proofs.SoFar.{run_met, taken}
use Rattle.retire.proofs.Told.{IsRight, told_takes}
use Rattle.two_phase.specs.Reading.{ReaderData}
use Rattle.sched_board_slots.specs.declared.held.Held.{Held}
use Rattle.retire.specs.Builds.{IsFair}
use Rattle.retire.specs.Deciding as deciding
use Rattle.retire.specs.Deciding.{DecidedBy, Decides}
use Rattle.retire.specs.Taking.{IsOfNow, TakesAlone, TakesBy, TakesFrom, outcome_in}
use Rattle.retire.specs.declared.deciding.Next.{Next}
use Rattle.retire.specs.declared.taking.Taken.{Taken}
use Rattle.retire.specs.declared.taking.Taken.TheVariants as takings

-- ## What a process takes

pub ran_is : (f : Facts) (d : Desc) (see : Ask → Answer) → IsRun f d see → f.outcome ≡ ran d see
ran_is f d see run = sym run.run.outcome ∙ ap (λ (x : Desc). outcome_of (described x) (run_for d see)) run.desc

-- the outcome of an accepted run is that of the run now
pub accepted_ran : (f : Facts) (d : Desc) (see : Ask → Answer) → Sound f → HoldsNow d see f → f.outcome ≡ ran d see
accepted_ran f d see sound holds = ran_is (at_desc d f) d see (holds_run f d see (depends (described f.desc)) sound holds)

-- over an honest store it is what its run gives
pub takes_outcome : (S : Holdings) (d : Desc) (see : Ask → Answer) (slot : Held) (t : Taken) → Honest S → NoCollision (ComparedInRun S d see) → TakesFrom S d see t
    → IsOfNow d see slot t → outcome_in t ≡ ran d see
takes_outcome S d see slot (takings.Accepted f) honest apart h now = accepted_ran f d see now.1 now.2
takes_outcome S d see slot (takings.Hit f) honest apart h now =
    let good : IsGoodRun (described d) see h.0.leads.usable.asks h.0.leads.usable.files =
    found S d see honest h.1 apart h.0.selector h.0.leads.usable (h.0.list, h.0.held, (h.0.selector, h.0.listed, refl)) in
    sym (good.outcome ∙ ap Good h.0.leads.files_are)
takes_outcome S d see slot (takings.Missed f) honest apart h now = ran_is f d see now.2
takes_outcome S d see slot (takings.Faulted f) honest apart h now = ran_is f d see now.2

-- so it is without a store
pub takes_outcome_alone : (d : Desc) (see : Ask → Answer) (slot : Held) (t : Taken) → TakesAlone t → IsOfNow d see slot t → outcome_in t ≡ ran d see
takes_outcome_alone d see slot (takings.Accepted f) h now = accepted_ran f d see now.1 now.2
takes_outcome_alone d see slot (takings.Hit f) h now = absurd h
takes_outcome_alone d see slot (takings.Missed f) h now = ran_is f d see now.2
takes_outcome_alone d see slot (takings.Faulted f) h now = absurd h

-- ## One pip

long_results : (vs : List Verdict) (ss : List Slot) → length vs ≡ length ss → length (results_of vs ss) ≡ length ss
long_results [] [] e = refl
long_results [] (s ∷ ss) e = absurd (omega (arith, e))
long_results (v ∷ vs) [] e = absurd (omega (arith, e))
long_results (v ∷ vs) (s ∷ ss) e = let rest = long_results vs ss (omega (arith, e)) in omega (arith, rest)

module _ (pips : List Pip) (tree : Files) (budget : ℕ) (n : ℕ) (vs : List Verdict) (ss : List Slot) (so_far : IsSoFar pips tree budget n vs ss) where
  even : length vs ≡ length ss
  even = omega (arith, so_far.verdicts, so_far.slots)

  pub before_is : results_before pips tree budget n ≡ results_of vs ss
  before_is =
      ap (take n) (sym so_far.goes_on)
      ∙ taken pips tree budget (drop n pips) (results_of vs ss) n (long_results vs ss even ∙ so_far.slots)

  pub runs_as : (pip : Pip) (p : ProcessDesc) → slice_get pips n ≡ Some pip → pip.kind ≡ Process p → slots_are_good pips (Process p) ss ≡ true
      → RunsAs pips tree budget n (desc_of tree (inputs_of pips (Process p) (map slot_files ss)) budget p)
      (sees pips tree (inputs_of pips (Process p) (map slot_files ss)) n)
  runs_as pip p at is good = record {
    process = p;
    is_process = ap process_in at ∙ ap kind_process is;
    is_run =
        ap (inputs_are_good pips (Process p)) before_is ∙ all_good vs ss even so_far.agree (targets pips (Process p)) ∙ good;
    desc_is =
        ap (λ (rs : List Result). desc_after pips tree budget rs p) before_is
        ∙ ap (λ (made : List Files). desc_of tree (inputs_of pips (Process p) made) budget p) (made_is vs ss even);
    view_is =
        ap (λ (rs : List Result). view_after pips tree rs n p) before_is
        ∙ ap (λ (made : List Files). sees pips tree (inputs_of pips (Process p) made) n) (made_is vs ss even);
  }

  run_apart : (S : Holdings) → IsFair pips tree budget S → (d : Desc) (see : Ask → Answer) → RunsAs pips tree budget n d see → NoCollision (ComparedInRun S d see)
  run_apart S fair d see runs x y h k e = fair.apart x y (run_met pips tree budget S x n d see runs h) (run_met pips tree budget S y n d see runs k) e

  module _ (reader : Option ReaderData) (slot : Held) (right : IsRight pips tree budget reader) where
    outcome_is : (d : Desc) (see : Ask → Answer) (t : Taken) → RunsAs pips tree budget n d see → TakesBy reader d see t → IsOfNow d see slot t → outcome_in t ≡ ran d see
    outcome_is d see t runs takes now = elim right [
      | inl none ↦ takes_outcome_alone d see slot t (subst (λ (r : Option ReaderData). TakesBy r d see t) none takes) now
      | inr over ↦
          takes_outcome over.0 d see slot t over.2.honest (run_apart over.0 over.2 d see runs) (told_takes reader over.0 d see t over.1 takes) now
    ]

    by_process : (pip : Pip) (p : ProcessDesc) (next : Next) → slice_get pips n ≡ Some pip → pip.kind ≡ Process p → slots_are_good pips (Process p) ss ≡ true
        → DecidedBy pips tree budget reader slot (map slot_files ss) (inputs_of pips (Process p) (map slot_files ss)) n p next
        → ended_result next.ended ≡ kind_ended pips tree budget ss n (Process p)
    by_process pip p next at is good d =
        let inputs = inputs_of pips (Process p) (map slot_files ss) in
        let desc = desc_of tree inputs budget p in
        let see = sees pips tree inputs n in
        d.result_is
        ∙ ap (by_outcome pips tree (map slot_files ss) n) (outcome_is desc see d.taken (runs_as pip p at is good) d.takes d.now)
        ∙ sym (ap (λ b. cond b (worked pips tree budget (map slot_files ss) inputs n (Process p)) (failed verdicts.Skipped)) good)

    -- what the pip comes to is what it comes to on one thread
    pub decided_is : (pip : Pip) (next : Next) → slice_get pips n ≡ Some pip → Decides pips tree budget reader slot ss n pip.kind next
        → ended_result next.ended ≡ kind_ended pips tree budget ss n pip.kind
    decided_is pip next at (deciding.skipped e d) =
        d.result_is
        ∙ sym (ap (λ b. cond b (worked pips tree budget (map slot_files ss) (inputs_of pips pip.kind (map slot_files ss)) n pip.kind) (failed verdicts.Skipped)) e)
    decided_is pip next at (deciding.plain e none d) =
        d.result_is
        ∙ sym (ap (λ b. cond b (worked pips tree budget (map slot_files ss) (inputs_of pips pip.kind (map slot_files ss)) n pip.kind) (failed verdicts.Skipped)) e)
    decided_is pip next at (deciding.process p e is d) =
        by_process pip p next at is (subst (λ (k : PipKind). slots_are_good pips k ss ≡ true) is e) d
        ∙ ap (kind_ended pips tree budget ss n) (sym is)

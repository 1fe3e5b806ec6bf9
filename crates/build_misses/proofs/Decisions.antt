-- How one pip is gone through, by what the calls answer.
use Rattle.std.proofs.Common.{◌≡◌, ℕ, true, false, ◌&&◌, List, map, Option, Some, None, Ok, Err, IfOk, refl, ap, sym, ◌∙◌, subst, inl, inr}
use Rattle.std.proofs.Common.{Result as Answered}
use Rattle.std.specs.Prelude.{IfSome, IsSome, IsSomeAnd, is_some}
use Rattle.std.proofs.lemmas.Bool.{and_parts, cases_Bool}
use Rattle.bx_tree.specs.Trees.{Files}
use Rattle.bx_io.specs.Holdings.{Holdings}
use Rattle.pip_model_types.specs.declared.desc.Desc.{Desc}
use Rattle.pip_model_types.specs.declared.made.Slot.{Slot}
use Rattle.pip_model_types.specs.declared.pip.Pip.{Pip}
use Rattle.pip_model_types.specs.declared.pip.PipKind.{PipKind}
use Rattle.pip_model_types.specs.declared.pip.PipKind.TheVariants.{Process}
use Rattle.pip_model_types.specs.declared.pip.ProcessDesc.{ProcessDesc}
use Rattle.observed.specs.declared.ask.Ask.{Ask}
use Rattle.observed.specs.declared.access.Answer.{Answer}
use Rattle.run_record.specs.declared.outcome.Outcome.{Outcome}
use Rattle.pip_view_inputs.specs.Plain.{desc_of, kind_process, process_in}
use Rattle.pip_view_inputs.specs.Results.{ByPip, inputs_of, kind_inputs}
use Rattle.violations.specs.Slots.{slot_files}
use Rattle.pip_view.specs.Sees.{sees}
use Rattle.pip_view.proofs.TakenDirs.{kind_is}
use Rattle.two_phase_meaning.specs.Usable.{Usable}
use Rattle.one_thread.specs.OneThread.{Result, by_outcome, ran}
use Rattle.one_thread.specs.Starting.{needs_run}
use Rattle.one_thread.specs.declared.ended.PipResult.{PipResult}
use Rattle.one_thread.specs.Views.{ended_in, ended_result, slots_are_good}
use Rattle.one_thread.proofs.OnePip.{not_skipped, skipped}
use Rattle.miss_reasons.specs.declared.reason.Reason.{Reason}
use Rattle.build_misses.specs.Going as going
use Rattle.build_misses.specs.Going.{EndsAt, outcome_in, reason_in}
use Rattle.miss_reasons.specs.Reasons.{IsReason}
use Rattle.retire.specs.Over as over
use Rattle.retire.specs.Over.{ProcessOver, TakesOver, no_slot}
use Rattle.build_misses.specs.Reasoned as reasoned
use Rattle.build_misses.specs.Reasoned.{WhyAt}
use Rattle.build_misses.specs.declared.finding.Next.{Next}
use Rattle.build_misses.specs.declared.taking.Taken.{Taken}

-- ## Processes

-- a run with a reason is what a process takes for which nothing is usable
pub run_given : {E : Type 0} (held : Option Holdings) (d : Desc) (now see : Ask → Answer) (reason : Reason) (r : Answered Taken E) → now ≡ see
    → ((S : Holdings) → held ≡ Some S → Usable S d see → ⊥) → IfOk r (λ (t : Taken). outcome_in t ≡ ran d now) → IfOk r (λ (t : Taken). reason_in t ≡ Some reason)
    → IfOk r (λ (t : Taken). (S : Holdings) → held ≡ Some S → TakesOver S d see no_slot (outcome_in t) (is_some (reason_in t)))
run_given held d now see reason (Ok t) same none outcome is = λ S told. over.miss (λ no_run. no_run) (none S told) (outcome ∙ ap (ran d) same) (ap is_some is)
run_given held d now see reason (Err e) same none outcome is = tt

pub told_given : {E : Type 0} (held : Option Holdings) (d : Desc) (see : Ask → Answer) (reason : Reason) (r : Answered Taken E)
    → ((S : Holdings) → held ≡ Some S → IsReason S d see reason) → IfOk r (λ (t : Taken). reason_in t ≡ Some reason)
    → IfOk r (λ (t : Taken). (S : Holdings) → held ≡ Some S → WhyAt S d see (reason_in t))
told_given held d see reason (Ok t) h is = λ S told. reasoned.told reason is (h S told)
told_given held d see reason (Err e) h is = tt

-- what is so of a description is so of the process that it is of
pub takes_in : (o : Option ProcessDesc) (tree : Files) (inputs : ByPip) (budget : ℕ) (d : Desc) (see view : Ask → Answer) (P : Desc → (Ask → Answer) → Type 0)
    → IsSomeAnd o (λ p. d ≡ desc_of tree inputs budget p) → view ≡ see → P d view → IfSome o (λ p. P (desc_of tree inputs budget p) see)
takes_in None tree inputs budget d see view P same seen h = tt
takes_in (Some p) tree inputs budget d see view P same seen h =
    subst (λ (x : Desc). P x see) same (subst (λ (v : Ask → Answer). P d v) seen h)

came_by : (pips : List Pip) (tree : Files) (budget : ℕ) (held : Option Holdings) (made : List Files) (inputs : ByPip) (i : ℕ) (o : Option ProcessDesc) (outcome : Outcome)
    (result : Result) (why told_why : Option Reason)
    → IfSome o (λ p. (S : Holdings) → held ≡ Some S → TakesOver S (desc_of tree inputs budget p) (sees pips tree inputs i) no_slot outcome (is_some why))
    → result ≡ by_outcome pips tree made i outcome → told_why ≡ why
    → IfSome o (λ p. (S : Holdings) → held ≡ Some S → ProcessOver pips tree made i S (desc_of tree inputs budget p) (sees pips tree inputs i) no_slot result (is_some told_why))
came_by pips tree budget held made inputs i None outcome result why told_why takes is same = tt
came_by pips tree budget held made inputs i (Some p) outcome result why told_why takes is same = λ S told. record {
  outcome = outcome;
  takes =
      subst (λ (w : Option Reason). TakesOver S (desc_of tree inputs budget p) (sees pips tree inputs i) no_slot outcome (is_some w)) (sym same) (takes S told);
  result_is = is;
}

-- what is so of what a process comes to is so of what comes next
pub ended_given : {E F : Type 0} (ended : Answered PipResult E) (r : Answered Next F) (P : PipResult → Type 0) → IfOk ended P → IfOk r (λ (next : Next). ended ≡ Ok next.ended)
    → IfOk r (λ (next : Next). P next.ended)
ended_given ended (Ok next) P h is = subst (λ (x : Answered PipResult _). IfOk x P) is h
ended_given ended (Err e) P h is = tt

pub came_given : {E F : Type 0} (pips : List Pip) (tree : Files) (budget : ℕ) (held : Option Holdings) (made : List Files) (inputs : ByPip) (i : ℕ) (o : Option ProcessDesc) (taken : Taken)
    (ended : Answered PipResult E) (r : Answered Next F)
    → IfSome o (λ p. (S : Holdings) → held ≡ Some S → TakesOver S (desc_of tree inputs budget p) (sees pips tree inputs i) no_slot (outcome_in taken) (is_some (reason_in taken)))
    → IfOk ended (λ (e : PipResult). ended_result e ≡ by_outcome pips tree made i (outcome_in taken)) → IfOk r (λ (next : Next). ended ≡ Ok next.ended)
    → IfOk r (λ (next : Next). next.reason ≡ reason_in taken)
    → IfOk r (λ (next : Next). IfSome o (λ p. (S : Holdings) → held ≡ Some S → ProcessOver pips tree made i S (desc_of tree inputs budget p) (sees pips tree inputs i) no_slot (ended_result next.ended) (is_some next.reason)))
came_given pips tree budget held made inputs i o taken ended (Ok next) takes result is same =
    came_by pips tree budget held made inputs i o (outcome_in taken) (ended_result next.ended) (reason_in taken) next.reason takes
    (subst (λ (x : Answered PipResult _). IfOk x (λ (e : PipResult). ended_result e ≡ by_outcome pips tree made i (outcome_in taken))) is result) same
came_given pips tree budget held made inputs i o taken ended (Err e) takes result is same = tt

pub reason_given : {F : Type 0} (pips : List Pip) (tree : Files) (budget : ℕ) (held : Option Holdings) (inputs : ByPip) (i : ℕ) (o : Option ProcessDesc) (taken : Taken) (r : Answered Next F)
    → IfSome o (λ p. (S : Holdings) → held ≡ Some S → WhyAt S (desc_of tree inputs budget p) (sees pips tree inputs i) (reason_in taken))
    → IfOk r (λ (next : Next). next.reason ≡ reason_in taken)
    → IfOk r (λ (next : Next). IfSome o (λ p. (S : Holdings) → held ≡ Some S → WhyAt S (desc_of tree inputs budget p) (sees pips tree inputs i) next.reason))
reason_given pips tree budget held inputs i o taken (Ok next) h same =
    subst (λ (why : Option Reason). IfSome o (λ p. (S : Holdings) → held ≡ Some S → WhyAt S (desc_of tree inputs budget p) (sees pips tree inputs i) why)) (sym same) h
reason_given pips tree budget held inputs i o taken (Err e) h same = tt

-- ## Pips

none_there : (o : Option ProcessDesc) → is_some o ≡ false → o ≡ None
none_there None e = refl
none_there (Some p) e = cc

pub ends_done : (pips : List Pip) (tree : Files) (budget : ℕ) (S : Holdings) (ss : List Slot) (i : ℕ) (o : Option Pip) (result : Result) → IsSome o
    → needs_run pips o ss ≡ false → result ≡ ended_in pips tree budget ss i o → EndsAt pips tree budget S ss i o result None
ends_done pips tree budget S ss i None result there idle is = absurd cc
ends_done pips tree budget S ss i (Some pip) result there idle is = elim (cases_Bool (slots_are_good pips pip.kind ss)) [
  | inl good ↦
      going.plain good (none_there (kind_process pip.kind) (sym (ap (λ b. b && is_some (kind_process pip.kind)) good) ∙ idle))
      (is ∙ sym (not_skipped pips tree budget ss i (Some pip) good)) refl
  | inr bad ↦ going.skipped bad (is ∙ sym (skipped pips tree budget ss i (Some pip) bad)) refl
]

-- what a process came to, and why its tool runs
record CameTo (pips : List Pip) (tree : Files) (budget : ℕ) (S : Holdings) (made : List Files) (i : ℕ) (result : Result) (why : Option Reason) (inputs : ByPip) (p : ProcessDesc)
    : Type 0 where
  runs_over : ProcessOver pips tree made i S (desc_of tree inputs budget p) (sees pips tree inputs i) no_slot result (is_some why)
  reason : WhyAt S (desc_of tree inputs budget p) (sees pips tree inputs i) why

ends_process : (pips : List Pip) (tree : Files) (budget : ℕ) (S : Holdings) (ss : List Slot) (i : ℕ) (o : Option Pip) (inputs : ByPip) (result : Result) (why : Option Reason)
    → needs_run pips o ss ≡ true → inputs ≡ kind_inputs pips o (map slot_files ss)
    → IfSome (process_in o) (CameTo pips tree budget S (map slot_files ss) i result why inputs) → EndsAt pips tree budget S ss i o result why
ends_process pips tree budget S ss i None inputs result why runs same h = absurd cc
ends_process pips tree budget S ss i (Some pip) inputs result why runs same h = by_process (kind_process pip.kind) refl both.1 h
  where
    both : (slots_are_good pips pip.kind ss ≡ true) × IsSome (kind_process pip.kind)
    both = and_parts (slots_are_good pips pip.kind ss) (is_some (kind_process pip.kind)) runs

    by_process : (x : Option ProcessDesc) → kind_process pip.kind ≡ x → IsSome x
        → IfSome x (CameTo pips tree budget S (map slot_files ss) i result why inputs) → EndsAt pips tree budget S ss i (Some pip) result why
    by_process None is some by = absurd cc
    by_process (Some p) is some by =
        let kind : pip.kind ≡ Process p = kind_is pip.kind p is in
        let at_kind : CameTo pips tree budget S (map slot_files ss) i result why (inputs_of pips pip.kind (map slot_files ss)) p =
        subst (λ (m : ByPip). CameTo pips tree budget S (map slot_files ss) i result why m p) same by in
        let now : CameTo pips tree budget S (map slot_files ss) i result why (inputs_of pips (Process p) (map slot_files ss)) p =
        subst (λ (k : PipKind). CameTo pips tree budget S (map slot_files ss) i result why (inputs_of pips k (map slot_files ss)) p) kind at_kind in
        going.process p both.0 kind now.runs_over now.reason

came_in : (pips : List Pip) (tree : Files) (budget : ℕ) (S : Holdings) (held : Option Holdings) (made : List Files) (i : ℕ) (o : Option ProcessDesc) (inputs : ByPip) (result : Result)
    (why : Option Reason) → held ≡ Some S
    → IfSome o (λ p. (T : Holdings) → held ≡ Some T → ProcessOver pips tree made i T (desc_of tree inputs budget p) (sees pips tree inputs i) no_slot result (is_some why))
    → IfSome o (λ p. (T : Holdings) → held ≡ Some T → WhyAt T (desc_of tree inputs budget p) (sees pips tree inputs i) why)
    → IfSome o (CameTo pips tree budget S made i result why inputs)
came_in pips tree budget S held made i None inputs result why told went reason = tt
came_in pips tree budget S held made i (Some p) inputs result why told went reason = record { runs_over = went S told; reason = reason S told }

-- as a call answers it
pub ends_given : {E : Type 0} (pips : List Pip) (tree : Files) (budget : ℕ) (held : Option Holdings) (ss : List Slot) (i : ℕ) (o : Option Pip) (inputs : ByPip) (r : Answered Next E)
    → needs_run pips o ss ≡ true → inputs ≡ kind_inputs pips o (map slot_files ss)
    → IfOk r (λ (next : Next). IfSome (process_in o) (λ p. (S : Holdings) → held ≡ Some S → ProcessOver pips tree (map slot_files ss) i S (desc_of tree inputs budget p) (sees pips tree inputs i) no_slot (ended_result next.ended) (is_some next.reason)))
    → IfOk r (λ (next : Next). IfSome (process_in o) (λ p. (S : Holdings) → held ≡ Some S → WhyAt S (desc_of tree inputs budget p) (sees pips tree inputs i) next.reason))
    → IfOk r (λ (next : Next). (S : Holdings) → held ≡ Some S → EndsAt pips tree budget S ss i o (ended_result next.ended) next.reason)
ends_given pips tree budget held ss i o inputs (Ok next) runs same went why = λ S told.
    ends_process pips tree budget S ss i o inputs (ended_result next.ended) next.reason runs same
    (came_in pips tree budget S held (map slot_files ss) i (process_in o) inputs (ended_result next.ended) next.reason told went why)
ends_given pips tree budget held ss i o inputs (Err e) runs same went why = tt

-- How a pip is gone through over a store, where these are the slots of the pips before it.
use Rattle.std.specs.Prelude.{◌≡◌, ℕ, true, false, List, map, Option, Some, is_some}
use Rattle.std.specs.Prelude as prelude
use Rattle.bx_tree.specs.Trees.{Files}
use Rattle.bx_io.specs.Holdings.{Holdings}
use Rattle.pip_model_types.specs.declared.made.Slot.{Slot}
use Rattle.pip_model_types.specs.declared.pip.Pip.{Pip}
use Rattle.pip_model_types.specs.declared.pip.PipKind.{PipKind}
use Rattle.pip_model_types.specs.declared.pip.PipKind.TheVariants.{Process}
use Rattle.pip_model_types.specs.declared.pip.ProcessDesc.{ProcessDesc}
use Rattle.run_record.specs.declared.outcome.Outcome.{Outcome}
use Rattle.run_record.specs.declared.outcome.Outcome.TheVariants.{Good}
use Rattle.violations.specs.Slots.{slot_files}
use Rattle.violations.specs.declared.verdict.Verdict.TheVariants as verdicts
use Rattle.pip_view_inputs.specs.Plain.{desc_of, kind_process}
use Rattle.pip_view_inputs.specs.Results.{inputs_of}
use Rattle.pip_view.specs.Sees.{sees}
use Rattle.one_thread.specs.OneThread.{Result, failed, worked}
use Rattle.one_thread.specs.Views.{slots_are_good}
use Rattle.miss_reasons.specs.declared.reason.Reason.{Reason}
use Rattle.retire.specs.Over.{ProcessOver, no_slot}
use Rattle.build_misses.specs.Reasoned.{WhyAt}
use Rattle.build_misses.specs.declared.taking.Taken.{Taken}
use Rattle.build_misses.specs.declared.taking.Taken.TheVariants as takings

abbrev pub outcome_in : Taken → Outcome
outcome_in (takings.Hit found) = Good found.made
outcome_in (takings.Missed ran reason) = ran.outcome

abbrev pub reason_in : Taken → Option Reason
reason_in (takings.Hit found) = prelude.None
reason_in (takings.Missed ran reason) = Some reason

-- what pip i of this kind comes to, and, if its tool runs, why
pub data EndsOver (pips : List Pip) (tree : Files) (budget : ℕ) (S : Holdings) (ss : List Slot) (i : ℕ) (kind : PipKind) (result : Result)
    (why : Option Reason) : Type 0 where
  skipped : slots_are_good pips kind ss ≡ false → result ≡ failed verdicts.Skipped → why ≡ prelude.None
      → EndsOver pips tree budget S ss i kind result why
  plain : slots_are_good pips kind ss ≡ true → kind_process kind ≡ prelude.None
      → result ≡ worked pips tree budget (map slot_files ss) (inputs_of pips kind (map slot_files ss)) i kind → why ≡ prelude.None
      → EndsOver pips tree budget S ss i kind result why
  process : (p : ProcessDesc) → slots_are_good pips kind ss ≡ true → kind ≡ Process p
      → ProcessOver pips tree (map slot_files ss) i S (desc_of tree (inputs_of pips (Process p) (map slot_files ss)) budget p)
      (sees pips tree (inputs_of pips (Process p) (map slot_files ss)) i) no_slot result (is_some why)
      → WhyAt S (desc_of tree (inputs_of pips (Process p) (map slot_files ss)) budget p)
      (sees pips tree (inputs_of pips (Process p) (map slot_files ss)) i) why
      → EndsOver pips tree budget S ss i kind result why

-- what pip i comes to, which is there
abbrev pub EndsAt : List Pip → Files → ℕ → Holdings → List Slot → ℕ → Option Pip → Result → Option Reason → Type 0
EndsAt pips tree budget S ss i prelude.None result why = ⊥
EndsAt pips tree budget S ss i (Some pip) result why = EndsOver pips tree budget S ss i pip.kind result why

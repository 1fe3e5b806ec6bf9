-- The processes that run in the sequential build, and what a store is to have of them.
use Rattle.std.specs.Prelude.{◌≡◌, ◌⊎◌, ℕ, true, List, take, Some, slice_get}
use Rattle.std.specs.List.{Contains}
use Rattle.bx_tree.specs.Paths.{Atoms}
use Rattle.bx_tree.specs.Trees.{Files, IsReserved, paths_of}
use Rattle.bx_io.specs.Holdings.{Holdings}
use Rattle.pip_model_types.specs.declared.desc.Desc.{Desc}
use Rattle.pip_model_types.specs.declared.pip.Pip.{Pip}
use Rattle.pip_model_types.specs.declared.pip.PipKind.TheVariants.{Process}
use Rattle.pip_model_types.specs.declared.pip.ProcessDesc.{ProcessDesc}
use Rattle.observed.specs.declared.ask.Ask.{Ask}
use Rattle.observed.specs.declared.access.Answer.{Answer}
use Rattle.run_record.specs.Facts.{Facts, IsRun}
use Rattle.memo_format.specs.StoreNames.{HoldsEntry}
use Rattle.memo_format.specs.declared.entry.Entry.{Entry}
use Rattle.two_phase_meaning.specs.Saving.{IsGood, record_entry}
use Rattle.two_phase_meaning.specs.Usable.{Usable}
use Rattle.pip_view_inputs.specs.Plain.{process_in}
use Rattle.violations.specs.declared.verdict.Verdict.TheVariants as verdicts
use Rattle.one_thread.specs.OneThread.{Result, inputs_are_good, one_thread, verdicts_of}
use Rattle.retire_compared.specs.Compared.{desc_after, view_after}

-- what the pips before pip i come to
abbrev pub results_before : List Pip → Files → ℕ → ℕ → List Result
results_before pips tree budget i = take i (one_thread pips tree budget)

-- Pip i is a process that is not skipped; with its contents it is this, and it sees this.
pub record RunsAs (pips : List Pip) (tree : Files) (budget i : ℕ) (d : Desc) (see : Ask → Answer)
    : Type 0 where
  pub process : ProcessDesc
  pub is_process : process_in (slice_get pips i) ≡ Some process
  pub is_run : inputs_are_good pips (Process process) (results_before pips tree budget i) ≡ true
  pub desc_is : desc_after pips tree budget (results_before pips tree budget i) process ≡ d
  pub view_is : view_after pips tree (results_before pips tree budget i) i process ≡ see

abbrev pub SucceedsAt : List Pip → Files → ℕ → ℕ → Type 0
SucceedsAt pips tree budget i =
    slice_get (verdicts_of (one_thread pips tree budget)) i ≡ Some verdicts.Succeeded

-- The record is of the run of a process that succeeds.
pub record IsOfSuccess (pips : List Pip) (tree : Files) (budget : ℕ) (f : Facts) : Type 0 where
  pub pip : ℕ
  pub see : Ask → Answer
  pub runs : RunsAs pips tree budget pip f.desc see
  pub run : IsRun f f.desc see
  pub good : IsGood f
  pub succeeds : SucceedsAt pips tree budget pip

-- Each entry that is held now was held before, or is that of the record of a process that succeeds.
abbrev pub AddsSuccesses : List Pip → Files → ℕ → Holdings → Holdings → Type 0
AddsSuccesses pips tree budget before now =
    (e : Entry) → HoldsEntry now e
    → HoldsEntry before e ⊎ ((f : Facts) × IsOfSuccess pips tree budget f × (e ≡ record_entry f))

-- For each process that succeeds something is usable.
abbrev pub AllUsable : List Pip → Files → ℕ → Holdings → Type 0
AllUsable pips tree budget S =
    (i : ℕ) (d : Desc) (see : Ask → Answer) → RunsAs pips tree budget i d see
    → SucceedsAt pips tree budget i → Usable S d see

-- no file of the tree has a reserved path
abbrev pub NoneReserved : Files → Type 0
NoneReserved tree = (path : Atoms) → Contains (paths_of tree) path → IsReserved path → ⊥

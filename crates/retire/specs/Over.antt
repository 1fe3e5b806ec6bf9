-- A build over a store of which no call fails, and the processes that it runs.
use Rattle.std.specs.Prelude.{◌≡◌, ◌⊎◌, ℕ, ◌+◌, Bool, true, false, List, [], ◌∷◌, ◌++◌, length, if◌then◌else◌}
use Rattle.bx_tree.specs.Trees.{Files}
use Rattle.bx_io.specs.Holdings.{Holdings}
use Rattle.pip_model_types.specs.declared.desc.Desc.{Desc}
use Rattle.pip_model_types.specs.declared.pip.Pip.{Pip}
use Rattle.pip_model_types.specs.declared.pip.PipKind.{PipKind}
use Rattle.pip_model_types.specs.declared.pip.PipKind.TheVariants.{Process, Copy, Write, Seal}
use Rattle.observed.specs.declared.ask.Ask.{Ask}
use Rattle.observed.specs.declared.access.Answer.{Answer}
use Rattle.run_record.specs.declared.outcome.Outcome.{Outcome}
use Rattle.run_record.specs.declared.outcome.Outcome.TheVariants.{Good}
use Rattle.run_record.specs.Digests.{IsReadBack}
use Rattle.memo_format.specs.Found.{FoundParts}
use Rattle.two_phase_meaning.specs.Usable.{Usable}
use Rattle.two_phase.specs.Lookups.{LeadsIn}
use Rattle.violations.specs.declared.verdict.Verdict.TheVariants as verdicts
use Rattle.one_thread.specs.OneThread.{Result, by_outcome, failed, inputs_are_good, made_by, ran, worked}
use Rattle.retire_compared.specs.Compared.{desc_after, inputs_after, view_after}
use Rattle.sched_board_slots.specs.Slots.{slot_at}
use Rattle.sched_board_slots.specs.declared.held.Held.{Held}
use Rattle.retire.specs.Accepting.{IsAccepted}

-- How a process comes to its outcome: by the run in its slot, where that is its run now; else by what a usable
-- selector leads to; or, as nothing is usable, by its run.
pub data TakesOver (S : Holdings) (d : Desc) (see : Ask → Answer) (slot : Held) (outcome : Outcome) (missed : Bool) : Type 0 where
  accepted : IsAccepted d see slot → outcome ≡ ran d see → missed ≡ true → TakesOver S d see slot outcome missed
  hit : (found : FoundParts) → (IsAccepted d see slot → ⊥) → LeadsIn S d see found → IsReadBack d → outcome ≡ Good found.made
      → missed ≡ false → TakesOver S d see slot outcome missed
  miss : (IsAccepted d see slot → ⊥) → (Usable S d see → ⊥) → outcome ≡ ran d see → missed ≡ true
      → TakesOver S d see slot outcome missed

-- ## One pip, where these are the results of the pips before it

-- what process i comes to, where the first pips made these files, and whether its tool runs
pub record ProcessOver (pips : List Pip) (tree : Files) (made : List Files) (i : ℕ) (S : Holdings) (d : Desc)
    (see : Ask → Answer) (slot : Held) (result : Result) (missed : Bool) : Type 0 where
  pub outcome : Outcome
  pub takes : TakesOver S d see slot outcome missed
  pub result_is : result ≡ by_outcome pips tree made i outcome

-- what a pip comes to whose inputs succeeded
abbrev pub WorksOver : List Pip → Files → ℕ → Holdings → Held → List Result → ℕ → PipKind → Result → Bool → Type 0
WorksOver pips tree budget S slot results i (Process d) result missed =
    ProcessOver pips tree (made_by results) i S (desc_after pips tree budget results d)
    (view_after pips tree results i d) slot result missed
WorksOver pips tree budget S slot results i (Copy d) result missed =
    (result ≡ worked pips tree budget (made_by results) (inputs_after pips (Copy d) results) i (Copy d))
    × (missed ≡ false)
WorksOver pips tree budget S slot results i (Write d) result missed =
    (result ≡ worked pips tree budget (made_by results) (inputs_after pips (Write d) results) i (Write d))
    × (missed ≡ false)
WorksOver pips tree budget S slot results i (Seal d) result missed =
    (result ≡ worked pips tree budget (made_by results) (inputs_after pips (Seal d) results) i (Seal d))
    × (missed ≡ false)

-- what a pip comes to: one with an input that did not succeed is skipped
abbrev pub ComesOver : List Pip → Files → ℕ → Holdings → Held → List Result → ℕ → PipKind → Result → Bool → Type 0
ComesOver pips tree budget S slot results i kind result missed =
    ((inputs_are_good pips kind results ≡ true) × WorksOver pips tree budget S slot results i kind result missed)
    ⊎ ((inputs_are_good pips kind results ≡ false) × (result ≡ failed verdicts.Skipped) × (missed ≡ false))

abbrev pub number_if : Bool → ℕ → List ℕ
number_if missed i = if missed then i ∷ [] else []

-- ## All pips

-- the processes that run, of the pips from number i on
abbrev pub RunsFrom : List Pip → Files → ℕ → Holdings → List Held → List Result → ℕ → List Pip → List ℕ → Type 0
RunsFrom pips tree budget S slots results i [] numbers = numbers ≡ []
RunsFrom pips tree budget S slots results i (pip ∷ left) numbers =
    (result : Result) × (missed : Bool) × (rest : List ℕ)
    × ComesOver pips tree budget S (slot_at slots i) results i pip.kind result missed × (numbers ≡ number_if missed i ++ rest)
    × RunsFrom pips tree budget S slots (results ++ result ∷ []) (i + 1) left rest

-- These are the numbers of the processes that a build of these pips over this store runs, where no call of the store
-- fails and workers had filled these slots before: those whose slot is accepted, and those for which nothing is usable. The store may be
-- any: it need not be honest.
abbrev pub RunsWith : List Pip → Files → ℕ → Holdings → List Held → List ℕ → Type 0
RunsWith pips tree budget S slots numbers = RunsFrom pips tree budget S slots [] 0 pips numbers

-- So many run.
abbrev pub RunsSome : List Pip → Files → ℕ → Holdings → List Held → ℕ → Type 0
RunsSome pips tree budget S slots ran =
    (numbers : List ℕ) × RunsWith pips tree budget S slots numbers × (length numbers ≡ ran)

-- Without slots: just those run that are not skipped and for which nothing is usable.
abbrev pub RunsOver : List Pip → Files → ℕ → Holdings → List ℕ → Type 0
RunsOver pips tree budget S numbers = RunsWith pips tree budget S [] numbers

-- what a process has for a slot where there are none
abbrev pub no_slot : Held
no_slot = slot_at [] 0

-- What a build keeps of the pips that it went through, as results.
use Rattle.std.specs.Prelude.{◌≡◌, ℕ, Bool, true, false, List, [], ◌∷◌, map, Option, Some, None}
use Rattle.std.specs.Prelude.{if◌then◌else◌, slice_get}
use Rattle.std.specs.List.{list_all}
use Rattle.bx_tree.specs.Trees.{Files}
use Rattle.pip_model_types.specs.declared.made.Slot.{Slot}
use Rattle.pip_model_types.specs.declared.made.Slot.TheVariants as slots
use Rattle.pip_model_types.specs.declared.pip.Pip.{Pip}
use Rattle.pip_model_types.specs.declared.pip.PipKind.{PipKind}
use Rattle.pip_model.specs.Edges.{targets}
use Rattle.violations.specs.Slots.{slot_files}
use Rattle.pip_view_inputs.specs.Results.{ByPip, inputs_of}
use Rattle.violations.specs.Verdicts.{is_success}
use Rattle.violations.specs.declared.verdict.Verdict.{Verdict}
use Rattle.violations.specs.declared.verdict.Verdict.TheVariants as verdicts
use Rattle.one_thread.specs.OneThread.{Result, failed, worked}
use Rattle.one_thread.specs.declared.ended.PipResult.{PipResult}

-- ## Results

abbrev pub result_in : Verdict → Slot → Result
result_in verdict slot = record { verdict = verdict; files = slot_files slot }

-- verdicts with the files in the slots at their places
abbrev pub results_of : List Verdict → List Slot → List Result
results_of [] ss = []
results_of (verdict ∷ rest) [] = []
results_of (verdict ∷ rest) (slot ∷ ss) = result_in verdict slot ∷ results_of rest ss

abbrev pub ended_result : PipResult → Result
ended_result ended = result_in ended.verdict ended.slot

-- ## Slots

abbrev pub is_good_slot : Slot → Bool
is_good_slot slots.Empty = false
is_good_slot (slots.Good files) = true
is_good_slot slots.Bad = false

abbrev pub good_in : Option Slot → Bool
good_in None = false
good_in (Some slot) = is_good_slot slot

-- the slot is that of a pip that succeeded exactly where the verdict says so
abbrev pub Agrees : PipResult → Type 0
Agrees ended = is_good_slot ended.slot ≡ is_success ended.verdict

-- each slot is that of a pip that succeeded exactly where its verdict says so
abbrev pub AllAgree : List Verdict → List Slot → Type 0
AllAgree vs ss = map is_good_slot ss ≡ map is_success vs

-- ## By slots

-- whether each pip for which a pip of this kind waits succeeded
abbrev pub slots_are_good : List Pip → PipKind → List Slot → Bool
slots_are_good pips kind ss = list_all (λ j. good_in (slice_get ss j)) (targets pips kind)

abbrev pub good_at : List Pip → Option Pip → List Slot → Bool
good_at pips None ss = false
good_at pips (Some pip) ss = slots_are_good pips pip.kind ss

-- what a pip comes to whose inputs succeeded
abbrev pub worked_in : List Pip → Files → ℕ → List Files → ByPip → ℕ → Option Pip → Result
worked_in pips tree budget made inputs i None = failed verdicts.Skipped
worked_in pips tree budget made inputs i (Some pip) = worked pips tree budget made inputs i pip.kind

-- what pip i of this kind comes to, where the pips before it left these slots
abbrev pub kind_ended : List Pip → Files → ℕ → List Slot → ℕ → PipKind → Result
kind_ended pips tree budget ss i kind =
    if slots_are_good pips kind ss
    then worked pips tree budget (map slot_files ss) (inputs_of pips kind (map slot_files ss)) i kind
    else failed verdicts.Skipped

abbrev pub ended_in : List Pip → Files → ℕ → List Slot → ℕ → Option Pip → Result
ended_in pips tree budget ss i None = failed verdicts.Skipped
ended_in pips tree budget ss i (Some pip) = kind_ended pips tree budget ss i pip.kind

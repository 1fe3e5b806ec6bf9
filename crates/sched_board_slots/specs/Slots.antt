-- What the slot of a pip may hold, by the board's own description, view and plain results.
use Rattle.std.specs.Prelude.{◌≡◌, ℕ, Bool, true, false, List, [], map, Option, Some, None, slice_get}
use Rattle.std.specs.List.{slice_index_or}
use Rattle.bx_tree.specs.Trees.{Files}
use Rattle.pip_model_types.specs.declared.desc.Desc.{Desc}
use Rattle.pip_model_types.specs.declared.pip.ProcessDesc.{ProcessDesc}
use Rattle.pip_model.specs.Plans.{PlanData}
use Rattle.observed.specs.declared.ask.Ask.{Ask}
use Rattle.observed.specs.declared.access.Answer.{Answer}
use Rattle.pip_view_inputs.specs.Plain.{desc_of, plain_at, process_in}
use Rattle.pip_view_inputs.specs.Results.{ByPip, inputs_at}
use Rattle.pip_view.specs.Sees.{sees}
use Rattle.run_record.specs.Digests.{IsReadBack, digest_asked, digest_of_line, weak_of}
use Rattle.run_record.specs.Facts.{Facts, Sound}
use Rattle.run_record.specs.Matches.{Compares}
use Rattle.run_record.specs.declared.matching.Match.TheVariants as matching
use Rattle.two_phase_meaning.specs.Saving.{outcome_files}
use Rattle.run_record.specs.declared.outcome.Outcome.{Outcome}
use Rattle.run_record.specs.declared.outcome.Outcome.TheVariants.{Good, Failed}
use Rattle.memo_format.specs.Found.{FoundParts, IsFoundFor, output_lines}
use Rattle.sched_core.specs.declared.state.PipState.{PipState}
use Rattle.sched_core.specs.declared.state.PipState.TheVariants as state
use Rattle.sched_core.specs.Table.{state_at}
use Rattle.sched_board_slots.specs.declared.held.Held.{Held}
use Rattle.sched_board_slots.specs.declared.held.Held.TheVariants as held

-- ## What slots say

-- a slot that is not there reads as skipped
abbrev pub slot_at : List Held → ℕ → Held
slot_at slots pip = slice_index_or slots pip held.Skipped

abbrev pub is_good_outcome : Outcome → Bool
is_good_outcome (Good files) = true
is_good_outcome (Failed cause) = false

-- the files that a pip made whose slot this is; one that did not succeed made none
abbrev pub held_files : Held → Files
held_files held.Empty = []
held_files (held.Ran facts) = outcome_files facts.outcome
held_files (held.Hit found) = found.made
held_files (held.Plain made) = made
held_files held.Skipped = []

-- whether the slot is that of a pip that succeeded
abbrev pub is_good_held : Held → Bool
is_good_held held.Empty = false
is_good_held (held.Ran facts) = is_good_outcome facts.outcome
is_good_held (held.Hit found) = true
is_good_held (held.Plain made) = true
is_good_held held.Skipped = false

-- ## The board's own

-- what the inputs of a pip made, by the slots. No other slot is looked at.
abbrev pub own_inputs : PlanData → List Held → ℕ → ByPip
own_inputs plan slots pip = inputs_at plan.pips pip (map held_files slots)

-- the process that a pip is, with the contents of its files, where its inputs made these files
abbrev pub own_desc : PlanData → Files → ByPip → ProcessDesc → Desc
own_desc plan tree inputs process = desc_of tree inputs plan.tool_budget process

-- what a process sees
abbrev pub own_view : PlanData → Files → ByPip → ℕ → Ask → Answer
own_view plan tree inputs pip = sees plan.pips tree inputs pip

-- what a copy, write or seal pip makes
abbrev pub own_plain : PlanData → Files → ByPip → ℕ → Files
own_plain plan tree inputs pip = plain_at plan.pips tree inputs pip

-- ## Agreement by digest

-- A record agrees with a process and what it sees: its weak text and the lines of its answers have the same digests.
abbrev pub RecordAgrees : Desc → (Ask → Answer) → Facts → Type 0
RecordAgrees desc see facts = Compares desc facts see matching.Same

-- What was found agrees: its entry is of the weak text, and the lines of its answers have the same digests.
abbrev pub FoundAgrees : Desc → (Ask → Answer) → FoundParts → Type 0
FoundAgrees desc see found =
    (found.entry.weak ≡ weak_of desc) × (map digest_of_line found.answers ≡ map (digest_asked see) found.paths)

-- Files agree: they have the same paths, and contents of the same digests.
abbrev pub FilesAgree : Files → Files → Type 0
FilesAgree files others = output_lines files ≡ output_lines others

-- ## Agreement byte by byte

-- What was found holds: it was found for this process, and has what the process sees.
pub record HitHolds (desc : Desc) (see : Ask → Answer) (found : FoundParts) : Type 0 where
  pub found_for : IsFoundFor found desc
  pub answers : found.answers ≡ map see found.paths

-- ## What may stand in a slot

-- A sound record of the process of this pip that agrees with the board's own. The weak texts of both descriptions are read
-- back as they were written, so that descriptions with one weak text are one.
abbrev pub IsOwnRecord : PlanData → Files → ByPip → ℕ → Facts → Option ProcessDesc → Type 0
IsOwnRecord plan tree inputs pip facts None = ⊥
IsOwnRecord plan tree inputs pip facts (Some process) =
    Sound facts × IsReadBack facts.desc × IsReadBack (own_desc plan tree inputs process)
    × RecordAgrees (own_desc plan tree inputs process) (own_view plan tree inputs pip) facts

abbrev pub IsOwnFound : PlanData → Files → ByPip → ℕ → FoundParts → Option ProcessDesc → Type 0
IsOwnFound plan tree inputs pip found None = ⊥
IsOwnFound plan tree inputs pip found (Some process) =
    IsReadBack (own_desc plan tree inputs process)
    × FoundAgrees (own_desc plan tree inputs process) (own_view plan tree inputs pip) found

abbrev pub IsOwnPlain : PlanData → Files → ByPip → ℕ → Files → Option ProcessDesc → Type 0
IsOwnPlain plan tree inputs pip made (Some process) = ⊥
IsOwnPlain plan tree inputs pip made None = FilesAgree made (own_plain plan tree inputs pip)

-- The slot holds a result of the pip, of this goodness, that agrees with the board's own, where the pip's inputs made these files.
abbrev pub HoldsOn : PlanData → Files → ByPip → ℕ → Bool → Held → Type 0
HoldsOn plan tree inputs pip good held.Empty = ⊥
HoldsOn plan tree inputs pip good (held.Ran facts) =
    (is_good_outcome facts.outcome ≡ good) × IsOwnRecord plan tree inputs pip facts (process_in (slice_get plan.pips pip))
HoldsOn plan tree inputs pip good (held.Hit found) =
    (good ≡ true) × IsOwnFound plan tree inputs pip found (process_in (slice_get plan.pips pip))
HoldsOn plan tree inputs pip good (held.Plain made) =
    (good ≡ true) × IsOwnPlain plan tree inputs pip made (process_in (slice_get plan.pips pip))
HoldsOn plan tree inputs pip good held.Skipped = ⊥

-- the same by the slots of the pip's inputs
abbrev pub HoldsOwn : PlanData → Files → List Held → ℕ → Bool → Held → Type 0
HoldsOwn plan tree slots pip good slot = HoldsOn plan tree (own_inputs plan slots pip) pip good slot

-- The slot of a pip in this state: a result where it is published or done, Skipped where it is skipped, and Empty elsewhere.
abbrev pub FitsState : PlanData → Files → List Held → ℕ → PipState → Held → Type 0
FitsState plan tree slots pip state.Waiting slot = slot ≡ held.Empty
FitsState plan tree slots pip (state.Held w) slot = slot ≡ held.Empty
FitsState plan tree slots pip (state.Looked w hit) slot = slot ≡ held.Empty
FitsState plan tree slots pip (state.Published w good) slot = HoldsOwn plan tree slots pip good slot
FitsState plan tree slots pip (state.Done good) slot = HoldsOwn plan tree slots pip good slot
FitsState plan tree slots pip state.Skipped slot = slot ≡ held.Skipped

abbrev pub AllFit : PlanData → Files → List PipState → List Held → Type 0
AllFit plan tree states slots = (pip : ℕ) → FitsState plan tree slots pip (state_at states pip) (slot_at slots pip)

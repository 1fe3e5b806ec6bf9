-- What the slots of a board come to against the sequential build.
use Rattle.std.specs.Prelude.{◌≡◌, ◌⊎◌, ℕ, true, List, map, Option, Some, None, slice_get}
use Rattle.bx_tree.specs.Trees.{Files}
use Rattle.bx_tree.specs.Members.{Has}
use Rattle.bx_io.specs.Holdings.{Holdings}
use Rattle.pip_model_types.specs.declared.desc.Desc.{Desc}
use Rattle.pip_model_types.specs.declared.pip.Pip.{Pip}
use Rattle.pip_model_types.specs.declared.pip.PipKind.{PipKind}
use Rattle.pip_model_types.specs.declared.pip.PipKind.TheVariants.{Process, Copy, Write, Seal}
use Rattle.pip_model_types.specs.declared.pip.ProcessDesc.{ProcessDesc}
use Rattle.pip_model.specs.Plans.{PlanData}
use Rattle.observed.specs.Texts.{has_match}
use Rattle.observed.specs.declared.ask.Ask.{Ask}
use Rattle.observed.specs.declared.access.Answer.{Answer}
use Rattle.prints.specs.Strong.{strong_parts}
use Rattle.run_record.specs.Collisions.{AreOfAnswers, IsOfDesc, NoCollision, contents_of}
use Rattle.run_record.specs.declared.outcome.Outcome.{Outcome}
use Rattle.run_record.specs.declared.outcome.Outcome.TheVariants.{Good, Failed}
use Rattle.memo_format.specs.Found.{FoundParts, output_lines}
use Rattle.memo_format.specs.StoreNames.{HoldsEntry}
use Rattle.two_phase_meaning.specs.Compared.{own_paths}
use Rattle.two_phase_meaning.specs.Contents.{HoldsPaths, HoldsStrong}
use Rattle.two_phase_meaning.specs.Honest.{Honest}
use Rattle.two_phase_meaning.specs.Saving.{outcome_files}
use Rattle.pip_view_inputs.specs.Plain.{plain_of}
use Rattle.violations.specs.declared.verdict.Verdict.TheVariants as verdicts
use Rattle.violations.specs.declared.verdict.Violation.{Violation}
use Rattle.violations.specs.declared.verdict.ViolationKind.TheVariants as violations
use Rattle.one_thread.specs.OneThread.{Result, by_cause, failed, inputs_are_good, one_thread, process_outcome, succeeded}
use Rattle.retire_compared.specs.Compared.{Compared, desc_after, inputs_after, view_after}
use Rattle.sched_core.specs.declared.state.PipState.{PipState}
use Rattle.sched_core.specs.declared.state.PipState.TheVariants as state
use Rattle.sched_core.specs.Table.{state_at}
use Rattle.sched_board_slots.specs.Slots.{slot_at}
use Rattle.sched_board_slots.specs.declared.held.Held.{Held}
use Rattle.sched_board_slots.specs.declared.held.Held.TheVariants as held

-- ## The sequential build

abbrev pub sequential : PlanData → Files → List Result
sequential plan tree = one_thread plan.pips tree plan.tool_budget

-- the sequential build does not skip a pip of this kind
abbrev pub IsNotSkipped : PlanData → Files → PipKind → Type 0
IsNotSkipped plan tree kind = inputs_are_good plan.pips kind (sequential plan tree) ≡ true

-- a process with the contents of its files, and what it sees, where the inputs are those of the sequential build
abbrev pub sequential_desc : PlanData → Files → ProcessDesc → Desc
sequential_desc plan tree d = desc_after plan.pips tree plan.tool_budget (sequential plan tree) d

abbrev pub sequential_view : PlanData → Files → ℕ → ProcessDesc → Ask → Answer
sequential_view plan tree pip d = view_after plan.pips tree (sequential plan tree) pip d

-- what a pip comes to that the sequential build does not skip, before double writes are looked for
abbrev pub sequential_outcome : PlanData → Files → ℕ → PipKind → Outcome
sequential_outcome plan tree pip (Process d) =
    process_outcome plan.pips tree plan.tool_budget (inputs_after plan.pips (Process d) (sequential plan tree)) pip d
sequential_outcome plan tree pip (Copy d) =
    Good (plain_of tree (inputs_after plan.pips (Copy d) (sequential plan tree)) (Copy d))
sequential_outcome plan tree pip (Write d) =
    Good (plain_of tree (inputs_after plan.pips (Write d) (sequential plan tree)) (Write d))
sequential_outcome plan tree pip (Seal d) =
    Good (plain_of tree (inputs_after plan.pips (Seal d) (sequential plan tree)) (Seal d))

-- ## Hits

-- The store holds the entry of what was found under the entry's own strong digest, the files are just the entry's, and the
-- path set and the strong text that the entry names are held and say this path set and, in its version, these answers.
pub record IsHitOf (S : Holdings) (found : FoundParts) : Type 0 where
  pub entry : HoldsEntry S found.entry
  pub made : output_lines found.made ≡ found.entry.outputs
  pub paths : HoldsPaths S found.entry.paths found.paths
  pub strong : HoldsStrong S found.entry.strong
      (strong_parts (has_match found.paths) found.entry.weak found.entry.paths found.answers)

abbrev pub HitsAreOf : Holdings → List Held → Type 0
HitsAreOf S slots = (pip : ℕ) (found : FoundParts) → slot_at slots pip ≡ held.Hit found → IsHitOf S found

-- ## What is compared

-- the contents, the weak text and the lines of answers of a slot
abbrev pub IsOfSlot : Held → List ℕ → Type 0
IsOfSlot held.Empty x = ⊥
IsOfSlot (held.Ran facts) x =
    IsOfDesc facts.desc x ⊎ (AreOfAnswers facts.answers x ⊎ Has (contents_of (outcome_files facts.outcome)) x)
IsOfSlot (held.Hit found) x = AreOfAnswers found.answers x ⊎ Has (contents_of found.made) x
IsOfSlot (held.Plain made) x = Has (contents_of made) x
IsOfSlot held.Skipped x = ⊥

-- the contents, the weak text and the lines of answers of the run of a process
abbrev pub IsOfRun : Desc → (Ask → Answer) → List ℕ → Type 0
IsOfRun d see x = IsOfDesc d x ⊎ AreOfAnswers (map see (own_paths d see)) x

-- What is compared where a board's slots are held against the sequential build: all that a build over the store compares; the
-- files that the pips of the sequential build made; what the runs of that build are of; and what the slots are of.
pub data ComparedWithSlots (plan : PlanData) (tree : Files) (S : Holdings) (slots : List Held) (x : List ℕ) : Type 0 where
  build : Compared plan.pips tree plan.tool_budget S x → ComparedWithSlots plan tree S slots x
  made : (pip : ℕ) (result : Result) → slice_get (sequential plan tree) pip ≡ Some result → Has (contents_of result.files) x
      → ComparedWithSlots plan tree S slots x
  run : (pip : ℕ) (p : Pip) (d : ProcessDesc) → slice_get plan.pips pip ≡ Some p → p.kind ≡ Process d → IsNotSkipped plan tree (Process d)
      → IsOfRun (sequential_desc plan tree d) (sequential_view plan tree pip d) x → ComparedWithSlots plan tree S slots x
  slot : (pip : ℕ) → IsOfSlot (slot_at slots pip) x → ComparedWithSlots plan tree S slots x

-- ## What follows

-- what a filled slot says that its pip came to
abbrev pub held_outcome : Held → Option Outcome
held_outcome held.Empty = None
held_outcome (held.Ran facts) = Some facts.outcome
held_outcome (held.Hit found) = Some (Good found.made)
held_outcome (held.Plain files) = Some (Good files)
held_outcome held.Skipped = None

abbrev pub FailsByDoubleWrite : Result → Type 0
FailsByDoubleWrite result =
    (violation : Violation) × (result ≡ failed (verdicts.Violated violation)) × (violation.kind ≡ violations.DoubleWrite)

-- the result is this outcome, but where the pip fails by a double write
abbrev pub IsResultOf : PlanData → Files → ℕ → Outcome → Result → Type 0
IsResultOf plan tree pip (Good files) result = (result ≡ succeeded files) ⊎ FailsByDoubleWrite result
IsResultOf plan tree pip (Failed cause) result = result ≡ by_cause plan.pips tree pip cause

-- The slots hold what the sequential build gives: a filled slot of a pip that this build does not skip holds the pip's result,
-- or what the pip comes to before double writes are looked for; and each pip that the board skips this build skips. Nothing is
-- said of the slots of pips that it skips.
pub record FollowsSequential (plan : PlanData) (tree : Files) (states : List PipState) (slots : List Held) : Type 0 where
  pub outcome : (pip : ℕ) (p : Pip) (o : Outcome) → slice_get plan.pips pip ≡ Some p → IsNotSkipped plan tree p.kind
      → held_outcome (slot_at slots pip) ≡ Some o → o ≡ sequential_outcome plan tree pip p.kind
  pub result : (pip : ℕ) (p : Pip) (o : Outcome) (r : Result) → slice_get plan.pips pip ≡ Some p → IsNotSkipped plan tree p.kind
      → held_outcome (slot_at slots pip) ≡ Some o → slice_get (sequential plan tree) pip ≡ Some r → IsResultOf plan tree pip o r
  pub skipped : (pip : ℕ) (r : Result) → slice_get (sequential plan tree) pip ≡ Some r → state_at states pip ≡ state.Skipped
      → r.verdict ≡ verdicts.Skipped

-- Where each slot Hit is of an honest store, and no two of what is compared share a digest, the slots hold what the sequential
-- build gives.
abbrev pub HoldsOneThread : PlanData → Files → List PipState → List Held → Type 0
HoldsOneThread plan tree states slots = (S : Holdings) → Honest S → HitsAreOf S slots → NoCollision (ComparedWithSlots plan tree S slots)
    → FollowsSequential plan tree states slots

-- What a publication answers, and what it changes.
use Rattle.std.specs.Prelude.{◌≡◌, ◌≢◌, ◌⊎◌, ℕ, ◌+◌, Bool, true, false, not, List, map, Option, Some, None, Result, Ok, Err, slice_get}
use Rattle.bx_tree.specs.Trees.{Files}
use Rattle.pip_model.specs.Plans.{PlanData}
use Rattle.pip_model_types.specs.declared.pip.ProcessDesc.{ProcessDesc}
use Rattle.pip_view_inputs.specs.Plain.{process_in}
use Rattle.pip_view_inputs.specs.Results.{ByPip}
use Rattle.pip_model_types.specs.declared.desc.Desc.{Desc}
use Rattle.observed.specs.declared.ask.Ask.{Ask}
use Rattle.observed.specs.declared.access.Answer.{Answer}
use Rattle.run_record.specs.Digests.{IsReadBack, digest_asked, digest_of_line, weak_of}
use Rattle.run_record.specs.Facts.{Facts, Sound}
use Rattle.run_record.specs.Matches.{Compares, FirstDiffer}
use Rattle.run_record.specs.declared.matching.Match.TheVariants as matching
use Rattle.memo_format.specs.Found.{FoundParts, output_lines, outputs_digest}
use Rattle.sched_core.specs.declared.event.Event.TheVariants as event
use Rattle.sched_board.specs.Board.{BoardData, CanComplete, Difference, JobData, ShareData, filled, one_more}
use Rattle.sched_board_slots.specs.Slots.{HoldsOn, HoldsOwn, is_good_held, own_desc, own_inputs, own_plain, own_view}
use Rattle.sched_board_slots.specs.declared.held.Held.{Held}
use Rattle.sched_board_slots.specs.declared.held.Held.TheVariants as held
use Rattle.sched_board.specs.declared.answers.PublishFault.{PublishFault}
use Rattle.sched_board.specs.declared.answers.PublishFault.TheVariants as fault
use Rattle.sched_board.specs.declared.shown.Shown.{Shown}
use Rattle.sched_board.specs.declared.shown.Shown.TheVariants as shown

-- the slot that holds what was shown
abbrev pub slot_of : Shown → Held
slot_of (shown.Ran facts) = held.Ran facts
slot_of (shown.Hit found) = held.Hit found
slot_of (shown.Plain made) = held.Plain made

-- what is shown fits the kind of a pip and what was said of its lookup
abbrev pub fits_told : Bool → Option Bool → Shown → Bool
fits_told true (Some true) (shown.Hit found) = true
fits_told true (Some false) (shown.Ran facts) = true
fits_told false None (shown.Plain made) = true
fits_told is_process looked s = false

-- what is shown fits what the job tells
abbrev pub fits_job : JobData → Shown → Bool
fits_job job s = fits_told job.is_process job.looked s

-- what is shown fits the kind of a pip
abbrev pub fits_kind : Bool → Shown → Bool
fits_kind is_process (shown.Ran facts) = is_process
fits_kind is_process (shown.Hit found) = is_process
fits_kind is_process (shown.Plain made) = not is_process

-- What is shown first differs from the board's own here: in the digest of the description; else at the first ask whose
-- answer has a line of another digest.
abbrev pub DiffersAt : List ℕ → List ℕ → List (List ℕ) → List (List ℕ) → Difference → Type 0
DiffersAt weak weak' lines lines' d =
    ((weak ≢ weak') × (d ≡ record { index = 0; held = weak; own = weak' }))
    ⊎ ((weak ≡ weak') × (k : ℕ) × (d.index ≡ k + 1) × FirstDiffer lines lines' k d.held d.own)

-- What is shown of a pip, whose inputs made these files and which is this process or none, differs from the board's own here.
abbrev pub ShownDiffers : PlanData → Files → ByPip → ℕ → Shown → Difference → Option ProcessDesc → Type 0
ShownDiffers plan tree inputs pip (shown.Ran facts) d (Some process) =
    DiffersAt (weak_of facts.desc) (weak_of (own_desc plan tree inputs process))
    (map digest_of_line facts.answers) (map (digest_asked (own_view plan tree inputs pip)) facts.paths) d
ShownDiffers plan tree inputs pip (shown.Hit found) d (Some process) =
    DiffersAt found.entry.weak (weak_of (own_desc plan tree inputs process))
    (map digest_of_line found.answers) (map (digest_asked (own_view plan tree inputs pip)) found.paths) d
ShownDiffers plan tree inputs pip (shown.Plain made) d None =
    (output_lines made ≢ output_lines (own_plain plan tree inputs pip))
    × (d ≡ record { index = 0; held = outputs_digest made; own = outputs_digest (own_plain plan tree inputs pip) })
ShownDiffers plan tree inputs pip s d process = ⊥

-- How the record of a run compares with a process and a view: it agrees, and both weak texts read back, or differs so.
abbrev pub ComparedRun : Desc → (Ask → Answer) → Facts → Option Difference → Type 0
ComparedRun own see facts None = Sound facts × IsReadBack own × IsReadBack facts.desc × Compares own facts see matching.Same
ComparedRun own see facts (Some d) =
    ((d.index ≡ 0) × Compares own facts see (matching.OtherDesc d.held d.own))
    ⊎ ((k : ℕ) × (d.index ≡ k + 1) × Compares own facts see (matching.Differs k d.held d.own))

-- How what a lookup found compares with a process and a view: it agrees, and the process's weak text reads back, or it differs so.
abbrev pub ComparedHit : Desc → (Ask → Answer) → FoundParts → Option Difference → Type 0
ComparedHit own see found None =
    IsReadBack own × (found.entry.weak ≡ weak_of own) × (map digest_of_line found.answers ≡ map (digest_asked see) found.paths)
ComparedHit own see found (Some d) =
    DiffersAt found.entry.weak (weak_of own) (map digest_of_line found.answers) (map (digest_asked see) found.paths) d

-- What is shown agrees with the board's own, or differs so.
abbrev pub Compared : PlanData → Files → ByPip → ℕ → Shown → Option Difference → Type 0
Compared plan tree inputs pip s None = HoldsOn plan tree inputs pip (is_good_held (slot_of s)) (slot_of s)
Compared plan tree inputs pip s (Some d) = ShownDiffers plan tree inputs pip s d (process_in (slice_get plan.pips pip))

-- Published: just what was shown stands in the pip's slot, and the event is made; refused: it differs, at the first place, with
-- both digests, and nothing changes; or there was no memory, and nothing changes. A refusal hands the job back.
abbrev pub Publishes : {L E : Type 0} → BoardData → ShareData → JobData → Shown → Result ℕ (PublishFault L E) → BoardData → ShareData → Type 0
Publishes b share job s (Ok pip) b' share' =
    (pip ≡ job.pip) × HoldsOwn b.plan b.sources b.slots job.pip (is_good_held (slot_of s)) (slot_of s)
    × (b' ≡ filled b (event.Publish job.pip share.worker (is_good_held (slot_of s))) (slot_of s))
    × (share' ≡ one_more share) × CanComplete b' share' pip
Publishes b share job s (Err (fault.Refused job' unlike)) b' share' =
    (job' ≡ job) × Compared b.plan b.sources (own_inputs b.plan b.slots job.pip) job.pip s (Some unlike) × (b' ≡ b) × (share' ≡ share)
Publishes b share job s (Err (fault.Memory job')) b' share' = (job' ≡ job) × (b' ≡ b) × (share' ≡ share)

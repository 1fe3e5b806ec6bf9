-- What the notes of a build count, and what a build writes whatever its store.
use Rattle.std.specs.Prelude.{◌≡◌, ◌⊎◌, ℕ, ◌+◌, ◌*◌, ◌≤◌, Bool, true, false, List, [], ◌∷◌, ◌++◌, length, Option, Some}
use Rattle.std.specs.Prelude.{if◌then◌else◌}
use Rattle.std.specs.List.{list_all}
use Rattle.bx_tree.specs.Bundle.{bundle}
use Rattle.bx_tree.specs.Trees.{Files}
use Rattle.bx_io.specs.Holdings.{Holdings, held_in}
use Rattle.bx_engine_words.specs.Words.{workers_in}
use Rattle.bx_engine_words.specs.declared.order.Order.{Order}
use Rattle.build_report.specs.Notes.{notes_text}
use Rattle.build_report.specs.Reports.{report_text}
use Rattle.build_report.specs.declared.counts.Counts.{Counts}
use Rattle.build_report.specs.declared.counts.GraphLine.TheVariants.{Hit}
use Rattle.pip_model_types.specs.declared.pip.Pip.{Pip}
use Rattle.one_thread.specs.OneThread.{Result, run_count, verdicts_of}
use Rattle.retire.specs.Builds.{LeavesUsable}
use Rattle.retire.specs.Counts.{CountsWithin}
use Rattle.violations.specs.Verdicts.{is_success}
use Rattle.violations.specs.declared.verdict.Verdict.{Verdict}
use Rattle.bx_engine.specs.Calls.{Call, StoreChange, Written}
use Rattle.bx_engine.specs.Known.{Appends}
use Rattle.bx_engine.specs.Ending.{Ending, InputRefused, SpecificationRefused, Built, report_path, status_of}
use Rattle.bx_engine.specs.Ends.{AreSources, Ends}
use Rattle.bx_engine.specs.Expected.{AppendsOrFails, limits_of}
use Rattle.bx_engine.specs.Stores.{AsksFor, FairGraphStore, KeepRulesOf, TellsLine, uses_store}
use Rattle.bx_engine.specs.declared.status.Status.{Status}
use Rattle.bx_engine.specs.declared.status.Status.TheVariants as statuses

-- ## Over any store

-- The late runs are among those that ran, and no more workers starve than there are. Where the keeper has a
-- bound, at most as many faults are counted as its count rose by and as its readers may count, of which each
-- worker has one and the thread that collects the results another; where no fault is counted, the store's count
-- did not rise; and where the store is not used, no hit and no fault is counted.
pub record AreCounts (cached : Bool) (workers : ℕ) (change : StoreChange) (counts : Counts) : Type 0 where
  pub some_late : counts.late ≤ counts.ran
  pub few_starved : counts.starved ≤ workers
  pub few_faults : (b : ℕ) → change.bound ≡ Some b
      → change.faults_before + counts.faults ≤ change.faults_now + b * (workers + 1)
  pub seen : counts.faults ≡ 0 → change.faults_now ≡ change.faults_before
  pub unused : cached ≡ false → (counts.hits ≡ 0) × (counts.faults ≡ 0)

-- Pips that so many workers went through: how each ended, the files that are given if all succeeded, and the
-- counts.
pub record Gone (cached : Bool) (workers : ℕ) (change : StoreChange) : Type 0 where
  pub pips : List Pip
  pub verdicts : List Verdict
  pub files : Files
  pub counts : Counts
  pub one_each : length verdicts ≡ length pips
  pub counted : AreCounts cached workers change counts
  pub hit_or_ran : counts.hits + counts.ran ≡ run_count pips verdicts

-- the text was appended to a sink, or a prefix of it and the sink's count of faults rose
abbrev pub AppendsNoted : List ℕ → Written → Type 0
AppendsNoted text sink = AppendsOrFails text sink.before sink.now sink.faults_before sink.faults_now

-- the status by how the pips ended
abbrev pub gone_status : List Verdict → Status
gone_status verdicts = if list_all is_success verdicts then statuses.Done else statuses.FailuresFound

-- the files that are given, which are none unless all pips succeeded
abbrev pub given_files : List Verdict → Files → Files
given_files verdicts files = if list_all is_success verdicts then files else []

-- the bundle of those files and of the report
abbrev pub gone_output : List Pip → List Verdict → Files → List ℕ
gone_output pips verdicts files =
    bundle (given_files verdicts files ++ (report_path, report_text pips verdicts) ∷ [])

-- The status, the output and the notes of a call are those of pips that were gone through, which keep all rules of the
-- graph, and that the input asks for, if the store of graphs is fair where they were taken from it. A line of the notes
-- says where the pips came from.
pub record IsShown (call : Call) (input : List ℕ) (order : Order) : Type 0 where
  pub gone : Gone (uses_store order) (workers_in order) call.store
  pub asked : (gone.counts.graph ≡ Some Hit → FairGraphStore order input call.graphs)
      → AsksFor (limits_of order) input gone.pips
  pub rules : KeepRulesOf input gone.pips
  pub line : TellsLine order input call.graphs gone.pips gone.counts.graph
  pub status_is : call.status ≡ gone_status gone.verdicts
  pub written : Appends call.out.before call.out.now (gone_output gone.pips gone.verdicts gone.files)
  pub noted : AppendsNoted (notes_text gone.counts) call.notes

-- ## Over a fair store

-- The counts of the build of these pips by so many workers, with these results: each process that is not skipped
-- hit or ran. The hits are at most the processes that the store would spare, and the late runs exceed the others by
-- the faults at most; and where none was counted, something is usable for each process that succeeds in the store
-- that is left.
pub record CountsOf (cached : Bool) (workers : ℕ) (pips : List Pip) (tree : Files) (budget : ℕ) (results : List Result)
    (change : StoreChange) (counts : Counts) : Type 0 where
  pub counted : AreCounts cached workers change counts
  pub hit_or_ran : counts.hits + counts.ran ≡ run_count pips (verdicts_of results)
  pub within : cached ≡ true → (S : Holdings) → held_in change.before ≡ Some S
      → CountsWithin pips tree budget S counts.hits counts.late counts.faults
  pub usable : cached ≡ true → counts.faults ≡ 0 → LeavesUsable pips tree budget change.now

-- These are the notes of an input that ends so: none of one that is refused, and the counts of a build.
abbrev pub NotesOf : Order → List ℕ → StoreChange → Option StoreChange → Ending → List ℕ → Type 0
NotesOf order input change graphs (InputRefused fault) text = text ≡ []
NotesOf order input change graphs (SpecificationRefused refusal) text = text ≡ []
NotesOf order input change graphs (Built pips results) text =
    (sources : Files) × AreSources input sources × (counts : Counts)
    × CountsOf (uses_store order) (workers_in order) pips sources (limits_of order).tool_budget results change counts
    × TellsLine order input graphs pips counts.graph × (text ≡ notes_text counts)

-- These are the notes of an order on this input, where it has this status.
pub record IsNoted (order : Order) (input : List ℕ) (change : StoreChange) (graphs : Option StoreChange) (status : Status)
    (text : List ℕ) : Type 0 where
  pub ending : Ending
  pub ends : Ends (limits_of order) input ending
  pub status_is : status ≡ status_of ending
  pub text_is : NotesOf order input change graphs ending text

-- those notes of a call were appended, or a prefix of them and the sink's count of faults rose
pub record AppendsNotes (call : Call) (input : List ℕ) (order : Order) : Type 0 where
  pub text : List ℕ
  pub noted : IsNoted order input call.store call.graphs call.status text
  pub appended : AppendsNoted text call.notes

-- ## Without a store

-- These two texts of notes have the same hits, runs and store faults, and say the same of where the pips came from.
pub record HaveSameRuns (m n : List ℕ) : Type 0 where
  pub first : Counts
  pub second : Counts
  pub first_is : m ≡ notes_text first
  pub second_is : n ≡ notes_text second
  pub hits : first.hits ≡ second.hits
  pub ran : first.ran ≡ second.ran
  pub faults : first.faults ≡ second.faults
  pub graph : first.graph ≡ second.graph

-- They are the same, or differ in their late runs and starved workers at most.
abbrev pub TellSameRuns : List ℕ → List ℕ → Type 0
TellSameRuns m n = (m ≡ n) ⊎ HaveSameRuns m n

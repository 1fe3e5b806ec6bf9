-- How a pip is decided by its slot, over a store or without one, where these are the slots of the pips before it.
use Rattle.std.specs.Prelude.{◌≡◌, ◌⊎◌, ◌&&◌, ℕ, true, false, List, [], ◌∷◌, map, Option, Some, is_some, ⊤}
use Rattle.std.specs.Prelude as prelude
use Rattle.std.specs.List.{AllByRecursion}
use Rattle.bx_tree.specs.Trees.{Files}
use Rattle.bx_tree.specs.Members.{Has}
use Rattle.bx_io.specs.Holdings.{Holdings}
use Rattle.pip_model_types.specs.declared.desc.Desc.{Desc}
use Rattle.pip_model_types.specs.declared.made.Slot.{Slot}
use Rattle.pip_model_types.specs.declared.pip.Pip.{Pip}
use Rattle.pip_model_types.specs.declared.pip.PipKind.{PipKind}
use Rattle.pip_model_types.specs.declared.pip.PipKind.TheVariants.{Process}
use Rattle.pip_model_types.specs.declared.pip.ProcessDesc.{ProcessDesc}
use Rattle.observed.specs.declared.ask.Ask.{Ask}
use Rattle.observed.specs.declared.access.Answer.{Answer}
use Rattle.run_record.specs.Facts.{Facts, Sound}
use Rattle.run_record.specs.Holding.{IsSameWork, at_desc}
use Rattle.run_record.specs.Digests.{IsReadBack}
use Rattle.two_phase_meaning.specs.Usable.{Usable}
use Rattle.two_phase.specs.Reading.{ReaderData}
use Rattle.violations.specs.Slots.{slot_files}
use Rattle.pip_view_inputs.specs.Plain.{desc_of, kind_process}
use Rattle.pip_view_inputs.specs.Results.{ByPip, inputs_of}
use Rattle.pip_view.specs.Sees.{sees}
use Rattle.violations.specs.Verdicts.{is_success}
use Rattle.violations.specs.declared.verdict.Verdict.{Verdict}
use Rattle.violations.specs.declared.verdict.Verdict.TheVariants as verdicts
use Rattle.one_thread.specs.OneThread.{Result, by_outcome, failed, made_by, one_thread, verdicts_of, worked}
use Rattle.one_thread.specs.Views.{ended_result, slots_are_good}
use Rattle.sched_board_slots.specs.declared.held.Held.{Held}
use Rattle.retire.specs.Runs.{RunsAs, SucceedsAt}
use Rattle.retire.specs.Builds.{Between}
use Rattle.retire.specs.declared.deciding.Next.{Next}
use Rattle.retire.specs.declared.taking.Taken.{Taken}
use Rattle.retire.specs.declared.taking.Way.TheVariants as ways
use Rattle.retire.specs.Taking.{IsOfNow, TakesBy, save_if, outcome_in, record_in, way_of}

-- A pip is decided without its slot and the store: it is skipped, or no process.
pub record DecidedPlainly (result : Result) (next : Next) : Type 0 where
  pub result_is : ended_result next.ended ≡ result
  pub way_is : next.way ≡ ways.Plain
  pub record_is : next.saved ≡ prelude.None

-- A process is decided by what it takes, where its inputs and the first pips made these files.
pub record DecidedBy (pips : List Pip) (tree : Files) (budget : ℕ) (reader : Option ReaderData) (slot : Held)
    (made : List Files) (inputs : ByPip) (i : ℕ) (p : ProcessDesc) (next : Next) : Type 0 where
  pub taken : Taken
  pub takes : TakesBy reader (desc_of tree inputs budget p) (sees pips tree inputs i) taken
  pub now : IsOfNow (desc_of tree inputs budget p) (sees pips tree inputs i) slot taken
  pub result_is : ended_result next.ended ≡ by_outcome pips tree made i (outcome_in taken)
  pub way_is : next.way ≡ way_of taken
  pub record_is : next.saved ≡ save_if (is_some reader && is_success next.ended.verdict) (record_in taken)

-- how pip i of this kind is decided
pub data Decides (pips : List Pip) (tree : Files) (budget : ℕ) (reader : Option ReaderData) (slot : Held) (ss : List Slot)
    (i : ℕ) (kind : PipKind) (next : Next) : Type 0 where
  skipped : slots_are_good pips kind ss ≡ false → DecidedPlainly (failed verdicts.Skipped) next
      → Decides pips tree budget reader slot ss i kind next
  plain : slots_are_good pips kind ss ≡ true → kind_process kind ≡ prelude.None
      → DecidedPlainly
      (worked pips tree budget (map slot_files ss) (inputs_of pips kind (map slot_files ss)) i kind) next
      → Decides pips tree budget reader slot ss i kind next
  process : (p : ProcessDesc) → slots_are_good pips kind ss ≡ true → kind ≡ Process p
      → DecidedBy pips tree budget reader slot (map slot_files ss)
      (inputs_of pips (Process p) (map slot_files ss)) i p next
      → Decides pips tree budget reader slot ss i kind next

-- how pip i is decided, which is there
abbrev pub DecidesAt : List Pip → Files → ℕ → Option ReaderData → Held → List Slot → ℕ → Option Pip → Next → Type 0
DecidesAt pips tree budget reader slot ss i prelude.None next = ⊥
DecidesAt pips tree budget reader slot ss i (Some pip) next = Decides pips tree budget reader slot ss i pip.kind next

-- something is usable for the process on this view, or one of the records is of it
abbrev pub IsThere : Holdings → List Facts → Desc → (Ask → Answer) → Type 0
IsThere S records d see =
    (Usable S d see × IsReadBack d)
    ⊎ ((f : Facts) × Has records f × (f.desc ≡ d) × (f.answers ≡ map see f.paths))

-- Record by record these are of the same work, and are the same in all else, so that what is put for them is the same.
abbrev pub AreAlike : List Facts → List Facts → Type 0
AreAlike [] [] = ⊤
AreAlike [] (f ∷ fs) = ⊥
AreAlike (r ∷ records) [] = ⊥
AreAlike (r ∷ records) (f ∷ fs) = (IsSameWork r.desc f.desc × (f ≡ at_desc f.desc r)) × AreAlike records fs

-- All pips are decided as on one thread.
pub record FollowsAll (pips : List Pip) (tree : Files) (budget : ℕ) (verdicts : List Verdict) (slots : List Slot) : Type 0 where
  pub verdicts_are : verdicts ≡ verdicts_of (one_thread pips tree budget)
  pub files_are : map slot_files slots ≡ made_by (one_thread pips tree budget)

-- The records, to the pips that make files and directories, are of processes that succeed, by number; and for each that succeeds the store
-- has something usable, or its record is here.
pub record RecordsAll (pips : List Pip) (tree : Files) (budget : ℕ) (S : Holdings) (records : List Facts) : Type 0 where
  pub facts : List Facts
  pub alike : AreAlike records facts
  pub high : ℕ
  pub successes : Between pips tree budget 0 high facts
  pub sounds : AllByRecursion Sound facts
  pub all_there : (i : ℕ) (d : Desc) (see : Ask → Answer) → RunsAs pips tree budget i d see
      → SucceedsAt pips tree budget i → IsThere S facts d see

-- How a process comes to its outcome: by its slot, over a store, or by its run.
use Rattle.std.specs.Prelude.{◌≡◌, ℕ, Bool, true, false, Option, Some, IsSome, ⊤}
use Rattle.std.specs.Prelude as prelude
use Rattle.bx_io.specs.Holdings.{Holdings}
use Rattle.pip_model_types.specs.declared.desc.Desc.{Desc}
use Rattle.observed.specs.declared.ask.Ask.{Ask}
use Rattle.observed.specs.declared.access.Answer.{Answer}
use Rattle.run_record.specs.Facts.{Facts, IsRun, Sound}
use Rattle.run_record.specs.Holding.{HoldsNow}
use Rattle.run_record.specs.declared.outcome.Outcome.{Outcome}
use Rattle.run_record.specs.declared.outcome.Outcome.TheVariants.{Good}
use Rattle.run_record.specs.Digests.{IsReadBack}
use Rattle.two_phase_meaning.specs.Usable.{Usable}
use Rattle.memo_format.specs.Found.{FoundParts}
use Rattle.two_phase.specs.Kept.{Keeps}
use Rattle.two_phase.specs.Lookups.{IsCurrentHit, LeadsIn}
use Rattle.two_phase.specs.Reading.{ReaderData}
use Rattle.sched_board_slots.specs.declared.held.Held.{Held}
use Rattle.sched_board_slots.specs.declared.held.Held.TheVariants as held
use Rattle.retire.specs.Accepting.{IsAccepted}
use Rattle.run_record.specs.Digests.{IsWeakOf}
use Rattle.retire.specs.declared.taking.Again.{Again}
use Rattle.retire.specs.declared.taking.Again.TheVariants as agains
use Rattle.retire.specs.declared.taking.Sought.{Sought}
use Rattle.retire.specs.declared.taking.Sought.TheVariants as sought
use Rattle.retire.specs.declared.taking.Taken.{Taken}
use Rattle.retire.specs.declared.taking.Taken.TheVariants as taken
use Rattle.retire.specs.declared.taking.Way.{Way}
use Rattle.retire.specs.declared.taking.Way.TheVariants as ways

-- Whatever a store holds: the run of the slot is taken where it is accepted; and nowhere else what was found is of this process now, or
-- the run is that of the process on this view, in a sound record.
abbrev pub IsOfNow : Desc → (Ask → Answer) → Held → Taken → Type 0
IsOfNow d see slot (taken.Accepted ran) = (slot ≡ held.Ran ran) × Sound ran × HoldsNow d see ran
IsOfNow d see slot (taken.Hit found) = (IsAccepted d see slot → ⊥) × IsCurrentHit d see found
IsOfNow d see slot (taken.Missed ran) = (IsAccepted d see slot → ⊥) × Sound ran × IsRun ran d see
IsOfNow d see slot (taken.Faulted ran) = (IsAccepted d see slot → ⊥) × Sound ran × IsRun ran d see

-- Over what a store holds: a usable selector leads to what was found, and a miss says that nothing is usable.
abbrev pub TakesFrom : Holdings → Desc → (Ask → Answer) → Taken → Type 0
TakesFrom S d see (taken.Accepted ran) = ⊤
TakesFrom S d see (taken.Hit found) = LeadsIn S d see found × IsReadBack d
TakesFrom S d see (taken.Missed ran) = Usable S d see → ⊥
TakesFrom S d see (taken.Faulted ran) = ⊤

-- Without a store nothing is found, and no lookup fails.
abbrev pub TakesAlone : Taken → Type 0
TakesAlone (taken.Accepted ran) = ⊤
TakesAlone (taken.Hit found) = ⊥
TakesAlone (taken.Missed ran) = ⊤
TakesAlone (taken.Faulted ran) = ⊥

-- By a reader, if there is one: over what it tells to be held.
abbrev pub TakesBy : Option ReaderData → Desc → (Ask → Answer) → Taken → Type 0
TakesBy prelude.None d see t = TakesAlone t
TakesBy (Some reader) d see t = (S : Holdings) → reader.held ≡ Some S → TakesFrom S d see t

-- ## Lookups

-- What a reader has for a process on a view, by what it tells to be held. A weak text that comes with it is that of the process.
abbrev pub SeeksBy : Option ReaderData → Desc → (Ask → Answer) → Sought → Type 0
SeeksBy reader d see sought.Unused = reader ≡ prelude.None
SeeksBy reader d see (sought.Hit found) =
    IsSome reader × IsCurrentHit d see found
    × ((r : ReaderData) → reader ≡ Some r → (S : Holdings) → r.held ≡ Some S → LeadsIn S d see found × IsReadBack d)
SeeksBy reader d see (sought.Miss weak) =
    IsSome reader × IsWeakOf d weak × ((r : ReaderData) → reader ≡ Some r → (S : Holdings) → r.held ≡ Some S → Usable S d see → ⊥)
SeeksBy reader d see (sought.Fault weak) = IsSome reader × IsWeakOf d weak

abbrev pub seek_fault : Sought → ℕ
seek_fault sought.Unused = 0
seek_fault (sought.Hit found) = 0
seek_fault (sought.Miss weak) = 0
seek_fault (sought.Fault weak) = 1

-- ## Hits in slots

-- A reader, if there is one, has what was found, by what it tells to be held. Without one nothing is known.
abbrev pub KeepsBy : Option ReaderData → FoundParts → Type 0
KeepsBy prelude.None found = ⊥
KeepsBy (Some reader) found = Keeps reader.held found

abbrev pub again_fault : Again → ℕ
again_fault agains.Kept = 0
again_fault agains.Changed = 0
again_fault agains.Faulted = 1

-- ## What is taken

abbrev pub outcome_in : Taken → Outcome
outcome_in (taken.Accepted ran) = ran.outcome
outcome_in (taken.Hit found) = Good found.made
outcome_in (taken.Missed ran) = ran.outcome
outcome_in (taken.Faulted ran) = ran.outcome

-- the record of the run, if there is one
abbrev pub record_in : Taken → Option Facts
record_in (taken.Accepted ran) = Some ran
record_in (taken.Hit found) = prelude.None
record_in (taken.Missed ran) = Some ran
record_in (taken.Faulted ran) = Some ran

abbrev pub way_of : Taken → Way
way_of (taken.Accepted ran) = ways.Accepted
way_of (taken.Hit found) = ways.Hit
way_of (taken.Missed ran) = ways.Ran
way_of (taken.Faulted ran) = ways.Faulted

-- the record is for the store only where there is one and the process succeeded
abbrev pub save_if : Bool → Option Facts → Option Facts
save_if true ran = ran
save_if false ran = prelude.None

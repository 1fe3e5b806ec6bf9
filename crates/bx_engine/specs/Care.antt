-- What is promised of a check, of a repair and of a trim of a store.
use Rattle.std.specs.Prelude.{◌≡◌, ◌≢◌, ◌⊎◌, ◌↔◌, ℕ, List, ◌++◌, codes, map, string_bytes, IsSome, Some, if◌then◌else◌}
use Rattle.std.specs.Fmt.{decimal}
use Rattle.std.specs.List.{flat_map}
use Rattle.bx_io.specs.Causes.{HasCause}
use Rattle.bx_io.specs.Holdings.{Holdings, IsAlone, Keeps, MakesPrefix, StoreTold, held_in}
use Rattle.two_phase.specs.Putting.{LeavesHonest}
use Rattle.two_phase_meaning.specs.Honest.{Honest}
use Rattle.cache_care_check.specs.CareLists.{IsCareList, has_bad_remark, line_remark}
use Rattle.cache_care_check.specs.declared.checking.CareLine.{CareLine}
use Rattle.cache_care_check.specs.declared.checking.CareLine.TheVariants as lines
use Rattle.cache_care_check.specs.declared.checking.CareList.{CareList}
use Rattle.cache_care_check.specs.declared.fault.CareFault.{CareFault}
use Rattle.cache_care_check.specs.declared.fault.CareFault.TheVariants as faults
use Rattle.cache_care.specs.Counts.{CountsMade}
use Rattle.cache_care.specs.Planning.{OnlyDrops}
use Rattle.cache_care.specs.Repairing.{IsRepaired, DoesRepair, DoesRepairInPart}
use Rattle.cache_care.specs.Trimmed.{IsTrimmed}
use Rattle.cache_care.specs.Trimming.{OnlyTrims, DoesTrim, trims as trim_changes}
use Rattle.cache_care.specs.declared.planning.CareCount.{CareCount}
use Rattle.bx_engine.specs.Calls.{StoreChange, Written}
use Rattle.bx_engine.specs.Counting.{AppendsNoted}
use Rattle.bx_engine.specs.Statuses.{IsGone}
use Rattle.bx_engine.specs.declared.status.Status.{Status}
use Rattle.bx_engine.specs.declared.status.Status.TheVariants as statuses

-- ## Notes

-- a name that is told
abbrev pub care_line : CareLine → List ℕ
care_line (lines.Damaged name) = codes "damaged " ++ string_bytes name ++ codes "\n"
care_line (lines.Bad name) = codes "bad " ++ string_bytes name ++ codes "\n"

-- the notes of a check
abbrev pub check_text : CareList → List ℕ
check_text list =
    flat_map care_line list.lines.items
    ++ (codes "names " ++ decimal list.names ++ codes "\nentries " ++ decimal list.entries ++ codes "\n")

-- the notes of a repair or a trim
abbrev pub count_text : CareCount → List ℕ
count_text count = codes "kept " ++ decimal count.kept ++ codes "\ndropped " ++ decimal count.dropped ++ codes "\n"

-- ## Whatever the store

-- The status says that the store failed only where its count of faults rose, and with any other the count is as it was.
pub record BlamesStore (status : Status) (store : StoreChange) : Type 0 where
  pub cause : HasCause store.faults_before store.faults_now (status ≡ statuses.KeeperFailed)
  pub no_fault : status ≢ statuses.KeeperFailed → store.faults_now ≡ store.faults_before

-- The store works alone, or nothing was changed.
abbrev pub ChangesAlone : StoreTold → StoreTold → Type 0
ChangesAlone before now = IsAlone now ⊎ (now.changes ≡ before.changes)

-- the status of a call that stopped
abbrev pub fault_status : CareFault → Status
fault_status faults.Failed = statuses.KeeperFailed
fault_status faults.Memory = statuses.OutOfMemory

-- ## A check

-- What a check tells: the notes are a list of names and two counts, and the status says whether a bad entry is in that list.
-- Of a store of which no answer disagreed with what it told, it is just the list of its damaged names and its bad entries.
pub record Checks (status : Status) (notes : Written) (store : StoreChange) : Type 0 where
  pub list : CareList
  pub status_is : status
      ≡ (if has_bad_remark (map line_remark list.lines.items) then statuses.FailuresFound else statuses.Done)
  pub noted : AppendsNoted (check_text list) notes
  pub is : (S : Holdings) → held_in store.before ≡ Some S → IsSome (held_in store.now) → IsCareList S list

pub record OfCheck (status : Status) (notes : Written) (store : StoreChange) : Type 0 where
  -- the status is one of these;
  pub one_of : IsGone status ⊎ (status ≡ statuses.OutOfMemory) ⊎ (status ≡ statuses.KeeperFailed)
  pub blames : BlamesStore status store
  -- nothing was changed;
  pub kept : Keeps store.before store.now
  -- what was found is told,
  pub tells : IsGone status → Checks status notes store
  -- and of a store of which no answer disagreed with what it told, the status says whether it is honest.
  pub honest : (S : Holdings) → held_in store.before ≡ Some S → IsSome (held_in store.now) → IsGone status
      → (status ≡ statuses.Done) ↔ Honest S

-- ## A repair

-- What a repair tells: the notes count the names that were dropped, and those that were kept. A store of which no answer
-- disagreed with what it told was repaired, and all its names are counted.
pub record Repairs (notes : Written) (store : StoreChange) : Type 0 where
  pub count : CareCount
  pub noted : AppendsNoted (count_text count) notes
  pub made : CountsMade store.before store.now count
  pub does : (S : Holdings) → held_in store.before ≡ Some S → IsSome (held_in store.now)
      → DoesRepair S store.before store.now count

pub record OfRepair (status : Status) (notes : Written) (store : StoreChange) : Type 0 where
  -- the status is one of these;
  pub one_of : (status ≡ statuses.Done) ⊎ (status ≡ statuses.OutOfMemory) ⊎ (status ≡ statuses.KeeperFailed)
  pub blames : BlamesStore status store
  -- nothing was done but that names were dropped, and that while nobody else used the store;
  pub drops : OnlyDrops store.before store.now
  pub alone : ChangesAlone store.before store.now
  -- the store was repaired, and its names are counted in the notes,
  pub repairs : status ≡ statuses.Done → Repairs notes store
  -- and over a store of which no answer disagreed with what it told, with any status, nothing was changed, or the changes of a
  -- repair were made up to some place;
  pub in_part : (S : Holdings) → held_in store.before ≡ Some S → IsSome (held_in store.now)
      → DoesRepairInPart S store.before store.now
  -- what is left is the repaired store, and honest;
  pub repaired : (S T : Holdings) → held_in store.before ≡ Some S → held_in store.now ≡ Some T → status ≡ statuses.Done
      → IsRepaired S T × Honest T
  -- and an honest store is left honest, whatever the status,
  pub honest : (S T : Holdings) → held_in store.before ≡ Some S → held_in store.now ≡ Some T → Honest S → Honest T
  -- and was honest after each of the changes.
  pub left : (S : Holdings) → held_in store.before ≡ Some S → IsSome (held_in store.now) → Honest S
      → LeavesHonest S store.before store.now

-- ## A trim

-- What a trim tells: the notes count the names that were dropped, and those that were kept. A store of which no answer
-- disagreed with what it told was trimmed, and all its names are counted.
pub record Trims (keep : ℕ) (notes : Written) (store : StoreChange) : Type 0 where
  pub count : CareCount
  pub noted : AppendsNoted (count_text count) notes
  pub made : CountsMade store.before store.now count
  pub does : (S : Holdings) → held_in store.before ≡ Some S → IsSome (held_in store.now)
      → DoesTrim S keep store.before store.now count

pub record OfTrim (keep : ℕ) (status : Status) (notes : Written) (store : StoreChange) : Type 0 where
  -- the status is one of these;
  pub one_of : (status ≡ statuses.Done) ⊎ (status ≡ statuses.OutOfMemory) ⊎ (status ≡ statuses.KeeperFailed)
  pub blames : BlamesStore status store
  -- nothing was done but that names were dropped and lists put, and that while nobody else used the store;
  pub only : OnlyTrims store.before store.now
  pub alone : ChangesAlone store.before store.now
  -- the store was trimmed, and its names are counted in the notes,
  pub trims : status ≡ statuses.Done → Trims keep notes store
  -- and over a store of which no answer disagreed with what it told, with any status, the changes of a trim were made up to some
  -- place;
  pub in_part : (S : Holdings) → held_in store.before ≡ Some S → IsSome (held_in store.now)
      → MakesPrefix store.before store.now (trim_changes S keep)
  -- what is left is the trimmed store;
  pub trimmed : (S T : Holdings) → held_in store.before ≡ Some S → held_in store.now ≡ Some T → status ≡ statuses.Done
      → IsTrimmed S keep T
  -- and an honest store is left honest, whatever the status,
  pub honest : (S T : Holdings) → held_in store.before ≡ Some S → held_in store.now ≡ Some T → Honest S → Honest T
  -- and was honest after each of the changes.
  pub left : (S : Holdings) → held_in store.before ≡ Some S → IsSome (held_in store.now) → Honest S
      → LeavesHonest S store.before store.now

-- What a repair of a store drops, and what it leaves.
use Rattle.std.specs.Prelude.{◌≡◌, ◌⊎◌, ℕ, Bool, true, false, List, [], ◌∷◌, ◌++◌, map, Some, None, if◌then◌else◌}
use Rattle.std.specs.FinMap.{get, keys}
use Rattle.bx_io.specs.Holdings.{Change, Drop, Holdings, Keeps, Makes, MakesPrefix, StoreTold}
use Rattle.memo_format.specs.StoreNames.{IsWellFormedName}
use Rattle.memo_format.specs.declared.entry.Entry.{Entry}
use Rattle.two_phase_meaning.specs.Honest.{HonestEntry}
use Rattle.cache_care_check.specs.Findings.{AreFindings, IsBadEntry, IsEntryAt}
use Rattle.cache_care_check.specs.declared.surveying.Finding.{Finding}
use Rattle.cache_care_check.specs.declared.surveying.Finding.TheVariants as findings
use Rattle.cache_care.specs.Counts.{IsCount}
use Rattle.cache_care.specs.declared.planning.CareCount.{CareCount}

-- ## The changes

abbrev pub same_finding : Finding → Finding → Bool
same_finding findings.Damaged findings.Damaged = true
same_finding findings.Bad findings.Bad = true
same_finding findings.Honest findings.Honest = true
same_finding findings.Other findings.Other = true
same_finding _ _ = false

-- the names of which this is found, in their order
abbrev pub names_found : Finding → List (List ℕ) → List Finding → List (List ℕ)
names_found wanted [] found = []
names_found wanted (name ∷ names) [] = []
names_found wanted (name ∷ names) (f ∷ found) =
    if same_finding wanted f then name ∷ names_found wanted names found else names_found wanted names found

-- first each bad entry is dropped, and then each damaged name
abbrev pub repairs : List (List ℕ) → List Finding → List Change
repairs names found =
    map Drop (names_found findings.Bad names found) ++ map Drop (names_found findings.Damaged names found)

-- These are the changes of a repair of the store.
pub record AreRepairs (S : Holdings) (changes : List Change) : Type 0 where
  pub found : List Finding
  pub findings : AreFindings S (keys S) found
  pub changes_are : changes ≡ repairs (keys S) found

-- ## What is left

-- the name holds what it says, and an entry that it holds is honest
abbrev pub IsKept : Holdings → List ℕ → Type 0
IsKept S name = IsWellFormedName S name × ((e : Entry) → IsEntryAt S name e → HonestEntry S e)

-- the name does not hold what it says, or holds an entry that is not honest
abbrev pub IsDropped : Holdings → List ℕ → Type 0
IsDropped S name = (IsWellFormedName S name → ⊥) ⊎ IsBadEntry S name

-- The second is the first store without its entries that are held as their names say and not honest, and without
-- its names that are not well-formed.
pub record IsRepaired (S T : Holdings) : Type 0 where
  pub each : (name bytes : List ℕ) → get S name ≡ Some bytes → IsKept S name ⊎ IsDropped S name
  pub kept : (name : List ℕ) → IsKept S name → get T name ≡ get S name
  pub dropped : (name : List ℕ) → IsDropped S name → get T name ≡ None
  pub none_added : (name : List ℕ) → get S name ≡ None → get T name ≡ None

-- ## What a call does

-- The store was repaired, and its names are counted.
pub record DoesRepair (S : Holdings) (before now : StoreTold) (count : CareCount) : Type 0 where
  pub changes : List Change
  pub are : AreRepairs S changes
  pub makes : Makes before changes now
  pub counted : IsCount (keys S) changes count

-- Nothing was changed, or the changes of a repair were made up to some place.
abbrev pub DoesRepairInPart : Holdings → StoreTold → StoreTold → Type 0
DoesRepairInPart S before now =
    Keeps before now ⊎ ((changes : List Change) × AreRepairs S changes × MakesPrefix before now changes)

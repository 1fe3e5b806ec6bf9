-- What is found of the names of a store.
use Rattle.std.specs.Prelude.{◌≡◌, ℕ, List, [], ◌∷◌, map, string_bytes}
use Rattle.std.specs.FinMap.{keys}
use Rattle.bx_io.specs.Holdings.{Holdings}
use Rattle.memo_format.specs.StoreNames.{HoldsEntry, IsWellFormedName, at_entry}
use Rattle.memo_format.specs.declared.entry.Entry.{Entry}
use Rattle.two_phase_meaning.specs.Honest.{HonestEntry}
use Rattle.cache_care_check.specs.declared.surveying.Finding.{Finding}
use Rattle.cache_care_check.specs.declared.surveying.Finding.TheVariants as findings
use Rattle.cache_care_check.specs.declared.surveying.Survey.{Survey}

-- The entry is held as the name says.
pub record IsEntryAt (S : Holdings) (name : List ℕ) (e : Entry) : Type 0 where
  pub held : HoldsEntry S e
  pub name_is : name ≡ at_entry e.strong

-- An entry that is not honest is held as the name says.
pub record IsBadEntry (S : Holdings) (name : List ℕ) : Type 0 where
  pub entry : Entry
  pub held : IsEntryAt S name entry
  pub dishonest : HonestEntry S entry → ⊥

-- An honest entry is held as the name says.
pub record IsHonestEntry (S : Holdings) (name : List ℕ) : Type 0 where
  pub entry : Entry
  pub held : IsEntryAt S name entry
  pub honest : HonestEntry S entry

-- What is found of a name: it does not hold what it says; it holds an entry that is not honest, or one that is; or it
-- holds what it says, and that is no entry.
abbrev pub IsFinding : Holdings → List ℕ → Finding → Type 0
IsFinding S name findings.Damaged = IsWellFormedName S name → ⊥
IsFinding S name findings.Bad = IsBadEntry S name
IsFinding S name findings.Honest = IsHonestEntry S name
IsFinding S name findings.Other = IsWellFormedName S name × ((e : Entry) → IsEntryAt S name e → ⊥)

-- what is found of each of the names, in their order
abbrev pub AreFindings : Holdings → List (List ℕ) → List Finding → Type 0
AreFindings S [] found = found ≡ []
AreFindings S (name ∷ names) [] = ⊥
AreFindings S (name ∷ names) (f ∷ found) = IsFinding S name f × AreFindings S names found

-- These are the names of the store, and what is found of each. Whether an entry is honest is not decided here, so the
-- findings are given as a list that a survey may turn out to have.
pub record IsSurvey (S : Holdings) (survey : Survey) : Type 0 where
  pub names : map string_bytes survey.names.items ≡ keys S
  pub found : AreFindings S (keys S) survey.findings.items

-- When a store has what was found in it.
use Rattle.std.specs.Prelude.{◌≡◌, List, Option, Some}
use Rattle.bx_io.specs.Holdings.{Holdings}
use Rattle.bx_tree.specs.Members.{Has}
use Rattle.memo_format.specs.Found.{FoundParts}
use Rattle.memo_format.specs.StoreNames.{HoldsEntry, HoldsList}
use Rattle.memo_format.specs.declared.entry.Entry.{Entry}
use Rattle.memo_format.specs.declared.selector.Selector.{Selector}
use Rattle.run_record.specs.Collisions.{contents_of}
use Rattle.two_phase_meaning.specs.Contents.{HoldsAll, HoldsPaths}

-- the selector that leads to an entry
abbrev pub entry_selector : Entry → Selector
entry_selector e = record { paths = e.paths; strong = e.strong }

-- the list that is held for the weak text of the entry has its selector
abbrev pub IsListed : Holdings → Entry → Type 0
IsListed S e = (list : List Selector) × HoldsList S e.weak list × Has list (entry_selector e)

-- The store has what was found: the list of its process with its selector, the entry, its path set and each of its files.
pub record IsKept (S : Holdings) (found : FoundParts) : Type 0 where
  pub listed : IsListed S found.entry
  pub entry : HoldsEntry S found.entry
  pub paths : HoldsPaths S found.entry.paths found.paths
  pub made : HoldsAll S (contents_of found.made)

-- That of what is told to be held.
abbrev pub Keeps : Option Holdings → FoundParts → Type 0
Keeps told found = (S : Holdings) → told ≡ Some S → IsKept S found

-- What is counted of the names of a store.
use Rattle.std.specs.Prelude.{◌≡◌, ℕ, ◌+◌, List, [], ◌∷◌, length}
use Rattle.bx_io.specs.Holdings.{Change, Drop, Makes, Put, StoreTold}
use Rattle.cache_care.specs.declared.planning.CareCount.{CareCount}

abbrev pub one_drop : Change → ℕ
one_drop (Put name bytes) = 0
one_drop (Drop name) = 1

-- how many names are dropped
abbrev pub drop_count : List Change → ℕ
drop_count [] = 0
drop_count (change ∷ changes) = one_drop change + drop_count changes

-- Each of the names was dropped by the changes, or kept.
pub record IsCount (names : List (List ℕ)) (changes : List Change) (count : CareCount) : Type 0 where
  pub dropped : count.dropped ≡ drop_count changes
  pub all : count.kept + count.dropped ≡ length names

-- The changes that were made drop as many names as are counted.
pub record CountsMade (before now : StoreTold) (count : CareCount) : Type 0 where
  pub made : List Change
  pub makes : Makes before made now
  pub dropped : count.dropped ≡ drop_count made

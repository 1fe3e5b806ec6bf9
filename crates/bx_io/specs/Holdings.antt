-- What a store holds, and the changes that led there.
use Rattle.std.specs.Prelude.{◌≡◌, ℕ, Bool, false, true, List, [], ◌∷◌, ◌++◌, Option, Some, option_map}
use Rattle.std.specs.Ordering.{nat_cmp}
use Rattle.std.specs.Cmp.Lexicographic.{slice_cmp}
use Rattle.std.specs.FinMap.{FinMap, get, insert, remove}
use Rattle.bx_io.specs.Names.{IsName}
use Rattle.bx_io.specs.Told.{Stays}

-- from the bytes of each held name to the bytes that are held under it
abbrev pub Holdings : Type 0
Holdings = FinMap (slice_cmp nat_cmp) (List ℕ)

-- Each held name is a name.
pub record AreNames (held : Holdings) : Type 0 where
  pub each : (name bytes : List ℕ) → get held name ≡ Some bytes → IsName name

-- one change of a store: a put of bytes under a name, or a drop of a name
pub data Change : Type 0 where
  Put : (name : List ℕ) → (bytes : List ℕ) → Change
  Drop : (name : List ℕ) → Change

-- the name that a change is of
abbrev pub name_of : Change → List ℕ
name_of (Put name bytes) = name
name_of (Drop name) = name

-- what is held after one change
abbrev pub changed : Holdings → Change → Holdings
changed held (Put name bytes) = insert held name bytes
changed held (Drop name) = remove held name

-- what is held after a list of changes, which are made in its order
abbrev pub holdings_after : Holdings → List Change → Holdings
holdings_after held [] = held
holdings_after held (change ∷ changes) = holdings_after (changed held change) changes

-- what a store holds, and all changes that led there, in order
pub record StoreState : Type 0 where
  pub held : Holdings
  pub changes : List Change

-- a store after a list of changes
abbrev pub state_after : StoreState → List Change → StoreState
state_after kept made = record { held = holdings_after kept.held made; changes = kept.changes ++ made }

-- What is told of a store: what it holds, until an answer disagrees with that; all changes that it made, in order, which
-- are always known; and whether it was granted that it works alone: from then on a call of it does nothing while another
-- one uses what it holds.
pub record StoreTold : Type 0 where
  pub held : Option Holdings
  pub changes : List Change
  pub alone : Bool

-- the store works alone
abbrev pub IsAlone : StoreTold → Type 0
IsAlone known = known.alone ≡ true

-- a store that tells what it holds, and that nobody else uses
abbrev pub told_of : StoreState → StoreTold
told_of kept = record { held = Some kept.held; changes = kept.changes; alone = true }

-- a store that was opened just now, and holds this
abbrev pub opened : Holdings → StoreTold
opened held = record { held = Some held; changes = []; alone = false }

-- what a store is told to hold
abbrev pub held_in : StoreTold → Option Holdings
held_in known = known.held

-- what is told to be held after a list of changes
abbrev pub after_told : Option Holdings → List Change → Option Holdings
after_told told made = option_map (λ held. holdings_after held made) told

-- These changes were made, and nothing else. What is still told is what was told, with the changes. A store that works
-- alone goes on to.
pub record Makes (before : StoreTold) (made : List Change) (now : StoreTold) : Type 0 where
  pub held : Stays (after_told before.held made) now.held
  pub changes : now.changes ≡ before.changes ++ made
  pub alone : IsAlone before → IsAlone now

-- Nothing was changed. What is still told is what was told. A store that works alone goes on to.
pub record Keeps (before now : StoreTold) : Type 0 where
  pub held : Stays before.held now.held
  pub changes : now.changes ≡ before.changes
  pub alone : IsAlone before → IsAlone now

-- The first list of changes is a prefix of the second.
pub record IsPrefix (start whole : List Change) : Type 0 where
  pub rest : List Change
  pub joined : start ++ rest ≡ whole

-- Of the changes that were planned a prefix was made, and nothing else.
pub record MakesPrefix (before now : StoreTold) (planned : List Change) : Type 0 where
  pub made : List Change
  pub first : IsPrefix made planned
  pub makes : Makes before made now

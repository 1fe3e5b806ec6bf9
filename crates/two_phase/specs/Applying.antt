-- Changes that are made one after another, but for those that would change nothing.
use Rattle.std.specs.Prelude.{◌≡◌, ◌⊎◌, List, [], ◌∷◌, Option, Some}
use Rattle.bx_io.specs.Holdings.{Change, Holdings, IsPrefix, Keeps, Makes, StoreTold, changed}

-- The change would change nothing of what is told to be held.
abbrev pub IsNoOp : Option Holdings → Change → Type 0
IsNoOp told change = (S : Holdings) → told ≡ Some S → changed S change ≡ S

-- The change was made, or it was left out as it would have changed nothing of what is held.
abbrev pub Applies : StoreTold → Change → StoreTold → Type 0
Applies before change now = Makes before (change ∷ []) now ⊎ (Keeps before now × IsNoOp now.held change)

-- The changes were made one after another, but for those that would have changed nothing of what was held.
abbrev pub AppliesAll : StoreTold → List Change → StoreTold → Type 0
AppliesAll before [] now = Keeps before now
AppliesAll before (change ∷ changes) now =
    (between : StoreTold) × Applies before change between × AppliesAll between changes now

-- Of the changes that were planned a prefix was made, but for those that would have changed nothing, and
-- nothing else.
pub record AppliesPrefix (before now : StoreTold) (planned : List Change) : Type 0 where
  pub first : List Change
  pub is_first : IsPrefix first planned
  pub applies : AppliesAll before first now

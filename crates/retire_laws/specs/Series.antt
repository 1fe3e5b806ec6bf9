-- Builds over a store, one after another.
use Rattle.std.specs.Prelude.{ℕ, List, [], ◌∷◌}
use Rattle.std.specs.List.{AllByRecursion}
use Rattle.bx_io.specs.Holdings.{Keeps, StoreTold}
use Rattle.bx_tree.specs.Members.{Has}
use Rattle.run_record.specs.Facts.{Facts}
use Rattle.two_phase_meaning.specs.Saving.{blobs_of}
use Rattle.retire.specs.Saving.{IsSuccess, PutsFirst}

-- A sound record of a success, whose texts and contents are among these.
pub record IsListed (contents : List (List ℕ)) (f : Facts) : Type 0 where
  pub success : IsSuccess f
  pub listed : (x : List ℕ) → Has (blobs_of f) x → Has contents x

-- the records of one build
abbrev pub AreListed : List (List ℕ) → List Facts → Type 0
AreListed contents fs = AllByRecursion (IsListed contents) fs

-- Of each build the first of its records were saved, the last of these perhaps in part, and nothing else was
-- done: so each build may have been cut off after any of its changes, and the next went on over what it left.
abbrev pub AreSavedInTurn : StoreTold → List (List Facts) → StoreTold → Type 0
AreSavedInTurn before [] now = Keeps before now
AreSavedInTurn before (fs ∷ builds) now =
    (between : StoreTold) × PutsFirst before fs between × AreSavedInTurn between builds now

-- What saves of several records leave.
use Rattle.std.specs.Prelude.{◌≡◌, ◌≤◌, ℕ, Bool, true, false, not, List, [], ◌∷◌, count_by, length, take}
use Rattle.std.specs.List.{AllByRecursion}
use Rattle.bx_io.specs.Holdings.{Keeps, StoreTold}
use Rattle.run_record.specs.Facts.{Facts, Sound}
use Rattle.two_phase_meaning.specs.Saving.{IsGood}
use Rattle.two_phase.specs.Putting.{PutsAll, PutsUpTo}

-- The puts of each of the records were made, one record after another, each up to some place.
abbrev pub PutsEach : StoreTold → List Facts → StoreTold → Type 0
PutsEach before [] now = Keeps before now
PutsEach before (f ∷ fs) now = (between : StoreTold) × PutsUpTo before between f × PutsEach between fs now

-- all puts of a record that is whole were made, and those of another up to some place
abbrev pub PutsIf : Bool → StoreTold → StoreTold → Facts → Type 0
PutsIf true before now f = PutsAll before now f
PutsIf false before now f = PutsUpTo before now f

-- So of each of the records, one record after another, by its mark.
abbrev pub PutsByMarks : StoreTold → List Facts → StoreTold → List Bool → Type 0
PutsByMarks before [] now [] = Keeps before now
PutsByMarks before [] now (whole ∷ marks) = ⊥
PutsByMarks before (f ∷ fs) now [] = ⊥
PutsByMarks before (f ∷ fs) now (whole ∷ marks) =
    (between : StoreTold) × PutsIf whole before between f × PutsByMarks between fs now marks

-- All puts of each of the records were made, one record after another, but for those of at most so many records,
-- which were made up to some place.
pub record PutsAllBut (before : StoreTold) (fs : List Facts) (now : StoreTold) (faults : ℕ) : Type 0 where
  pub marks : List Bool
  pub few : count_by not marks ≤ faults
  pub each : PutsByMarks before fs now marks

-- The puts of the first of the records were made, and nothing else.
pub record PutsFirst (before : StoreTold) (fs : List Facts) (now : StoreTold) : Type 0 where
  pub number : ℕ
  pub each : PutsEach before (take number fs) now

-- a sound record of a run that succeeded
abbrev pub IsSuccess : Facts → Type 0
IsSuccess f = IsGood f × Sound f

-- Nothing was done but that sound records of runs that succeeded were saved, each up to some place.
abbrev pub OnlyPuts : StoreTold → StoreTold → Type 0
OnlyPuts before now = (fs : List Facts) × AllByRecursion IsSuccess fs × PutsFirst before fs now

-- Nothing was done but that at most so many such records were saved, each up to some place.
abbrev pub SavesAtMost : ℕ → StoreTold → StoreTold → Type 0
SavesAtMost most before now =
    (fs : List Facts) × (length fs ≤ most) × AllByRecursion IsSuccess fs × PutsFirst before fs now

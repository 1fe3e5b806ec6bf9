-- The codes of statuses, and what a status says of the sinks.
use Rattle.std.specs.Prelude.{◌≡◌, ℕ, ◌⊎◌}
use Rattle.bx_engine.specs.declared.status.Status.{Status}
use Rattle.bx_engine.specs.declared.status.Status.TheVariants as statuses

-- the exit code of the program
abbrev pub code_of : Status → ℕ
code_of statuses.Done = 0
code_of statuses.FailuresFound = 1
code_of statuses.NoCommand = 2
code_of statuses.InputRefused = 3
code_of statuses.SpecificationRefused = 4
code_of statuses.SourceFailed = 5
code_of statuses.OutFailed = 6
code_of statuses.OutOfMemory = 7
code_of statuses.KeeperFailed = 8

-- the whole result was written to `out`
abbrev pub IsWhole : Status → Type 0
IsWhole status =
    (status ≡ statuses.Done) ⊎ (status ≡ statuses.FailuresFound) ⊎ (status ≡ statuses.InputRefused)
    ⊎ (status ≡ statuses.SpecificationRefused)

-- all pips of a build, or all names of a check, were gone through
abbrev pub IsGone : Status → Type 0
IsGone status = (status ≡ statuses.Done) ⊎ (status ≡ statuses.FailuresFound)

-- the input or its specification was refused
abbrev pub IsRefusal : Status → Type 0
IsRefusal status = (status ≡ statuses.InputRefused) ⊎ (status ≡ statuses.SpecificationRefused)

-- no build was begun
abbrev pub HasNoBuild : Status → Type 0
HasNoBuild status = (status ≡ statuses.NoCommand) ⊎ (status ≡ statuses.SourceFailed) ⊎ IsRefusal status

-- no tree of source files was read
abbrev pub HasNoTree : Status → Type 0
HasNoTree status =
    (status ≡ statuses.NoCommand) ⊎ (status ≡ statuses.SourceFailed) ⊎ (status ≡ statuses.InputRefused)

-- nothing was written to `out`
abbrev pub IsSilent : Status → Type 0
IsSilent status =
    (status ≡ statuses.NoCommand) ⊎ (status ≡ statuses.SourceFailed) ⊎ (status ≡ statuses.OutOfMemory)

-- nothing was written to the notes
abbrev pub HasNoNotes : Status → Type 0
HasNoNotes status =
    (status ≡ statuses.InputRefused) ⊎ (status ≡ statuses.SpecificationRefused)
    ⊎ (status ≡ statuses.SourceFailed) ⊎ (status ≡ statuses.OutFailed) ⊎ (status ≡ statuses.OutOfMemory)
    ⊎ (status ≡ statuses.KeeperFailed)

-- Which verdicts a report shows as docs/FORMATS.md has them.
use Rattle.std.specs.Prelude.{◌≡◌, ℕ, Option, None, IsSome, ⊤}
use Rattle.observed.specs.declared.access.End.{End}
use Rattle.observed.specs.declared.access.End.TheVariants as ends
use Rattle.violations.specs.declared.verdict.Verdict.{Verdict}
use Rattle.violations.specs.declared.verdict.Verdict.TheVariants as verdicts
use Rattle.violations.specs.declared.verdict.ViolationKind.{ViolationKind}
use Rattle.violations.specs.declared.verdict.ViolationKind.TheVariants as violations

-- a fault of the tool itself: not an end with a code, and not a denied access
abbrev pub IsToolFault : End → Type 0
IsToolFault (ends.Exit code) = ⊥
IsToolFault ends.Denied = ⊥
IsToolFault ends.BadProgram = ⊤
IsToolFault ends.BadPath = ⊤
IsToolFault ends.Budget = ⊤
IsToolFault ends.TooLong = ⊤
IsToolFault ends.NotADirectory = ⊤

-- a violation names another pip, but for those that concern none
abbrev pub NamesPip : ViolationKind → Option ℕ → Type 0
NamesPip violations.MissingSourceDependency other = other ≡ None
NamesPip violations.UndeclaredOutput other = other ≡ None
NamesPip violations.UndeclaredOrderedRead other = IsSome other
NamesPip violations.UndeclaredReadCycle other = IsSome other
NamesPip violations.ReadRace other = IsSome other
NamesPip violations.DoubleWrite other = IsSome other

-- The line of the verdict has one of the five words for a fault of a tool, and another pip just where its
-- violation concerns one.
abbrev pub HasLine : Verdict → Type 0
HasLine verdicts.Succeeded = ⊤
HasLine verdicts.Skipped = ⊤
HasLine (verdicts.Exit code) = ⊤
HasLine (verdicts.Tool end) = IsToolFault end
HasLine (verdicts.MissingOutput path) = ⊤
HasLine (verdicts.Violated v) = NamesPip v.kind v.other

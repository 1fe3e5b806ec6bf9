-- How pips end.
use Rattle.std.specs.Prelude.{ℕ, Bool, true, false, Option, Some, None}
use Rattle.bx_tree.specs.Paths.{Atoms}
use Rattle.violations.specs.declared.verdict.Verdict.{Verdict}
use Rattle.violations.specs.declared.verdict.Verdict.TheVariants as verdicts
use Rattle.violations.specs.declared.verdict.Violation.{Violation}
use Rattle.violations.specs.declared.verdict.ViolationKind.{ViolationKind}
use Rattle.violations.specs.declared.verdict.DeedKind.{DeedKind}

abbrev pub is_success : Verdict → Bool
is_success verdicts.Succeeded = true
is_success verdicts.Skipped = false
is_success (verdicts.Exit code) = false
is_success (verdicts.Tool end) = false
is_success (verdicts.MissingOutput path) = false
is_success (verdicts.Violated violation) = false

abbrev pub is_skip : Verdict → Bool
is_skip verdicts.Succeeded = false
is_skip verdicts.Skipped = true
is_skip (verdicts.Exit code) = false
is_skip (verdicts.Tool end) = false
is_skip (verdicts.MissingOutput path) = false
is_skip (verdicts.Violated violation) = false

-- a violation that concerns no other pip
abbrev pub alone : ViolationKind → DeedKind → Atoms → Violation
alone kind deed path = record { kind = kind; path = path; deed = deed; other = None }

-- a violation that concerns pip j too
abbrev pub with_pip : ViolationKind → DeedKind → Atoms → ℕ → Violation
with_pip kind deed path j = record { kind = kind; path = path; deed = deed; other = Some j }

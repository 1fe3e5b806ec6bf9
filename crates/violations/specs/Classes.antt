-- What violation a denied access is.
use Rattle.std.specs.Prelude.{ℕ, Bool, List, Option, Some, None, is_some, slice_get, if◌then◌else◌}
use Rattle.bx_tree.specs.Paths.{Atoms}
use Rattle.bx_tree.specs.Trees.{Files, file_at}
use Rattle.pip_model_types.specs.declared.pip.Pip.{Pip}
use Rattle.observed.specs.declared.ask.AskKind.{AskKind}
use Rattle.observed.specs.declared.ask.AskKind.TheVariants as kinds
use Rattle.observed.specs.declared.ask.Ask.{Ask}
use Rattle.observed.specs.declared.access.Access.{Access}
use Rattle.observed.specs.declared.access.Access.TheVariants.{Asked, Wrote, WriteDenied}
use Rattle.observed.specs.declared.access.Answer.{Answer}
use Rattle.observed.specs.declared.access.Answer.TheVariants as answers
use Rattle.violations.specs.Producing.{dirs_at, least_unseen}
use Rattle.violations.specs.declared.verdict.Violation.{Violation}
use Rattle.violations.specs.declared.verdict.ViolationKind.{ViolationKind}
use Rattle.violations.specs.declared.verdict.ViolationKind.TheVariants as violations
use Rattle.violations.specs.declared.verdict.DeedKind.{DeedKind}
use Rattle.violations.specs.declared.verdict.DeedKind.TheVariants as deeds
use Rattle.violations.specs.Leading.{leads}
use Rattle.violations.specs.Verdicts.{alone, with_pip}

-- A denied look at what pip j can produce: ordered where edges lead from pip i to pip j, a cycle where they
-- lead from pip j to pip i, and a race otherwise.
abbrev pub look_kind : List Pip → ℕ → ℕ → ViolationKind
look_kind pips i j =
    if leads pips i j then violations.UndeclaredOrderedRead else
    (if leads pips j i then violations.UndeclaredReadCycle else violations.ReadRace)

-- a denied look at a path that no other pip can produce does not come; it would be a race with nobody
abbrev pub other_class : List Pip → ℕ → DeedKind → Atoms → Option ℕ → Violation
other_class pips i deed path None = alone violations.ReadRace deed path
other_class pips i deed path (Some j) = with_pip (look_kind pips i j) deed path j

-- the least pip other than i that can produce the path by an output that is no input of i
abbrev pub producer : List Pip → ℕ → Atoms → Option ℕ
producer pips i path = least_unseen (dirs_at (slice_get pips i)) i path 0 pips

-- a denied read of a source file lacks a declaration; any other read is judged by who can produce the path
abbrev pub read_class : List Pip → ℕ → Atoms → Bool → Violation
read_class pips i path source =
    if source then alone violations.MissingSourceDependency deeds.Read path
    else other_class pips i deeds.Read path (producer pips i path)

abbrev pub ask_class : List Pip → Files → ℕ → AskKind → Atoms → Option Violation
ask_class pips tree i kinds.Read path = Some (read_class pips i path (is_some (file_at tree path)))
ask_class pips tree i kinds.Probe path = Some (other_class pips i deeds.Probe path (producer pips i path))
ask_class pips tree i kinds.List path = None
ask_class pips tree i (kinds.Match pattern) path = None

abbrev pub answer_class : List Pip → Files → ℕ → Ask → Answer → Option Violation
answer_class pips tree i ask answers.Absent = None
answer_class pips tree i ask (answers.Content bytes) = None
answer_class pips tree i ask answers.File = None
answer_class pips tree i ask answers.Directory = None
answer_class pips tree i ask (answers.Names names) = None
answer_class pips tree i ask answers.Denied = ask_class pips tree i ask.kind ask.path

-- The violation that an access of pip i is, if it was denied.
abbrev pub class_of : List Pip → Files → ℕ → Access → Option Violation
class_of pips tree i (Asked ask answer) = answer_class pips tree i ask answer
class_of pips tree i (Wrote path) = None
class_of pips tree i (WriteDenied path) = Some (alone violations.UndeclaredOutput deeds.Write path)

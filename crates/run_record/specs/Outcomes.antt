-- What a run comes to.
use Rattle.std.specs.Prelude.{ℕ, ◌==◌, List, [], ◌∷◌, Option, Some, None, is_none, if◌then◌else◌}
use Rattle.bx_tree.specs.Paths.{Atoms}
use Rattle.bx_tree.specs.Trees.{Files, file_at}
use Rattle.observed.specs.declared.access.Access.{Access}
use Rattle.observed.specs.declared.access.End.{End}
use Rattle.observed.specs.declared.access.End.TheVariants as ends
use Rattle.tool_run.specs.Description.{Description}
use Rattle.tool_run.specs.Run.{Run}
use Rattle.tool_run_writes.specs.Writes.{with_file}
use Rattle.run_record.specs.declared.outcome.Outcome.{Outcome}
use Rattle.run_record.specs.declared.outcome.Outcome.TheVariants.{Good, Failed}
use Rattle.run_record.specs.declared.outcome.Cause.TheVariants as causes

-- the last of the accesses
abbrev pub last_access : List Access → Option Access
last_access [] = None
last_access (x ∷ []) = Some x
last_access (x ∷ y ∷ rest) = last_access (y ∷ rest)

-- the first of the paths at which nothing was written; output files rise, so it is the least
abbrev pub first_missing : List Atoms → Files → Option Atoms
first_missing [] writes = None
first_missing (out ∷ outs) writes =
    if is_none (file_at writes out) then Some out else first_missing outs writes

-- the written files, and the console file with what was said
abbrev pub with_console : Option Atoms → Files → List ℕ → Files
with_console None writes said = writes
with_console (Some path) writes said = with_file writes path said

-- an output file is missing, or the run succeeded with these files
abbrev pub complete : Option Atoms → Files → Outcome
complete (Some path) files = Failed (causes.MissingOutput path)
complete None files = Good files

-- the access for which a run was ended as denied
abbrev pub refused : Option Access → Outcome
refused (Some access) = Failed (causes.Denied access)
refused None = Failed (causes.Tool ends.Denied)

-- a run that ended with code 0
abbrev pub completed : Description → Run → Outcome
completed d r = complete (first_missing d.outs r.writes) (with_console d.console r.writes r.console)

abbrev pub exited : Description → Run → ℕ → Outcome
exited d r code = if code == 0 then completed d r else Failed (causes.Exit code)

abbrev pub outcome_by_end : Description → Run → End → Outcome
outcome_by_end d r (ends.Exit code) = exited d r code
outcome_by_end d r ends.Denied = refused (last_access r.accesses)
outcome_by_end d r ends.BadProgram = Failed (causes.Tool ends.BadProgram)
outcome_by_end d r ends.BadPath = Failed (causes.Tool ends.BadPath)
outcome_by_end d r ends.Budget = Failed (causes.Tool ends.Budget)
outcome_by_end d r ends.TooLong = Failed (causes.Tool ends.TooLong)
outcome_by_end d r ends.NotADirectory = Failed (causes.Tool ends.NotADirectory)

-- What a run comes to: the files that it made, where it ended with code 0 and wrote each output file; and
-- otherwise the first cause that applies: a denied access, a fault of the tool, another code, a missing
-- output.
abbrev pub outcome_of : Description → Run → Outcome
outcome_of d r = outcome_by_end d r r.end

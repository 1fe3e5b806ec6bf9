-- The words of a report.
use Rattle.std.specs.Prelude.{ℕ, List, codes}
use Rattle.pip_model_types.specs.declared.pip.PipKind.{PipKind}
use Rattle.pip_model_types.specs.declared.pip.PipKind.TheVariants.{Process, Copy, Write, Seal}
use Rattle.observed.specs.declared.access.End.{End}
use Rattle.observed.specs.declared.access.End.TheVariants as ends
use Rattle.violations.specs.declared.verdict.ViolationKind.{ViolationKind}
use Rattle.violations.specs.declared.verdict.ViolationKind.TheVariants as violations
use Rattle.violations.specs.declared.verdict.DeedKind.{DeedKind}
use Rattle.violations.specs.declared.verdict.DeedKind.TheVariants as deeds

abbrev pub pip_name : PipKind → List ℕ
pip_name (Process d) = codes "process"
pip_name (Copy d) = codes "copy"
pip_name (Write d) = codes "write"
pip_name (Seal d) = codes "seal"

-- The name of a fault of a tool. An end with a code is none, and a denied access has a line of its own.
abbrev pub end_name : End → List ℕ
end_name (ends.Exit code) = codes "Exit"
end_name ends.Denied = codes "Denied"
end_name ends.BadProgram = codes "BadProgram"
end_name ends.BadPath = codes "BadPath"
end_name ends.Budget = codes "Budget"
end_name ends.TooLong = codes "TooLong"
end_name ends.NotADirectory = codes "NotADirectory"

abbrev pub violation_name : ViolationKind → List ℕ
violation_name violations.MissingSourceDependency = codes "MissingSourceDependency"
violation_name violations.UndeclaredOrderedRead = codes "UndeclaredOrderedRead"
violation_name violations.UndeclaredReadCycle = codes "UndeclaredReadCycle"
violation_name violations.ReadRace = codes "ReadRace"
violation_name violations.UndeclaredOutput = codes "UndeclaredOutput"
violation_name violations.DoubleWrite = codes "DoubleWrite"

abbrev pub deed_name : DeedKind → List ℕ
deed_name deeds.Read = codes "read"
deed_name deeds.Probe = codes "probe"
deed_name deeds.Write = codes "write"

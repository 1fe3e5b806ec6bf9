-- Results and refusals as contracts see them.
use Rattle.std.specs.Prelude.{Result, MatchResult, ⊤}
use Rattle.bx_tree.specs.Trees.{Files}
use Rattle.dscript_program.specs.declared.spec_fault.SpecFault.{SpecFault}
use Rattle.dscript_program.specs.declared.spec_fault.SpecFault.TheVariants as faults
use Rattle.dscript_program.specs.declared.workspace.Workspace.{Workspace}
use Rattle.dscript_program.specs.Workspaces.{modules_of}
use Rattle.dscript_names_workspace.specs.Workspaces.{Answer, Found, Refused}
use Rattle.dscript_names_workspace.specs.Finding.{Finds}

-- the fault is an answer that holds; running out of memory has no cause that is stated
abbrev pub IsFault : (Answer → Type 0) → SpecFault → Type 0
IsFault Holds (faults.Fault kind file place) =
    Holds (Refused (record { kind = kind; file = file; place = place }))
IsFault Holds faults.Memory = ⊤

-- the workspace or the fault is an answer that holds
abbrev pub Answers : (Answer → Type 0) → Result Workspace SpecFault → Type 0
Answers Holds result = MatchResult result (λ workspace. Holds (Found (modules_of workspace))) (IsFault Holds)

-- the files are refused with this fault
abbrev pub IsRefused : Files → SpecFault → Type 0
IsRefused files fault = IsFault (Finds files) fault

-- What the faults say with which files are read.
use Rattle.std.specs.Prelude.{◌≡◌, ℕ, List, ⊤}
use Rattle.bx_tree.specs.Paths.{Atoms}
use Rattle.bx_tree.specs.Trees.{Files}
use Rattle.dscript_program.specs.SpecFaults.{FaultData}
use Rattle.dscript_program.specs.declared.spec_fault.SpecFault.{SpecFault}
use Rattle.dscript_program.specs.declared.spec_fault.SpecFault.TheVariants as spec_faults
use Rattle.bx_engine_front.specs.Projects.{IsFirstProjectFault, IsIllFormed}
use Rattle.bx_engine_front.specs.Specifications.{IsMalformed}

-- the fault is this one; running out of memory has no cause that is stated
abbrev pub IsSameFault : FaultData → SpecFault → Type 0
IsSameFault found (spec_faults.Fault kind path place) =
    found ≡ record { kind = kind; file = path; place = place }
IsSameFault found spec_faults.Memory = ⊤

-- the file is ill-formed with this fault; running out of memory has no cause that is stated
abbrev pub RefusesFile : Atoms × List ℕ → SpecFault → Type 0
RefusesFile file (spec_faults.Fault kind path place) =
    IsIllFormed file (record { kind = kind; file = path; place = place })
RefusesFile file spec_faults.Memory = ⊤

-- this is the fault of the first file that is ill-formed
abbrev pub RefusesFiles : Files → SpecFault → Type 0
RefusesFiles files (spec_faults.Fault kind path place) =
    IsFirstProjectFault files (record { kind = kind; file = path; place = place })
RefusesFiles files spec_faults.Memory = ⊤

-- the tree is no program, with this fault
abbrev pub RefusesTree : Files → SpecFault → Type 0
RefusesTree tree (spec_faults.Fault kind path place) =
    IsMalformed tree (record { kind = kind; file = path; place = place })
RefusesTree tree spec_faults.Memory = ⊤

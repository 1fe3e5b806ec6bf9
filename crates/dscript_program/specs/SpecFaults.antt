-- Faults as contracts see them.
use Rattle.std.specs.Prelude.{Option}
use Rattle.bx_tree.specs.Paths.{Atoms}
use Rattle.dscript_program.specs.declared.place.Place.{Place}
use Rattle.dscript_program.specs.declared.spec_fault.SpecKind.{SpecKind}
use Rattle.dscript_program.specs.declared.spec_fault.Fault.{Fault}

-- a fault: its kind, its file, and its place where it has one
pub record FaultData : Type 0 where
  pub kind : SpecKind
  pub file : Atoms
  pub place : Option Place

abbrev pub fault_data : Fault → FaultData
fault_data f = record { kind = f.kind; file = f.file; place = f.place }

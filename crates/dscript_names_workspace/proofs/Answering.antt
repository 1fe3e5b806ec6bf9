-- What follows of an answer from what holds of it.
use Rattle.std.proofs.Common.{Ok, Err}
use Rattle.std.specs.Prelude.{Result}
use Rattle.dscript_program.specs.declared.spec_fault.SpecFault.{SpecFault}
use Rattle.dscript_program.specs.declared.spec_fault.SpecFault.TheVariants as faults
use Rattle.dscript_program.specs.declared.workspace.Workspace.{Workspace}
use Rattle.dscript_program.specs.Workspaces.{modules_of}
use Rattle.dscript_names_workspace.specs.Views.{Answers, IsFault}
use Rattle.dscript_names_workspace.specs.Workspaces.{Answer, Found, Refused}

fault_weaker : (P Q : Answer → Type 0) → ((a : Answer) → P a → Q a) → (fault : SpecFault) → IsFault P fault → IsFault Q fault
fault_weaker P Q f (faults.Fault kind file place) h = f (Refused (record { kind = kind; file = file; place = place })) h
fault_weaker P Q f faults.Memory h = h

pub answers_weaker : (P Q : Answer → Type 0) → ((a : Answer) → P a → Q a) → (r : Result Workspace SpecFault)
    → Answers P r → Answers Q r
answers_weaker P Q f (Ok w) h = f (Found (modules_of w)) h
answers_weaker P Q f (Err e) h = fault_weaker P Q f e h

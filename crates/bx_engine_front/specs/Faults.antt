-- What the faults say with which a tree is refused.
use Rattle.std.specs.Prelude.{◌≡◌, ⊤}
use Rattle.bx_tree.specs.Paths.{Atoms}
use Rattle.bx_tree.specs.Trees.{Files}
use Rattle.build_report.specs.declared.refusal.Refusal.{Refusal}
use Rattle.dscript_eval_meaning.specs.declared.fault.EvalFault.{EvalFault}
use Rattle.dscript_eval_meaning.specs.declared.fault.EvalFault.TheVariants as eval_faults
use Rattle.dscript_program.specs.declared.spec_fault.SpecFault.{SpecFault}
use Rattle.dscript_program.specs.declared.spec_fault.SpecFault.TheVariants as spec_faults
use Rattle.dscript_types.specs.declared.fault.TypeFault.{TypeFault}
use Rattle.dscript_types.specs.declared.fault.TypeFault.TheVariants as type_faults
use Rattle.graph_check.specs.declared.fault.GraphFault.{GraphFault}
use Rattle.graph_check.specs.declared.fault.GraphFault.TheVariants as graph_faults
use Rattle.graph_check.specs.declared.fault.GraphKind.{GraphKind}
use Rattle.bx_engine_front.specs.Refusals.{Refuses, refusal_of}
use Rattle.bx_engine_front.specs.Specifications.{SpecificationFault, OfProgram, OfTypes, OfEvaluation, OfGraph}
use Rattle.bx_engine_front.specs.declared.fault.FrontFault.{FrontFault}
use Rattle.bx_engine_front.specs.declared.fault.FrontFault.TheVariants as front_faults
use Rattle.bx_engine_front.specs.declared.limits.Limits.{Limits}

-- the tree is refused so; running out of memory has no cause that is stated
abbrev pub IsRefused : Limits → Files → FrontFault → Type 0
IsRefused limits tree (front_faults.Refused refusal) = Refuses limits tree refusal
IsRefused limits tree front_faults.Memory = ⊤

-- the answer is this refusal, or that memory is wanting
abbrev pub IsRefusal : Refusal → FrontFault → Type 0
IsRefusal refusal (front_faults.Refused other) = other ≡ refusal
IsRefusal refusal front_faults.Memory = ⊤

-- the answer shows this fault
abbrev pub Shows : SpecificationFault → FrontFault → Type 0
Shows fault answer = IsRefusal (refusal_of fault) answer

-- the answer shows a fault of files, where there is one
abbrev pub ShowsFile : SpecFault → FrontFault → Type 0
ShowsFile (spec_faults.Fault kind path place) answer =
    Shows (OfProgram (record { kind = kind; file = path; place = place })) answer
ShowsFile spec_faults.Memory answer = answer ≡ front_faults.Memory

-- the answer shows a file in which some expression has no type, where there is one
abbrev pub ShowsTypes : TypeFault → FrontFault → Type 0
ShowsTypes (type_faults.Untyped file) answer = Shows (OfTypes file) answer
ShowsTypes type_faults.Memory answer = answer ≡ front_faults.Memory

-- the answer shows a fault of evaluation, where there is one
abbrev pub ShowsEvaluation : EvalFault → FrontFault → Type 0
ShowsEvaluation (eval_faults.Fault kind file message) answer = Shows (OfEvaluation kind file message) answer
ShowsEvaluation eval_faults.Memory answer = answer ≡ front_faults.Memory

-- the answer shows a rule of the graph that fails, where one does
abbrev pub ShowsRule : GraphFault → FrontFault → Type 0
ShowsRule (graph_faults.Fault rule pip file) answer = Shows (OfGraph rule file) answer
ShowsRule graph_faults.Memory answer = answer ≡ front_faults.Memory

-- a rule of the graph fails, or memory is wanting
abbrev pub IsOfRule : FrontFault → Type 0
IsOfRule (front_faults.Refused refusal) = (rule : GraphKind) × (file : Atoms) × (refusal ≡ refusal_of (OfGraph rule file))
IsOfRule front_faults.Memory = ⊤

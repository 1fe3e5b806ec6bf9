-- What a report says of a fault of a specification.
use Rattle.std.specs.Prelude.{◌≡◌, ℕ, List, None, codes}
use Rattle.bx_tree.specs.Trees.{Files}
use Rattle.build_report.specs.declared.refusal.Refusal.{Refusal}
use Rattle.build_report.specs.declared.refusal.Refusal.TheVariants.{Specification}
use Rattle.dscript_eval_meaning.specs.declared.fault.EvalKind.{EvalKind}
use Rattle.dscript_eval_meaning.specs.declared.fault.EvalKind.TheVariants as evaluation
use Rattle.dscript_program.specs.declared.spec_fault.SpecKind.{SpecKind}
use Rattle.dscript_program.specs.declared.spec_fault.SpecKind.TheVariants as files
use Rattle.graph_check.specs.declared.fault.GraphKind.{GraphKind}
use Rattle.graph_check.specs.declared.fault.GraphKind.TheVariants as graph
use Rattle.bx_engine_front.specs.Specifications.{HasFault, SpecificationFault, OfProgram, OfTypes, OfEvaluation, OfGraph}
use Rattle.bx_engine_front.specs.declared.limits.Limits.{Limits}

-- ## Names of kinds

abbrev pub file_kind_name : SpecKind → List ℕ
file_kind_name files.Lex = codes "Lex"
file_kind_name files.Syntax = codes "Syntax"
file_kind_name files.ModuleConfig = codes "ModuleConfig"
file_kind_name files.DuplicateModule = codes "DuplicateModule"
file_kind_name files.DuplicateName = codes "DuplicateName"
file_kind_name files.UnknownName = codes "UnknownName"
file_kind_name files.UnknownModule = codes "UnknownModule"
file_kind_name files.NotPublic = codes "NotPublic"
file_kind_name files.AssignCaptured = codes "AssignCaptured"

abbrev pub evaluation_kind_name : EvalKind → List ℕ
evaluation_kind_name evaluation.Kind = codes "Kind"
evaluation_kind_name evaluation.Missing = codes "Missing"
evaluation_kind_name evaluation.Cycle = codes "Cycle"
evaluation_kind_name evaluation.Range = codes "Range"
evaluation_kind_name evaluation.BadPath = codes "BadPath"
evaluation_kind_name evaluation.Depth = codes "Depth"
evaluation_kind_name evaluation.Budget = codes "Budget"
evaluation_kind_name evaluation.BadArgument = codes "BadArgument"
evaluation_kind_name evaluation.User = codes "User"

abbrev pub rule_name : GraphKind → List ℕ
rule_name graph.DoubleProducer = codes "DoubleProducer"
rule_name graph.Overlap = codes "Overlap"
rule_name graph.NoSuchSource = codes "NoSuchSource"
rule_name graph.OutsideOut = codes "OutsideOut"
rule_name graph.Twin = codes "Twin"
rule_name graph.Limit = codes "Limit"

-- ## Refusals

-- The kind and the file of a fault, the message that the specification gave, and the place of a text that
-- cannot be read.
abbrev pub refusal_of : SpecificationFault → Refusal
refusal_of (OfProgram fault) = Specification (file_kind_name fault.kind) fault.file None fault.place
refusal_of (OfTypes file) = Specification (codes "Type") file None None
refusal_of (OfEvaluation kind file message) = Specification (evaluation_kind_name kind) file message None
refusal_of (OfGraph rule file) = Specification (rule_name rule) file None None

-- the tree is refused so
pub record Refuses (limits : Limits) (tree : Files) (refusal : Refusal) : Type 0 where
  pub fault : SpecificationFault
  pub has : HasFault limits tree fault
  pub shown : refusal ≡ refusal_of fault

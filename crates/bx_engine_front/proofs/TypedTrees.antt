-- Where types are checked, no tree has a fault of kinds.
use Rattle.std.proofs.Common.{◌≡◌, ℕ, List, subst}
use Rattle.std.specs.Prelude.{Result, Ok, Err, Option, true}
use Rattle.bx_tree.specs.Paths.{Atoms}
use Rattle.bx_tree.specs.Trees.{Files}
use Rattle.dscript_eval_meaning.specs.Meaning.{Refusal, Refused as Stopped, meaning}
use Rattle.dscript_eval_meaning.specs.declared.fault.EvalKind.{EvalKind}
use Rattle.dscript_names.specs.Named.{named}
use Rattle.dscript_names_scopes.specs.Declarations.{ParsedData}
use Rattle.dscript_program.specs.ProgramData.{ProgramData}
use Rattle.dscript_program.specs.Workspaces.{ModuleData}
use Rattle.dscript_types_laws.specs.Kinds.{IsNoKindFault, KeepsToKinds}
use Rattle.dscript_types_meaning.specs.Typed.{IsTyped}
use Rattle.pip_model_types.specs.declared.pip.Pip.{Pip}
use Rattle.bx_engine_front.specs.Specifications.{HasFault, OfEvaluation}
use Rattle.bx_engine_front.specs.declared.limits.Limits.{Limits}

abbrev TypedKeep : Type 0
TypedKeep =
    (modules : List ModuleData) (files : List ParsedData) (p : ProgramData) → named modules files ≡ Ok p → IsTyped p
    → (sources : Files) (budget : ℕ) → KeepsToKinds (meaning p sources budget)

pub typed_trees
    : (limits : Limits) (tree : Files) (kind : EvalKind) (file : Atoms) (message : Option (List ℕ)) → limits.types ≡ true
    → HasFault limits tree (OfEvaluation kind file message) → TypedKeep → IsNoKindFault kind
typed_trees limits tree kind file message asked fault keep =
    subst (λ (r : Result (List Pip) Refusal). KeepsToKinds r) fault.3
    (keep fault.1.modules fault.1.parsed fault.0 fault.1.names (fault.2 asked) tree limits.eval_budget)

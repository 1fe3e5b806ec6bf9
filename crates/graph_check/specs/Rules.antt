-- The rules of the graph in their order, and the first that fails.
use Rattle.std.specs.Prelude.{◌≡◌, ℕ, ◌<◌, List, IsSomeAnd, slice_get, ◌⊎◌}
use Rattle.bx_tree.specs.Paths.{Atoms}
use Rattle.bx_tree.specs.Trees.{Files}
use Rattle.pip_model_types.specs.declared.pip.Pip.{Pip}
use Rattle.graph_check.specs.declared.fault.GraphKind.{GraphKind}
use Rattle.graph_check.specs.declared.fault.GraphKind.TheVariants.{DoubleProducer, Overlap, NoSuchSource}
use Rattle.graph_check.specs.declared.fault.GraphKind.TheVariants.{OutsideOut, Twin, Limit}
use Rattle.graph_check.specs.declared.fault.GraphFault.{GraphFault}
use Rattle.graph_check.specs.declared.fault.GraphFault.TheVariants.{Fault, Memory}
use Rattle.graph_check_outputs.specs.DoubleProducer.{DoubleProducerAt}
use Rattle.graph_check_outputs.specs.Overlap.{OverlapAt}
use Rattle.graph_check.specs.NoSuchSource.{NoSuchSourceAt}
use Rattle.graph_check_outputs.specs.OutsideOut.{OutsideOutAt}
use Rattle.graph_check.specs.Twin.{TwinAt}
use Rattle.graph_check.specs.Limit.{LimitAt}

-- the rule fails at pip i
abbrev pub FailsAt : GraphKind → List Pip → Files → ℕ → Type 0
FailsAt DoubleProducer pips tree i = DoubleProducerAt pips i
FailsAt Overlap pips tree i = OverlapAt pips i
FailsAt NoSuchSource pips tree i = NoSuchSourceAt pips tree i
FailsAt OutsideOut pips tree i = OutsideOutAt pips i
FailsAt Twin pips tree i = TwinAt pips i
FailsAt Limit pips tree i = LimitAt pips i

-- the order in which the rules are tried
abbrev pub rank : GraphKind → ℕ
rank DoubleProducer = 1
rank Overlap = 2
rank NoSuchSource = 3
rank OutsideOut = 4
rank Twin = 5
rank Limit = 6

-- the rule fails at no pip
abbrev pub RuleHolds : GraphKind → List Pip → Files → Type 0
RuleHolds rule pips tree = (i : ℕ) → FailsAt rule pips tree i → ⊥

-- all rules hold
abbrev pub KeepsRules : List Pip → Files → Type 0
KeepsRules pips tree = (rule : GraphKind) → RuleHolds rule pips tree

-- The rules before this one hold, this one fails first at this pip, and the pip has this specification file.
pub record IsFirstBrokenRule (pips : List Pip) (tree : Files) (rule : GraphKind) (pip : ℕ) (file : Atoms)
    : Type 0 where
  pub earlier_rules : (earlier : GraphKind) → rank earlier < rank rule → RuleHolds earlier pips tree
  pub earlier_pips : (earlier : ℕ) → earlier < pip → FailsAt rule pips tree earlier → ⊥
  pub fails : FailsAt rule pips tree pip
  pub spec : IsSomeAnd (slice_get pips pip) (λ (p : Pip). p.spec ≡ file)

-- what a refusal says of the pips
abbrev pub IsRefusal : List Pip → Files → GraphFault → Type 0
IsRefusal pips tree (Fault rule pip file) = IsFirstBrokenRule pips tree rule pip file
IsRefusal pips tree Memory = Unit {0}

-- the pips keep the rules, or have a first fault
abbrev pub HasAnswer : List Pip → Files → Type 0
HasAnswer pips tree =
    KeepsRules pips tree
    ⊎ ((rule : GraphKind) × (pip : ℕ) × (file : Atoms) × IsFirstBrokenRule pips tree rule pip file)

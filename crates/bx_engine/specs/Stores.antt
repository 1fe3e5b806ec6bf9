-- The stores of a build: what is asked of them, and what is left of the store of results.
use Rattle.std.specs.Prelude.{◌⊎◌, ℕ, Bool, true, false, ◌&&◌, List, Option, ⊤}
use Rattle.bx_tree.specs.Trees.{Files}
use Rattle.bx_io.specs.Holdings.{Holdings, Keeps, StoreTold}
use Rattle.build_report.specs.declared.counts.GraphLine.{GraphLine}
use Rattle.bx_engine_front.specs.Specifications.{Plans}
use Rattle.bx_engine_front.specs.StoreChanges.{StoreChange}
use Rattle.bx_engine_front.specs.declared.limits.Limits.{Limits}
use Rattle.bx_engine_words.specs.Words.{asks_graphs}
use Rattle.bx_engine_words.specs.declared.order.Order.{Order}
use Rattle.bx_engine_words.specs.declared.order.Order.TheVariants.{Build, Check, Gen, Repair, Trim}
use Rattle.pip_model_types.specs.declared.pip.Pip.{Pip}
use Rattle.graph_check.specs.Rules.{KeepsRules}
use Rattle.two_phase.specs.Putting.{LeavesHonest}
use Rattle.retire.specs.Builds.{Fair, LeavesFair}
use Rattle.bx_engine.specs.Ends.{AreSources}
use Rattle.bx_engine.specs.Expected.{limits_of}
use Rattle.bx_engine.specs.Graphs.{FairGraphsWhere, TellsLineWhere}

-- whether the order lets the call use the store
abbrev pub uses_store : Order → Bool
uses_store (Build workers cached eval_budget tool_budget types graphs) = cached
uses_store Check = true
uses_store Repair = true
uses_store (Trim keep) = true
uses_store (Gen seed pips) = false

-- whether the order lets the call use the store of graphs
abbrev pub uses_graphs : Order → Bool
uses_graphs order = asks_graphs order && uses_store order

-- ## What is asked of the stores

-- Where the store is used and the input asks for a build: the store tells what it holds before the call, and
-- after it still tells, so that no answer disagreed; what it held is honest; and there is no hash collision among the
-- contents compared in the build. Nothing is asked where the store is not used.
abbrev pub FairWhere : Bool → Limits → List ℕ → Option Holdings → Option Holdings → Type 0
FairWhere false limits input before now = ⊤
FairWhere true limits input before now =
    (sources : Files) (pips : List Pip) → AreSources input sources → Plans limits sources pips
    → Fair pips sources limits.tool_budget true before now

-- what is asked of the store of graphs of an order
abbrev pub FairGraphStore : Order → List ℕ → Option StoreChange → Type 0
FairGraphStore order input graphs = FairGraphsWhere graphs (uses_graphs order) (limits_of order) input

-- what is asked of the stores of an order
pub record FairStore (order : Order) (input : List ℕ) (before now : Option Holdings) (graphs : Option StoreChange)
    : Type 0 where
  pub store : FairWhere (uses_store order) (limits_of order) input before now
  pub graph_store : FairGraphStore order input graphs

-- what the notes of an order say of where these pips came from
abbrev pub TellsLine : Order → List ℕ → Option StoreChange → List Pip → Option GraphLine → Type 0
TellsLine order input graphs pips line =
    TellsLineWhere (asks_graphs order) (uses_store order) graphs (limits_of order) input pips line

-- ## What is left of the store

-- the input asks for these pips
abbrev pub AsksFor : Limits → List ℕ → List Pip → Type 0
AsksFor limits input pips = (sources : Files) × AreSources input sources × Plans limits sources pips

-- these pips keep all rules of the graph over the files of the input
abbrev pub KeepRulesOf : List ℕ → List Pip → Type 0
KeepRulesOf input pips = (sources : Files) × AreSources input sources × KeepsRules pips sources

-- The store is as it was, or as the build which the input asks for leaves it.
abbrev pub LeftOfBuild : Limits → List ℕ → Holdings → StoreTold → StoreTold → Type 0
LeftOfBuild limits input held before now =
    Keeps before now
    ⊎ ((sources : Files) × (pips : List Pip) × AreSources input sources × Plans limits sources pips
    × LeavesFair pips sources limits.tool_budget held before now)

-- An honest store that held this is left: it was honest before each change and after it, and it is as it was or
-- as the build leaves it.
pub record StoreLeft (limits : Limits) (input : List ℕ) (held : Holdings) (before now : StoreTold) : Type 0 where
  pub honest : LeavesHonest held before now
  pub came : LeftOfBuild limits input held before now

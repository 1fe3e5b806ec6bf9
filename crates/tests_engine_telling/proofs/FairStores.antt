-- A store that tells what it holds, before a build and after it, is fair where what it holds is.
use Rattle.std.proofs.Common.{◌≡◌, ◌∙◌, ℕ, Bool, true, false, List, Option, Some, None}
use Rattle.std.specs.Prelude.{IsSome}
use Rattle.bx_tree.specs.Trees.{Files}
use Rattle.bx_io.specs.Holdings.{Holdings, held_in}
use Rattle.pip_model_types.specs.declared.pip.Pip.{Pip}
use Rattle.bx_engine_front.specs.Graphs.{FairGraphs}
use Rattle.bx_engine_front.specs.Specifications.{Plans}
use Rattle.bx_engine_front.specs.StoreChanges.{StoreChange}
use Rattle.bx_engine_front.specs.declared.limits.Limits.{Limits}
use Rattle.bx_engine_words.specs.declared.order.Order.{Order}
use Rattle.retire.specs.Builds.{IsFair}
use Rattle.bx_engine.specs.Ends.{AreSources}
use Rattle.bx_engine.specs.Expected.{limits_of}
use Rattle.bx_engine.specs.Graphs.{FairGraphsWhere}
use Rattle.bx_engine.specs.Stores.{FairStore, FairWhere, uses_graphs, uses_store}
use Rattle.tests_engine_telling.specs.FairBuild.{AreFairGraphs, IsFairBuild}

fair_where : (cached : Bool) (limits : Limits) (input : List ℕ) (held : Holdings) (before now : Option Holdings) → before ≡ Some held → IsSome now
    → ((sources : Files) (pips : List Pip) → AreSources input sources → Plans limits sources pips → IsFair pips sources limits.tool_budget held)
    → FairWhere cached limits input before now
fair_where false limits input held before now was tells fair = tt
fair_where true limits input held before now was tells fair = λ sources pips s plans. record {
  held = held;
  told = was;
  tells = tells;
  fair = fair sources pips s plans;
}

pub fair_store : (order : Order) (input : List ℕ) (held : Holdings) (before now : Option Holdings) → before ≡ Some held → IsSome now → IsFairBuild order input held
    → FairStore order input before now None
fair_store order input held before now was tells fair = record {
  store = fair_where (uses_store order) (limits_of order) input held before now was tells fair;
  graph_store = tt;
}

graphs_where : (used : Bool) (limits : Limits) (input : List ℕ) (held : Holdings) (change : StoreChange) → held_in change.before ≡ Some held
    → IsSome (held_in change.now) → ((sources : Files) → AreSources input sources → FairGraphs limits sources (Some held) (Some held))
    → FairGraphsWhere (Some change) used limits input
graphs_where false limits input held change was tells fair = tt
graphs_where true limits input held change was tells fair = λ sources are modules found.
    let f = fair sources are modules found in
    record { held = f.held; told = was ∙ f.told; tells = tells; honest = f.honest; apart = f.apart }

pub fair_stores : (order : Order) (input : List ℕ) (held graphs : Holdings) (before now : Option Holdings) (change : StoreChange) → before ≡ Some held
    → IsSome now → IsFairBuild order input held → held_in change.before ≡ Some graphs → IsSome (held_in change.now) → AreFairGraphs order input graphs
    → FairStore order input before now (Some change)
fair_stores order input held graphs before now change was tells fair graphs_was graphs_tell graphs_fair = record {
  store = fair_where (uses_store order) (limits_of order) input held before now was tells fair;
  graph_store = graphs_where (uses_graphs order) (limits_of order) input graphs change graphs_was graphs_tell graphs_fair;
}

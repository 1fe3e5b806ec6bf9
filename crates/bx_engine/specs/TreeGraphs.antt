-- Plans whose pips may come from a store of graphs.
use Rattle.std.specs.Prelude.{◌≡◌, Bool, true, false, List, Option, Some, None, ⊤}
use Rattle.bx_io.specs.Holdings.{Holdings}
use Rattle.bx_tree.specs.Trees.{Files}
use Rattle.build_report.specs.declared.counts.GraphLine.{GraphLine}
use Rattle.build_report.specs.declared.counts.GraphLine.TheVariants.{Ran}
use Rattle.bx_engine_front.specs.Graphs.{FairGraphs, TellsGraphs}
use Rattle.bx_engine_front.specs.StoreChanges.{StoreChange}
use Rattle.bx_engine_front.specs.declared.limits.Limits.{Limits}
use Rattle.bx_engine_words.specs.Words.{asks_graphs}
use Rattle.bx_engine_words.specs.declared.order.Order.{Order}
use Rattle.pip_model_types.specs.declared.pip.Pip.{Pip}
use Rattle.bx_engine.specs.Expected.{limits_of}
use Rattle.bx_engine.specs.Stores.{uses_store}

-- the store of graphs is fair for a tree, where it is used
abbrev pub IsFairFor : Bool → Limits → Files → Option Holdings → Option Holdings → Type 0
IsFairFor false limits tree before now = ⊤
IsFairFor true limits tree before now = FairGraphs limits tree before now

-- what the line says of a tree, by whether a store of graphs is asked for and whether a store is used
abbrev pub TellsTreeWhere : Bool → Bool → Limits → Files → StoreChange → List Pip → Option GraphLine → Type 0
TellsTreeWhere false cached limits tree change pips line = line ≡ None
TellsTreeWhere true false limits tree change pips line = line ≡ Some Ran
TellsTreeWhere true true limits tree change pips line =
    (told : GraphLine) × (line ≡ Some told) × TellsGraphs limits tree change pips told

abbrev pub TellsPlanned : Order → Files → StoreChange → List Pip → Option GraphLine → Type 0
TellsPlanned order tree change pips line =
    TellsTreeWhere (asks_graphs order) (uses_store order) (limits_of order) tree change pips line

-- What is asked of a store that tells what it holds.
use Rattle.std.specs.Prelude.{ℕ, List, Some}
use Rattle.bx_tree.specs.Trees.{Files}
use Rattle.bx_io.specs.Holdings.{Holdings}
use Rattle.pip_model_types.specs.declared.pip.Pip.{Pip}
use Rattle.bx_engine_front.specs.Graphs.{FairGraphs}
use Rattle.bx_engine_front.specs.Specifications.{Plans}
use Rattle.bx_engine_words.specs.declared.order.Order.{Order}
use Rattle.retire.specs.Builds.{IsFair}
use Rattle.bx_engine.specs.Ends.{AreSources}
use Rattle.bx_engine.specs.Expected.{limits_of}

-- What is held is fair for the build that the input asks for.
abbrev pub IsFairBuild : Order → List ℕ → Holdings → Type 0
IsFairBuild order input held =
    (sources : Files) (pips : List Pip) → AreSources input sources → Plans (limits_of order) sources pips
    → IsFair pips sources (limits_of order).tool_budget held

-- What a store of graphs holds is fair for the build that the input asks for.
abbrev pub AreFairGraphs : Order → List ℕ → Holdings → Type 0
AreFairGraphs order input held =
    (sources : Files) → AreSources input sources → FairGraphs (limits_of order) sources (Some held) (Some held)

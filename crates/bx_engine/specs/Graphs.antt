-- The store of graphs of a call: what is asked of it, what the notes say of it, and what is left of it.
use Rattle.std.specs.Prelude.{◌≡◌, ◌≤◌, ℕ, Bool, true, false, List, Option, Some, None, IsSome, ⊤}
use Rattle.bx_io.specs.Holdings.{Holdings, held_in}
use Rattle.bx_tree.specs.Trees.{Files}
use Rattle.build_report.specs.declared.counts.GraphLine.{GraphLine}
use Rattle.build_report.specs.declared.counts.GraphLine.TheVariants.{Ran}
use Rattle.bx_engine_front.specs.Graphs.{FairGraphs, OnlyKeepsGraph, TellsGraphs}
use Rattle.bx_engine_front.specs.StoreChanges.{StoreChange}
use Rattle.bx_engine_front.specs.declared.limits.Limits.{Limits}
use Rattle.graph_memo.specs.Keeping.{LeavesHonest}
use Rattle.graph_memo_meaning.specs.Honest.{HonestGraphs}
use Rattle.pip_model_types.specs.declared.pip.Pip.{Pip}
use Rattle.bx_engine.specs.Ends.{AreSources}

-- ## What is asked of it

-- Where there is a store of graphs and it is used, and the input asks for a build: it is fair. Nothing is asked
-- otherwise.
abbrev pub FairGraphsWhere : Option StoreChange → Bool → Limits → List ℕ → Type 0
FairGraphsWhere None used limits input = ⊤
FairGraphsWhere (Some change) false limits input = ⊤
FairGraphsWhere (Some change) true limits input =
    (sources : Files) → AreSources input sources
    → FairGraphs limits sources (held_in change.before) (held_in change.now)

-- ## What the notes say of it

-- the line says of each tree that the input is where these pips came from
abbrev pub TellsOfInput : Option StoreChange → Limits → List ℕ → List Pip → GraphLine → Type 0
TellsOfInput None limits input pips line = ⊤
TellsOfInput (Some change) limits input pips line =
    (sources : Files) → AreSources input sources → TellsGraphs limits sources change pips line

-- There is no line where a store of graphs is not asked for. Where one is, but no store is used, the line says that the
-- specifications were evaluated. Otherwise it says where the pips came from.
abbrev pub TellsLineWhere : Bool → Bool → Option StoreChange → Limits → List ℕ → List Pip → Option GraphLine → Type 0
TellsLineWhere false cached graphs limits input pips line = line ≡ None
TellsLineWhere true false graphs limits input pips line = line ≡ Some Ran
TellsLineWhere true true graphs limits input pips line =
    (told : GraphLine) × (line ≡ Some told) × TellsOfInput graphs limits input pips told

-- ## What is left of it

-- Nothing was done to it but that what some tree makes within some limits was put, and its count of faults did not
-- fall.
pub record KeepsGraphs (change : StoreChange) : Type 0 where
  pub limits : Limits
  pub tree : Files
  pub only : OnlyKeepsGraph limits tree change.before change.now
  pub later : change.faults_before ≤ change.faults_now

abbrev pub KeptGraphs : Option StoreChange → Type 0
KeptGraphs None = ⊤
KeptGraphs (Some change) = KeepsGraphs change

-- what was put is what the input makes
abbrev pub KeepsOfInput : Option StoreChange → Limits → List ℕ → Type 0
KeepsOfInput None limits input = ⊤
KeepsOfInput (Some change) limits input =
    (sources : Files) → AreSources input sources → OnlyKeepsGraph limits sources change.before change.now

-- an honest store of graphs that still tells was honest before each change and after it
abbrev pub LeavesGraphs : Option StoreChange → Type 0
LeavesGraphs None = ⊤
LeavesGraphs (Some change) =
    (held : Holdings) → held_in change.before ≡ Some held → IsSome (held_in change.now) → HonestGraphs held
    → LeavesHonest held change.before change.now

-- an honest store of graphs is left honest
abbrev pub HonestGraphsLeft : Option StoreChange → Type 0
HonestGraphsLeft None = ⊤
HonestGraphsLeft (Some change) =
    (held now : Holdings) → held_in change.before ≡ Some held → HonestGraphs held → held_in change.now ≡ Some now
    → HonestGraphs now

-- It is as it was.
abbrev pub SameGraphs : Option StoreChange → Type 0
SameGraphs None = ⊤
SameGraphs (Some change) = change.now ≡ change.before

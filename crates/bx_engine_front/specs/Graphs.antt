-- The store of graphs in a build: what is asked of it, what is said of where the pips came from, and what is left of
-- it.
use Rattle.std.specs.Prelude.{◌≡◌, ◌⊎◌, ℕ, ◌≤◌, Bool, false, List, Option, Some, None, IsSome, option_map}
use Rattle.bx_io.specs.Causes.{Rose}
use Rattle.bx_io.specs.Holdings.{Holdings, Keeps, StoreTold, held_in}
use Rattle.bx_tree.specs.Trees.{Files}
use Rattle.build_report.specs.declared.counts.GraphLine.{GraphLine}
use Rattle.build_report.specs.declared.counts.GraphLine.TheVariants.{Hit, Ran, Fault}
use Rattle.dscript_eval_meaning.specs.Meaning.{Made}
use Rattle.dscript_names_workspace.specs.Finding.{Finds}
use Rattle.dscript_names_workspace.specs.Workspaces.{Found}
use Rattle.dscript_program.specs.ProgramData.{ProgramData}
use Rattle.dscript_program.specs.Views.{program_data}
use Rattle.dscript_program.specs.Workspaces.{ModuleData}
use Rattle.dscript_program.specs.declared.program.Program.{Program}
use Rattle.pip_model_types.specs.declared.pip.Pip.{Pip}
use Rattle.run_record.specs.Collisions.{NoCollision}
use Rattle.graph_memo_meaning.specs.Compared.{ComparedInFind, ComparedInKeep}
use Rattle.graph_memo_meaning.specs.Honest.{HonestGraphs}
use Rattle.graph_memo_meaning.specs.Usable.{HasUsableGraph}
use Rattle.graph_memo_meaning.specs.Work.{Evaluates, Work, own_answers}
use Rattle.graph_memo.specs.Finding.{Leads}
use Rattle.graph_memo.specs.Keeping.{KeepsUpTo, LeavesHonest}
use Rattle.bx_engine_front.specs.Faults.{IsOfRule, IsRefused}
use Rattle.bx_engine_front.specs.Specifications.{IsProgramOf, MakesPips, PassesTypes}
use Rattle.bx_engine_front.specs.StoreChanges.{StoreChange}
use Rattle.bx_engine_front.specs.declared.fault.FrontFault.{FrontFault}
use Rattle.bx_engine_front.specs.declared.limits.Limits.{Limits}

-- what is evaluated: the modules of a tree, within the budget
abbrev pub work_in : Limits → Files → List ModuleData → Work
work_in limits tree modules = record { budget = limits.eval_budget; modules = modules; sources = tree }

-- ## What is evaluated

-- The program of the modules of a tree, which passes the check of its types, where that is asked for; none where it is not.
abbrev pub IsTypedIn : Limits → Files → List ModuleData → Option ProgramData → Type 0
IsTypedIn limits tree modules (Some program) = IsProgramOf tree modules program × PassesTypes limits program
IsTypedIn limits tree modules None = limits.types ≡ false

abbrev pub typed_data : Option Program → Option ProgramData
typed_data typed = option_map program_data typed

-- what the program of the modules of a tree makes and asks, which passes the check of its types
pub record EvaluatesIn (limits : Limits) (tree : Files) (modules : List ModuleData) (made : Made) : Type 0 where
  pub evaluates : Evaluates (work_in limits tree modules) (own_answers (work_in limits tree modules)) made
  pub types : PassesTypes limits evaluates.program

-- ## What is asked of it

-- What is compared in a build: where an entry is looked for, and where the one that evaluation makes is kept.
abbrev pub ComparedGraphs : Holdings → Work → List ℕ → Type 0
ComparedGraphs G w x =
    ComparedInFind G w x
    ⊎ ((made : Made) × Evaluates w (own_answers w) made × ComparedInKeep G w made.1 x)

-- The store of graphs tells what it holds before the call, and after it still tells, so that no answer disagreed; what
-- it held is honest; and there is no hash collision among the texts compared.
pub record FairGraph (w : Work) (before now : Option Holdings) : Type 0 where
  pub held : Holdings
  pub told : before ≡ Some held
  pub tells : IsSome now
  pub honest : HonestGraphs held
  pub apart : NoCollision (ComparedGraphs held w)

-- that, where the tree has modules
abbrev pub FairGraphs : Limits → Files → Option Holdings → Option Holdings → Type 0
FairGraphs limits tree before now =
    (modules : List ModuleData) → Finds tree (Found modules) → FairGraph (work_in limits tree modules) before now

-- ## Where the pips came from

-- Of a store that still tells, that the pips were taken from it says that they are those of a usable entry, and that the
-- specifications were evaluated that none was usable. Nothing was put where they were taken from it. A failed call says
-- that the readers of the store may fail, or that its count of faults rose. But for that, its count is as it was, and an
-- entry is usable afterwards.
pub record TellsGraph (w : Work) (change : StoreChange) (pips : List Pip) (line : GraphLine) : Type 0 where
  pub hit : line ≡ Hit → (G : Holdings) → held_in change.before ≡ Some G → IsSome (held_in change.now)
      → Leads G w pips
  pub kept : line ≡ Hit → Keeps change.before change.now
  pub ran : line ≡ Ran → (G : Holdings) → held_in change.before ≡ Some G → IsSome (held_in change.now)
      → HasUsableGraph G w → ⊥
  pub fault : line ≡ Fault → change.bound ≡ Some 0 → Rose change.faults_before change.faults_now
  pub seen : (line ≡ Fault → ⊥) → change.faults_now ≡ change.faults_before
  pub usable : (line ≡ Fault → ⊥) → (G S : Holdings) → held_in change.before ≡ Some G → held_in change.now ≡ Some S
      → HasUsableGraph S w

-- What is known of pips that are evaluated where a reader of the store failed before, or none did. It says nothing of
-- what was found.
pub record EvaluatedTells (w : Work) (change : StoreChange) (failed : Bool) (line : GraphLine) : Type 0 where
  pub no_hit : line ≡ Hit → ⊥
  pub ran : line ≡ Ran → failed ≡ false
  pub fault : line ≡ Fault → failed ≡ false → Rose change.faults_before change.faults_now
  pub seen : (line ≡ Fault → ⊥) → change.faults_now ≡ change.faults_before
  pub usable : (line ≡ Fault → ⊥) → (G S : Holdings) → held_in change.before ≡ Some G → held_in change.now ≡ Some S
      → HasUsableGraph S w

-- that, of the modules of a tree
abbrev pub TellsGraphs : Limits → Files → StoreChange → List Pip → GraphLine → Type 0
TellsGraphs limits tree change pips line =
    (modules : List ModuleData) → Finds tree (Found modules) → TellsGraph (work_in limits tree modules) change pips line

-- Pips that come from a store of graphs or from evaluation: they are those that the tree makes, if the store is fair
-- where they were taken from it.
pub record FromGraphs (limits : Limits) (tree : Files) (change : StoreChange) (pips : List Pip) (line : GraphLine)
    : Type 0 where
  pub makes : (line ≡ Hit → FairGraphs limits tree (held_in change.before) (held_in change.now))
      → MakesPips limits tree pips
  pub tells : TellsGraphs limits tree change pips line

-- The tree is refused so. A rule of the graph may fail for pips that were taken from the store, and so it is one of the
-- tree where that is fair.
abbrev pub RefusesBy : Type 0 → Limits → Files → FrontFault → Type 0
RefusesBy fair limits tree fault =
    IsRefused limits tree fault ⊎ (IsOfRule fault × (fair → IsRefused limits tree fault))

-- ## What is left of it

-- The store is as it was, or what the modules of the tree make was put, all or up to some place.
abbrev pub OnlyKeepsGraph : Limits → Files → StoreTold → StoreTold → Type 0
OnlyKeepsGraph limits tree before now =
    Keeps before now
    ⊎ ((modules : List ModuleData) × Finds tree (Found modules) × (made : Made) × EvaluatesIn limits tree modules made
    × KeepsUpTo before now (work_in limits tree modules) made)

-- Nothing was done to the store but that what the tree makes was put, and its count of faults did not fall. An honest
-- one was honest before each change and after it, where it is fair.
pub record GraphsLeft (limits : Limits) (tree : Files) (change : StoreChange) : Type 0 where
  pub only : OnlyKeepsGraph limits tree change.before change.now
  pub later : change.faults_before ≤ change.faults_now
  pub honest : (held : Holdings) → held_in change.before ≡ Some held → IsSome (held_in change.now) → HonestGraphs held
      → FairGraphs limits tree (held_in change.before) (held_in change.now)
      → LeavesHonest held change.before change.now

-- What the program promises beyond its one page.
use Rattle.std.specs.Prelude.{◌≡◌, ◌≢◌, ◌⊎◌, ◌↔◌, ℕ, false, List, Some}
use Rattle.bx_io.specs.Causes.{HasCause}
use Rattle.bx_io.specs.Holdings.{Holdings, held_in}
use Rattle.bx_engine_words.specs.Words.{IsBuild, IsCare}
use Rattle.bx_engine_words.specs.declared.order.Order.{Order}
use Rattle.bx_engine_words.specs.declared.order.Order.TheVariants.{Check, Gen, Repair, Trim}
use Rattle.retire.specs.Saving.{OnlyPuts}
use Rattle.two_phase_meaning.specs.Honest.{Honest}
use Rattle.bx_engine.specs.Calls.{Call}
use Rattle.bx_engine.specs.Care.{OfCheck, OfRepair, OfTrim}
use Rattle.bx_engine.specs.Counting.{AppendsNoted, AppendsNotes, IsShown}
use Rattle.bx_engine.specs.Ending.{usage_text}
use Rattle.bx_engine.specs.Expected.{Answers, limits_of}
use Rattle.bx_engine.specs.Known.{Appends, GivesPiece, IsInput, IsReadOut, LeavesRest}
use Rattle.bx_engine.specs.Responses.{IsRuleReport}
use Rattle.bx_engine.specs.Workloads.{OfGen}
use Rattle.bx_engine.specs.OutputTrees.{IsTreeBegun, IsTreeWritten}
use Rattle.bx_engine.specs.Statuses.{HasNoNotes, IsGone, IsRefusal, IsSilent, IsWhole}
use Rattle.bx_engine.specs.Graphs.{KeepsOfInput, KeptGraphs, LeavesGraphs, SameGraphs}
use Rattle.bx_engine.specs.Stores.{FairGraphStore, FairStore, StoreLeft, uses_graphs, uses_store}
use Rattle.bx_engine.specs.declared.status.Status.TheVariants as statuses

-- Of the same calls as the headline:
pub record Beyond (call : Call) (input : List ℕ) (order : Order)
    (fair : FairStore order input (held_in call.store.before) (held_in call.store.now) call.graphs) : Type 0 where
  -- the notes count the processes of the sequential build, by what the store has for them;
  pub notes : IsWhole call.status → AppendsNotes call input order
  -- an honest store was honest before each change and after it, and is as it was or as the sequential build leaves it.
  pub left : (held : Holdings) → held_in call.store.before ≡ Some held → Honest held
      → StoreLeft (limits_of order) input held call.store.before call.store.now

-- a report that a rule of the graph fails was appended
pub record ReportsRule (before now : List ℕ) : Type 0 where
  pub bytes : List ℕ
  pub report : IsRuleReport bytes
  pub appended : Appends before now bytes

-- Of every input and order, whatever the store holds and answers:
pub record OfInput (call : Call) (input : List ℕ) (order : Order) : Type 0 where
  -- a refusal has the expected status and bytes, that by a rule of the graph over a store of graphs that is fair;
  pub refused_input : call.status ≡ statuses.InputRefused
      → Answers order input call.status call.out.before call.out.now
  pub refused : IsRefusal call.status → Answers order input call.status call.out.before call.out.now
      ⊎ (ReportsRule call.out.before call.out.now × (FairGraphStore order input call.graphs
      → Answers order input call.status call.out.before call.out.now))
  -- nothing is done to the store of graphs but that what the input makes is put, and an honest one that is fair was honest
  -- before each change and after it;
  pub kept_graphs : KeepsOfInput call.graphs (limits_of order) input
  pub graphs_left : FairGraphStore order input call.graphs → LeavesGraphs call.graphs
  -- the status, the output and the notes of a build that is not refused are those of pips that were gone through.
  pub shown : IsGone call.status → IsShown call input order

-- Of every build, whatever its outside:
pub record OfEachBuild (call : Call) : Type 0 where
  -- the status is one of these;
  pub status : IsWhole call.status ⊎ IsSilent call.status ⊎ (call.status ≡ statuses.OutFailed)
  -- before anything is answered it is read to its end, or to one byte past the limit, and no further;
  pub read : IsWhole call.status ⊎ (call.status ≡ statuses.OutFailed) → IsReadOut call.source
  pub rest : IsWhole call.status ⊎ (call.status ≡ statuses.OutFailed) → LeavesRest call.source
  -- all that is written is one tree, of the report and of files below `out`, or a prefix of it where the sink failed;
  pub tree : IsWhole call.status → IsTreeWritten call.out.before call.out.now
  pub tree_begun : call.status ≡ statuses.OutFailed → IsTreeBegun call.out.before call.out.now
  -- nothing is done to the store but that records of runs that succeeded are put, and nothing to the store of graphs but
  -- that what some tree makes is put, and its count of faults does not fall.
  pub puts : OnlyPuts call.store.before call.store.now
  pub graph_puts : KeptGraphs call.graphs

-- Of every check, repair and trim, whatever its outside: the source, the output and the store of graphs are left alone.
pub record OfEachCare (call : Call) : Type 0 where
  pub unasked : call.source.now ≡ call.source.before
  pub unwritten : call.out.now ≡ call.out.before
  pub no_graphs : SameGraphs call.graphs

-- Of words that are no order: the source, the output and the stores are left alone, and the notes are the usage.
pub record Unbegun (call : Call) : Type 0 where
  pub unasked : call.source.now ≡ call.source.before
  pub unwritten : call.out.now ≡ call.out.before
  pub unkept : call.store.now ≡ call.store.before
  pub no_graphs : SameGraphs call.graphs
  pub usage : AppendsNoted usage_text call.notes

-- Of every call, whatever its words and its outside:
pub record OfEachCall (call : Call) : Type 0 where
  -- the status is one of these;
  pub status : IsWhole call.status ⊎ IsSilent call.status ⊎ (call.status ≡ statuses.OutFailed)
      ⊎ (call.status ≡ statuses.KeeperFailed)
  -- the source gave a piece, which is no longer told to be left;
  pub gives : GivesPiece call.source
  -- nothing is written where the status says so, and nothing is noted;
  pub silent : IsSilent call.status → call.out.now ≡ call.out.before
  pub quiet : HasNoNotes call.status → call.notes.now ≡ call.notes.before
  -- nothing is begun where it says that the words are no order;
  pub unbegun : call.status ≡ statuses.NoCommand → Unbegun call
  -- the status says that the source, the sink or the store failed only where its count of faults rose, and with any other status
  -- the count of the source and of the sink is as it was, and that of the store does not fall.
  pub source_cause : HasCause call.source.faults_before call.source.faults_now (call.status ≡ statuses.SourceFailed)
  pub source_no_fault : call.status ≢ statuses.SourceFailed → call.source.faults_now ≡ call.source.faults_before
  pub out_cause : HasCause call.out.faults_before call.out.faults_now (call.status ≡ statuses.OutFailed)
  pub out_no_fault : call.status ≢ statuses.OutFailed → call.out.faults_now ≡ call.out.faults_before
  pub store_cause : HasCause call.store.faults_before call.store.faults_now (call.status ≡ statuses.KeeperFailed)

-- ## What goes beyond the headline, of a call whose words are one of these orders

pub record GoesBeyond (asked : Order → Type 0) (call : Call) : Type 0 where
  -- a build over a fair store,
  pub fair : (order : Order) (input : List ℕ) → asked order → IsBuild order → IsInput call.source input
      → (fair : FairStore order input (held_in call.store.before) (held_in call.store.now) call.graphs)
      → Beyond call input order fair
  -- over any store,
  pub of_input : (order : Order) (input : List ℕ) → asked order → IsBuild order → IsInput call.source input
      → OfInput call input order
  -- and whatever its outside;
  pub of_each_build : (order : Order) → asked order → IsBuild order → OfEachBuild call
  -- a store that the words do not let it use is as it was;
  pub unused : (order : Order) → asked order → uses_store order ≡ false → call.store.now ≡ call.store.before
  pub unused_graphs : (order : Order) → asked order → uses_graphs order ≡ false → SameGraphs call.graphs
  -- a check, a repair and a trim of a store, and each of these; a workload;
  pub check : asked Check → OfCheck call.status call.notes call.store
  pub repair : asked Repair → OfRepair call.status call.notes call.store
  pub trim : (keep : ℕ) → asked (Trim keep) → OfTrim keep call.status call.notes call.store
  pub of_each_care : (order : Order) → asked order → IsCare order → OfEachCare call
  pub gen : (seed pips : ℕ) → asked (Gen seed pips) → OfGen seed pips call
  -- just of words that are no order, the status says so;
  pub none : (call.status ≡ statuses.NoCommand) ↔ ((order : Order) → asked order → ⊥)
  -- and whatever the words.
  pub of_each_call : OfEachCall call

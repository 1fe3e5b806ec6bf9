-- How a build ends, from which all that is promised of a call follows.
use Rattle.std.specs.Prelude.{◌≡◌, ◌≢◌, ◌⊎◌, ◌≤◌, ℕ, List, Some}
use Rattle.bx_io.specs.Causes.{HasCause}
use Rattle.bx_io.specs.Holdings.{Holdings, held_in}
use Rattle.bx_engine_words.specs.declared.order.Order.{Order}
use Rattle.two_phase_meaning.specs.Honest.{Honest}
use Rattle.retire.specs.Saving.{OnlyPuts}
use Rattle.bx_engine.specs.Calls.{Call}
use Rattle.bx_engine.specs.Counting.{AppendsNoted}
use Rattle.bx_engine.specs.Expected.{limits_of}
use Rattle.bx_engine.specs.Known.{Appends, AppendsPrefix, GivesPiece, IsInput, IsReadOut, LeavesRest, ReadOf}
use Rattle.bx_engine.specs.Responses.{Responds}
use Rattle.bx_engine.specs.Statuses.{IsSilent, IsWhole}
use Rattle.bx_engine.specs.Graphs.{KeepsOfInput, KeptGraphs, LeavesGraphs}
use Rattle.bx_engine.specs.Stores.{FairGraphStore, FairStore, StoreLeft}
use Rattle.bx_engine.specs.declared.response.Response.{Response}
use Rattle.bx_engine.specs.declared.status.Status.TheVariants as statuses

-- the store that a call over a fair store leaves
abbrev pub Left : Call → List ℕ → Order → Type 0
Left call input order =
    (held : Holdings) → held_in call.store.before ≡ Some held → Honest held
    → FairStore order input (held_in call.store.before) (held_in call.store.now) call.graphs
    → StoreLeft (limits_of order) input held call.store.before call.store.now

-- what a call leaves of the store of graphs
pub record GraphsLeft (call : Call) (input : List ℕ) (order : Order) : Type 0 where
  pub only : KeepsOfInput call.graphs (limits_of order) input
  pub honest : FairGraphStore order input call.graphs → LeavesGraphs call.graphs

-- what a call over fair stores leaves
pub record LeftStores (call : Call) (input : List ℕ) (order : Order) : Type 0 where
  pub results : Left call input order
  pub graphs : GraphsLeft call input order

-- A call that read nothing or answered nothing.
pub record Unanswered (call : Call) : Type 0 where
  pub silent : IsSilent call.status
  pub gives : GivesPiece call.source
  pub out : call.out.now ≡ call.out.before
  pub source_cause : HasCause call.source.faults_before call.source.faults_now (call.status ≡ statuses.SourceFailed)
  pub source_no_fault : call.status ≢ statuses.SourceFailed → call.source.faults_now ≡ call.source.faults_before
  pub out_faults : call.out.faults_now ≡ call.out.faults_before
  pub puts : OnlyPuts call.store.before call.store.now
  pub graph_puts : KeptGraphs call.graphs
  pub later : call.store.faults_before ≤ call.store.faults_now

-- A call that read bytes of its input and answered them.
pub record Answered (order : Order) (call : Call) : Type 0 where
  pub bytes : List ℕ
  pub read : (input : List ℕ) → IsInput call.source input → ReadOf input bytes
  pub gives : GivesPiece call.source
  pub read_out : IsReadOut call.source
  pub rest : LeavesRest call.source
  pub response : Response
  pub responds : Responds order bytes call.store call.graphs response
  pub status : (call.status ≡ response.status) ⊎ (call.status ≡ statuses.OutFailed)
  pub written : IsWhole call.status → Appends call.out.before call.out.now response.bytes.items
  pub begun : call.status ≡ statuses.OutFailed → AppendsPrefix call.out.before call.out.now response.bytes.items
  pub noted : IsWhole call.status → AppendsNoted response.notes.items call.notes
  pub left : LeftStores call bytes order
  pub source : call.source.faults_now ≡ call.source.faults_before
  pub out_cause : HasCause call.out.faults_before call.out.faults_now (call.status ≡ statuses.OutFailed)
  pub out_no_fault : call.status ≢ statuses.OutFailed → call.out.faults_now ≡ call.out.faults_before
  pub puts : OnlyPuts call.store.before call.store.now
  pub graph_puts : KeptGraphs call.graphs
  pub later : call.store.faults_before ≤ call.store.faults_now

-- A build ends unanswered, as it leaves any input's store that is fair, or with an answer.
abbrev pub Ended : Order → Call → Type 0
Ended order call =
    (Unanswered call × ((input : List ℕ) → IsInput call.source input → LeftStores call input order))
    ⊎ Answered order call

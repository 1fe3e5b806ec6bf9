-- What the program promises, on one page.
--
-- For every input, every honest store, every number of workers and every interleaving of their events, if there is no
-- hash collision among the contents compared, the build writes exactly the bytes and gives exactly the status of the
-- sequential build that uses no cache, unless it runs out of memory or the source or the sink failed; and the store
-- that it leaves is honest. Where pips may be taken from a store of graphs, that is so for every honest one, and it is
-- left honest.
use Rattle.std.specs.Prelude.{◌≡◌, ◌⊎◌, ℕ, List, Some}
use Rattle.bx_io.specs.Causes.{Rose}
use Rattle.bx_io.specs.Holdings.{Holdings, held_in}
use Rattle.bx_engine_words.specs.declared.order.Order.{Order}
use Rattle.two_phase_meaning.specs.Honest.{Honest}
use Rattle.bx_engine.specs.Calls.{Call}
use Rattle.bx_engine.specs.Expected.{Answers, Begins}
use Rattle.bx_engine.specs.Graphs.{HonestGraphsLeft}
use Rattle.bx_engine.specs.Known.{IsInput, IsReadOut}
use Rattle.bx_engine.specs.Statuses.{IsWhole}
use Rattle.bx_engine.specs.Stores.{FairStore}
use Rattle.bx_engine.specs.declared.status.Status.TheVariants as statuses

-- What was seen of a call, and
pub record Headline (call : Call)
    -- for every input,
    (input : List ℕ)
    -- every number of workers, of which neither the expected status nor the expected bytes know anything, so that all
    -- interleavings of their events come to the same,
    (order : Order)
    -- and every honest store and honest store of graphs of which no answer disagreed with what they told, if there is no
    -- hash collision among the contents compared:
    (fair : FairStore order input (held_in call.store.before) (held_in call.store.now) call.graphs)
    : Type 0 where
  -- the build reads the source to its end, or to one byte past the limit on inputs,
  pub read : IsWhole call.status ⊎ (call.status ≡ statuses.OutFailed) → IsReadOut call.source
  -- and gives exactly the status, and writes exactly the bytes, of the sequential build that uses no cache,
  pub same : IsWhole call.status → Answers order input call.status call.out.before call.out.now
  -- unless its status says that it ran out of memory, and then it wrote nothing,
  pub memory : call.status ≡ statuses.OutOfMemory → call.out.now ≡ call.out.before
  -- or that the source failed, and then the source's count of faults rose in this call, and it wrote nothing,
  pub source : call.status ≡ statuses.SourceFailed
      → Rose call.source.faults_before call.source.faults_now × (call.out.now ≡ call.out.before)
  -- or that the sink failed, and then the sink's count of faults rose in this call, and it wrote a prefix of the bytes;
  pub sink : call.status ≡ statuses.OutFailed
      → Rose call.out.faults_before call.out.faults_now × Begins order input call.out.before call.out.now
  -- there is no other status;
  pub status : IsWhole call.status ⊎ (call.status ≡ statuses.OutOfMemory) ⊎ (call.status ≡ statuses.SourceFailed)
      ⊎ (call.status ≡ statuses.OutFailed)
  -- and the stores that it leaves are honest.
  pub honest : (held now : Holdings) → held_in call.store.before ≡ Some held → Honest held
      → held_in call.store.now ≡ Some now → Honest now
  pub honest_graphs : HonestGraphsLeft call.graphs

-- A call keeps the headline where the words come to one of these orders.
abbrev pub KeepsHeadline : (Order → Type 0) → Call → Type 0
KeepsHeadline asked call =
    (order : Order) (input : List ℕ) → asked order → IsInput call.source input
    → (fair : FairStore order input (held_in call.store.before) (held_in call.store.now) call.graphs)
    → Headline call input order fair

-- What is promised of a workload that is written.
use Rattle.std.specs.Prelude.{◌≡◌, ◌⊎◌, ℕ}
use Rattle.bx_engine_generate.specs.Generated.{generated}
use Rattle.bx_engine.specs.Calls.{Call, Written}
use Rattle.bx_engine.specs.Graphs.{SameGraphs}
use Rattle.bx_engine.specs.Known.{Appends, AppendsPrefix}
use Rattle.bx_engine.specs.declared.status.Status.{Status}
use Rattle.bx_engine.specs.declared.status.Status.TheVariants as statuses

-- A workload was written to the output.
pub record WritesWorkload (seed pips : ℕ) (status : Status) (out : Written) : Type 0 where
  -- the status is one of these;
  pub one_of : (status ≡ statuses.Done) ⊎ (status ≡ statuses.OutFailed) ⊎ (status ≡ statuses.OutOfMemory)
  -- the bundle of the seed and the number of pips was written, or a prefix of it where the sink failed.
  pub written : status ≡ statuses.Done → Appends out.before out.now (generated seed pips)
  pub begun : status ≡ statuses.OutFailed → AppendsPrefix out.before out.now (generated seed pips)

-- A call wrote a workload, and nothing else was read, told or kept.
pub record OfGen (seed pips : ℕ) (call : Call) : Type 0 where
  pub writes : WritesWorkload seed pips call.status call.out
  pub unasked : call.source.now ≡ call.source.before
  pub untold : call.notes.now ≡ call.notes.before
  pub unkept : call.store.now ≡ call.store.before
  pub no_graphs : SameGraphs call.graphs

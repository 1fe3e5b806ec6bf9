-- What contracts see of a worker.
use Rattle.std.specs.Prelude.{◌≡◌, ◌+◌, ◌-◌, ◌^◌, ◌<◌, ◌≤◌, ℕ, true, false, Option, Some, None}
use Rattle.two_phase.specs.Reading.{ReaderData, ReadsIfAny}
use Rattle.sched_board.specs.Board.{ShareData}
use Rattle.worker.specs.declared.tally.Leave.{Leave}
use Rattle.worker.specs.declared.tally.Tally.{Tally}

-- its share of the board, its tally, and what its reader tells, if it has one
pub record WorkerData : Type 0 where
  pub share : ShareData
  pub tally : Tally
  pub reader : Option ReaderData

abbrev pub worker_data : ShareData → Tally → Option ReaderData → WorkerData
worker_data share tally reader = record { share = share; tally = tally; reader = reader }

-- no lookup failed, memory was never wanting, and nothing was refused
abbrev pub new_tally : Tally
new_tally = record { faults = 0; starved = false; left = None }

abbrev pub new_worker : Option ReaderData → ShareData → WorkerData
new_worker reader share = worker_data share new_tally reader

-- ## What may change

abbrev pub starving : WorkerData → WorkerData
starving w = record w { tally = record { faults = w.tally.faults; starved = true; left = w.tally.left } }

abbrev pub leaving : WorkerData → Leave → WorkerData
leaving w why = record w { tally = record { faults = w.tally.faults; starved = w.tally.starved; left = Some why } }

-- A worker goes on: it is the same worker of its board, of which it may have made more events; and it counts each lookup that failed, as long as
-- its count has 64 bits, and nothing else: its reader counts as many at least, where that has a bound, and without a reader there are none.
pub record GoesOn (before now : WorkerData) : Type 0 where
  pub worker : now.share.worker ≡ before.share.worker
  pub events : before.share.events ≤ now.share.events
  pub counted : ℕ
  pub faults : now.tally.faults ≤ before.tally.faults + counted
  pub all_counted : now.tally.faults < 2 ^ 64 - 1 → now.tally.faults ≡ before.tally.faults + counted
  pub reads : ReadsIfAny before.reader now.reader counted

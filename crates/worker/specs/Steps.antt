-- What a worker does next, and what that says of it.
use Rattle.std.specs.Prelude.{◌≡◌, ◌<◌, ℕ, Bool, true, false, None, ⊤, is_some, length, slice_get}
use Rattle.pip_model.specs.Plans.{PlanData}
use Rattle.pip_view_inputs.specs.Plain.{process_in}
use Rattle.sched_core.specs.Table.{has_left}
use Rattle.sched_board.specs.Board.{BoardData, IsBusy, ShareData}
use Rattle.sched_board.specs.declared.shown.Shown.{Shown}
use Rattle.sched_board.specs.declared.shown.Shown.TheVariants as shown
use Rattle.worker.specs.Ended.{has_ended}
use Rattle.worker.specs.Workers.{WorkerData}
use Rattle.worker.specs.declared.locked.Next.{Next}
use Rattle.worker.specs.declared.locked.Next.TheVariants as next

-- It works on a pip that was not looked up; it claims again; it waits; or it is through.
abbrev pub MayGo : {L E : Type 0} → Next L E → WorkerData → Type 0
MayGo (next.Job job inputs) w = job.looked ≡ None
MayGo next.Skipped w = ⊤
MayGo next.NotYet w = ⊤
MayGo next.Stop w = has_ended w ≡ true

-- Of the board: a worker that goes on with a job holds it, and one that gave its pip back has left.
abbrev pub Opens : {L E : Type 0} → Next L E → BoardData → ShareData → Type 0
Opens (next.Job job inputs) b share = IsBusy b share job
Opens next.Skipped b share = ⊥
Opens next.NotYet b share = ⊥
Opens next.Stop b share = has_left b.core.left share.worker ≡ true

-- the plan has this pip, and it is a process just where the job says so
pub record HasPip (plan : PlanData) (pip : ℕ) (is_process : Bool) : Type 0 where
  pub there : pip < length plan.pips
  pub kind : is_some (process_in (slice_get plan.pips pip)) ≡ is_process

-- whether what is shown was found in the cache
abbrev pub is_hit : Shown → Bool
is_hit (shown.Ran facts) = false
is_hit (shown.Hit found) = true
is_hit (shown.Plain made) = false

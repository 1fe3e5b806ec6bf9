-- What a claim answers, and what it changes.
use Rattle.std.specs.Prelude.{◌≡◌, true, false, None}
use Rattle.sched_core.specs.Sets.{IsLeast, IsNever}
use Rattle.sched_core.specs.Table.{are_settled, has_left, is_idle, may_skip, may_start, node_at}
use Rattle.sched_core.specs.declared.event.Event.TheVariants as event
use Rattle.sched_board.specs.Board.{BoardData, IsBusy, ShareData, filled, one_more, stepped, with_mark}
use Rattle.sched_board.specs.declared.answers.Claim.{Claim}
use Rattle.sched_board.specs.declared.answers.Claim.TheVariants as claim
use Rattle.sched_board_slots.specs.declared.held.Held.TheVariants as held

-- no pip may be skipped or started
pub record NoneReady (b : BoardData) : Type 0 where
  pub no_skip : IsNever (may_skip b.core)
  pub no_start : IsNever (may_start b.core)

-- A job of the least pip that may start, where none may be skipped, which the worker then holds; the least that may be
-- skipped; that there is none and another worker holds a pip; that there is none and nobody holds one, so that all pips are
-- settled and the share is marked; or that this worker has left. All else stays.
abbrev pub Claims : {L E : Type 0} → BoardData → ShareData → Claim L E → BoardData → ShareData → Type 0
Claims b share (claim.Job job) b' share' =
    (has_left b.core.left share.worker ≡ false) × IsNever (may_skip b.core) × IsLeast (may_start b.core) job.pip
    × (job.is_process ≡ (node_at b.core.nodes job.pip).is_process) × (job.looked ≡ None)
    × (b' ≡ stepped b (event.Start job.pip share.worker)) × (share' ≡ one_more share) × IsBusy b' share' job
Claims b share (claim.Skipped pip) b' share' =
    (has_left b.core.left share.worker ≡ false) × IsLeast (may_skip b.core) pip
    × (b' ≡ filled b (event.Skip pip share.worker) held.Skipped) × (share' ≡ one_more share)
Claims b share claim.NotYet b' share' =
    (has_left b.core.left share.worker ≡ false) × NoneReady b × (is_idle b.core.states ≡ false) × (b' ≡ b) × (share' ≡ share)
Claims b share claim.Over b' share' =
    (has_left b.core.left share.worker ≡ false) × NoneReady b × (is_idle b.core.states ≡ true)
    × (are_settled b.core.states ≡ true) × (b' ≡ b) × (share' ≡ with_mark share)
Claims b share claim.Left b' share' = (has_left b.core.left share.worker ≡ true) × (b' ≡ b) × (share' ≡ share)

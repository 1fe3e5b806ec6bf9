-- What a worker may do with a pip that it holds, by its share and its job.
use Rattle.std.proofs.Common.{◌≡◌, ℕ, ◌==◌, Bool, true, false, not, ◌&&◌, Option, Some, None, is_none, refl, ap, sym, ◌∙◌, subst}
use Rattle.std.proofs.lemmas.Bool.{and_from}
use Rattle.std.proofs.lemmas.Bool.Decides.{Decides-eqb}
use Rattle.sched_core.specs.Sound.{IsSound}
use Rattle.sched_core.specs.States.{holds, is_claimed_by, may_complete, may_look, may_release}
use Rattle.sched_core.specs.Table.{CoreState, allows, has_left, holds_none, may_skip, may_start, node_at, state_at}
use Rattle.sched_core.specs.declared.event.Event.TheVariants as event
use Rattle.sched_core.specs.declared.state.PipState.{PipState}
use Rattle.sched_core.specs.declared.state.PipState.TheVariants as state
use Rattle.sched_board.specs.Board.{BoardData, CanComplete, IsBusy, IsFree, JobData, ShareData, tells}

pub same_number : (n : ℕ) → (n == n) ≡ true
same_number n = (Decides-eqb n n).1 refl

-- an event of a worker that is here and that fits the table is allowed
pub here_and : (s : CoreState) (w : ℕ) (fits : Bool) → has_left s.left w ≡ false → fits ≡ true → (not (has_left s.left w) && fits) ≡ true
here_and s w fits stays fit = and_from (not (has_left s.left w)) fits (ap not stays) fit

-- ## A pip that is held

held_by : (w : ℕ) (looked : Option Bool) (s : PipState) → tells w looked s → holds w s ≡ true
held_by w None s told = ap (holds w) told ∙ same_number w
held_by w (Some hit) s told = ap (holds w) told ∙ same_number w

pub busy_stays : (b : BoardData) (share : ShareData) (job : JobData) → IsSound b.core → IsBusy b share job → has_left b.core.left share.worker ≡ false
busy_stays b share job sound busy = sound.stays job.pip share.worker (held_by share.worker job.looked (state_at b.core.states job.pip) busy.state_is)

told_none : (w : ℕ) (looked : Option Bool) (s : PipState) → looked ≡ None → tells w looked s → s ≡ state.Held w
told_none w looked s e told = subst (λ (o : Option Bool). tells w o s) e told

pub looked_allowed : (b : BoardData) (share : ShareData) (job : JobData) (hit : Bool) → IsSound b.core → IsBusy b share job → job.is_process ≡ true
    → job.looked ≡ None → allows b.core (event.Looked job.pip share.worker hit) ≡ true
looked_allowed b share job hit sound busy process first =
    let s : PipState = state_at b.core.states job.pip in
    here_and b.core share.worker (may_look (node_at b.core.nodes job.pip).is_process share.worker s) (busy_stays b share job sound busy)
    (and_from (node_at b.core.nodes job.pip).is_process (is_claimed_by share.worker s) (sym busy.kind ∙ process)
    (ap (is_claimed_by share.worker) (told_none share.worker job.looked s first busy.state_is) ∙ same_number share.worker))

released : (w : ℕ) (looked : Option Bool) (s : PipState) → tells w looked s → may_release w s ≡ true
released w None s told = ap (may_release w) told ∙ same_number w
released w (Some hit) s told = ap (may_release w) told ∙ same_number w

pub release_allowed : (b : BoardData) (share : ShareData) (job : JobData) → IsSound b.core → IsBusy b share job
    → allows b.core (event.Release job.pip share.worker) ≡ true
release_allowed b share job sound busy =
    here_and b.core share.worker (may_release share.worker (state_at b.core.states job.pip)) (busy_stays b share job sound busy)
    (released share.worker job.looked (state_at b.core.states job.pip) busy.state_is)

pub complete_allowed : (b : BoardData) (share : ShareData) (pip : ℕ) → IsSound b.core → CanComplete b share pip
    → allows b.core (event.Complete pip share.worker) ≡ true
complete_allowed b share pip sound can =
    let s : PipState = state_at b.core.states pip in
    here_and b.core share.worker (may_complete share.worker s)
    (sound.stays pip share.worker (ap (holds share.worker) can.published.1 ∙ same_number share.worker))
    (ap (may_complete share.worker) can.published.1 ∙ same_number share.worker)

-- ## A worker that holds none

pub start_allowed : (b : BoardData) (share : ShareData) (pip : ℕ) → IsFree b share → has_left b.core.left share.worker ≡ false → may_start b.core pip ≡ true
    → allows b.core (event.Start pip share.worker) ≡ true
start_allowed b share pip free stays may =
    here_and b.core share.worker (may_start b.core pip && holds_none share.worker b.core.states) stays
    (and_from (may_start b.core pip) (holds_none share.worker b.core.states) may (ap is_none free.free))

pub skip_allowed : (b : BoardData) (share : ShareData) (pip : ℕ) → IsFree b share → has_left b.core.left share.worker ≡ false → may_skip b.core pip ≡ true
    → allows b.core (event.Skip pip share.worker) ≡ true
skip_allowed b share pip free stays may =
    here_and b.core share.worker (may_skip b.core pip && holds_none share.worker b.core.states) stays
    (and_from (may_skip b.core pip) (holds_none share.worker b.core.states) may (ap is_none free.free))

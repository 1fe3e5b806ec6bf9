-- What is shown of a pip, by its job.
use Rattle.std.proofs.Common.{◌≡◌, ℕ, ◌==◌, Bool, true, false, not, ◌&&◌, ◌||◌, Option, Some, None, is_some, refl, ap, sym, ◌∙◌}
use Rattle.std.specs.Prelude.{slice_get}
use Rattle.std.proofs.lemmas.Bool.{and_from}
use Rattle.pip_view_inputs.specs.Plain.{process_in}
use Rattle.sched_core.specs.Sound.{IsSound}
use Rattle.sched_core.specs.States.{is_claimed_by, may_publish, may_publish_looked}
use Rattle.sched_core.specs.Table.{allows, node_at, state_at}
use Rattle.sched_core.specs.declared.event.Event.TheVariants as event
use Rattle.sched_core.specs.declared.state.PipState.{PipState}
use Rattle.sched_core.specs.declared.state.PipState.TheVariants as state
use Rattle.sched_board_slots.specs.Slots.{is_good_held, is_good_outcome}
use Rattle.sched_board.specs.Board.{BoardData, IsBoard, IsBusy, JobData, ShareData, tells}
use Rattle.sched_board.specs.Publishing.{fits_job, fits_kind, fits_told, slot_of}
use Rattle.sched_board.specs.declared.shown.Shown.{Shown}
use Rattle.sched_board.specs.declared.shown.Shown.TheVariants as shown
use Rattle.sched_board.proofs.Allowed.{busy_stays, here_and, same_number}

-- what fits what a job tells may be published
publishable : (is_process : Bool) (looked : Option Bool) (s : Shown) (w : ℕ) (x : PipState) → fits_told is_process looked s ≡ true → tells w looked x
    → may_publish is_process w (is_good_held (slot_of s)) x ≡ true
publishable true None (shown.Ran facts) w x fit told = absurd cc
publishable true None (shown.Hit found) w x fit told = absurd cc
publishable true None (shown.Plain files) w x fit told = absurd cc
publishable true (Some true) (shown.Ran facts) w x fit told = absurd cc
publishable true (Some true) (shown.Hit found) w x fit told =
    ap (may_publish_looked w true) told ∙ and_from (w == w) true (same_number w) refl
publishable true (Some true) (shown.Plain files) w x fit told = absurd cc
publishable true (Some false) (shown.Ran facts) w x fit told =
    ap (may_publish_looked w (is_good_outcome facts.outcome)) told ∙ and_from (w == w) true (same_number w) refl
publishable true (Some false) (shown.Hit found) w x fit told = absurd cc
publishable true (Some false) (shown.Plain files) w x fit told = absurd cc
publishable false None (shown.Ran facts) w x fit told = absurd cc
publishable false None (shown.Hit found) w x fit told = absurd cc
publishable false None (shown.Plain files) w x fit told =
    ap (λ (t : PipState). is_claimed_by w t && true) told ∙ and_from (w == w) true (same_number w) refl
publishable false (Some hit) (shown.Ran facts) w x fit told = absurd cc
publishable false (Some hit) (shown.Hit found) w x fit told = absurd cc
publishable false (Some hit) (shown.Plain files) w x fit told = absurd cc

pub publish_allowed : (b : BoardData) (share : ShareData) (job : JobData) (s : Shown) → IsSound b.core → IsBusy b share job → fits_job job s ≡ true
    → allows b.core (event.Publish job.pip share.worker (is_good_held (slot_of s))) ≡ true
publish_allowed b share job s sound busy fit =
    let x : PipState = state_at b.core.states job.pip in
    let good : Bool = is_good_held (slot_of s) in
    here_and b.core share.worker (may_publish (node_at b.core.nodes job.pip).is_process share.worker good x) (busy_stays b share job sound busy)
    (ap (λ (p : Bool). may_publish p share.worker good x) (sym busy.kind) ∙ publishable job.is_process job.looked s share.worker x fit busy.state_is)

-- what fits what a job tells fits the job's kind
kind_fits : (is_process : Bool) (looked : Option Bool) (s : Shown) → fits_told is_process looked s ≡ true → fits_kind is_process s ≡ true
kind_fits true looked (shown.Ran facts) fit = refl
kind_fits true looked (shown.Hit found) fit = refl
kind_fits true None (shown.Plain files) fit = absurd cc
kind_fits true (Some true) (shown.Plain files) fit = absurd cc
kind_fits true (Some false) (shown.Plain files) fit = absurd cc
kind_fits false None (shown.Ran facts) fit = absurd cc
kind_fits false (Some hit) (shown.Ran facts) fit = absurd cc
kind_fits false None (shown.Hit found) fit = absurd cc
kind_fits false (Some hit) (shown.Hit found) fit = absurd cc
kind_fits false looked (shown.Plain files) fit = refl

pub shown_kind : (b : BoardData) (share : ShareData) (job : JobData) (s : Shown) → IsBoard b → IsBusy b share job → fits_job job s ≡ true
    → fits_kind (is_some (process_in (slice_get b.plan.pips job.pip))) s ≡ true
shown_kind b share job s is busy fit =
    ap (λ (p : Bool). fits_kind p s) (sym (busy.kind ∙ (is.graph.each job.pip busy.there).kind)) ∙ kind_fits job.is_process job.looked s fit

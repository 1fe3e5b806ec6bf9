-- What a board, a share and a job are after a call.
use Rattle.std.proofs.Common.{◌≡◌, ℕ, ◌<◌, Bool, true, false, Option, Some, None, List, length, set, ap, sym, ◌∙◌, subst, inl, inr, arith}
use Rattle.std.proofs.lemmas.Bool.{cases_Bool, cases_eq}
use Rattle.std.proofs.lemmas.List.{get_or-set_same}
use Rattle.bx_tree.specs.Trees.{Files}
use Rattle.pip_model.specs.Plans.{PlanData}
use Rattle.sched_core.specs.Sound.{IsSound}
use Rattle.sched_core.specs.States.{completed, holds, is_waiting}
use Rattle.sched_core.specs.Table.{allows, has_left, may_start, node_at, state_at}
use Rattle.sched_core.specs.declared.event.Event.TheVariants as event
use Rattle.sched_core.specs.declared.state.PipState.{PipState}
use Rattle.sched_core.specs.declared.state.PipState.TheVariants as state
use Rattle.sched_core.proofs.Places.{state_at-other, state_at-same}
use Rattle.sched_core.proofs.Seats.{busy_nobody}
use Rattle.sched_core.proofs.SoundSteps.{steps_of}
use Rattle.sched_board_slots.specs.Slots.{FitsState}
use Rattle.sched_board_slots.specs.declared.held.Held.{Held}
use Rattle.sched_board_slots.specs.declared.held.Held.TheVariants as held
use Rattle.sched_board.specs.Board.{BoardData, CanComplete, IsBusy, IsFree, JobData, ShareData, filled, one_more, stepped, tells, with_looked}
use Rattle.sched_board.proofs.Allowed.{complete_allowed, same_number, start_allowed}

-- ## Slots

-- the slot of a pip that is held and not published is empty
pub held_empty : (plan : PlanData) (tree : Files) (slots : List Held) (p w : ℕ) (looked : Option Bool) (s : PipState) (h : Held) → tells w looked s
    → FitsState plan tree slots p s h → h ≡ held.Empty
held_empty plan tree slots p w None s h told f = subst (λ (t : PipState). FitsState plan tree slots p t h) told f
held_empty plan tree slots p w (Some hit) s h told f = subst (λ (t : PipState). FitsState plan tree slots p t h) told f

pub waiting_empty : (plan : PlanData) (tree : Files) (slots : List Held) (p : ℕ) (s : PipState) (h : Held) → is_waiting s ≡ true
    → FitsState plan tree slots p s h → h ≡ held.Empty
waiting_empty plan tree slots p state.Waiting h e f = f
waiting_empty plan tree slots p (state.Held w) h e f = f
waiting_empty plan tree slots p (state.Looked w hit) h e f = f
waiting_empty plan tree slots p (state.Published w good) h e f = absurd cc
waiting_empty plan tree slots p (state.Done good) h e f = absurd cc
waiting_empty plan tree slots p state.Skipped h e f = absurd cc

-- a slot fits on where its pip completes
pub completed_fits : (plan : PlanData) (tree : Files) (slots : List Held) (p w : ℕ) (good : Bool) (s : PipState) (h : Held) → s ≡ state.Published w good
    → FitsState plan tree slots p s h → FitsState plan tree slots p (completed s) h
completed_fits plan tree slots p w good s h told f =
    subst (λ (t : PipState). FitsState plan tree slots p (completed t) h) (sym told) (subst (λ (t : PipState). FitsState plan tree slots p t h) told f)

-- ## Shares and jobs

pub looked_busy : (b : BoardData) (share : ShareData) (job : JobData) (hit : Bool) → IsSound b.core → IsBusy b share job
    → IsBusy (stepped b (event.Looked job.pip share.worker hit)) (one_more share) (with_looked job hit)
looked_busy b share job hit sound busy = record {
  worker = busy.worker;
  there = busy.there;
  state_is = state_at-same b.core.states job.pip (state.Looked share.worker hit) (omega (arith, busy.there, sound.same_size));
  kind = busy.kind;
}

pub start_busy : (b : BoardData) (share : ShareData) (job : JobData) → IsSound b.core → IsFree b share → has_left b.core.left share.worker ≡ false
    → may_start b.core job.pip ≡ true → job.looked ≡ None → job.is_process ≡ (node_at b.core.nodes job.pip).is_process
    → IsBusy (stepped b (event.Start job.pip share.worker)) (one_more share) job
start_busy b share job sound free stays may first kind =
    let allowed : allows b.core (event.Start job.pip share.worker) ≡ true = start_allowed b share job.pip free stays may in
    let steps = steps_of b.core (event.Start job.pip share.worker) sound allowed in
    record {
      worker = free.worker;
      there = omega (arith, steps.there, sound.same_size);
      state_is =
          subst (λ (o : Option Bool). tells share.worker o (state_at (set b.core.states job.pip (state.Held share.worker)) job.pip)) (sym first)
          (state_at-same b.core.states job.pip (state.Held share.worker) steps.there);
      kind = kind;
    }

-- the worker of a pip that completes holds none
pub completed_free : (b : BoardData) (share : ShareData) (pip : ℕ) → IsSound b.core → CanComplete b share pip
    → IsFree (stepped b (event.Complete pip share.worker)) (one_more share)
completed_free b share pip sound can =
    let w : ℕ = share.worker in
    let s : PipState = state_at b.core.states pip in
    let steps = steps_of b.core (event.Complete pip w) sound (complete_allowed b share pip sound can) in
    let held_now : holds w s ≡ true = ap (holds w) can.published.1 ∙ same_number w in
    record {
      worker = can.worker;
      free = busy_nobody w (set b.core.states pip (completed s)) (λ k. elim (cases_eq k pip) [
        | inl e ↦
            ap (λ j. holds w (state_at (set b.core.states pip (completed s)) j)) e
            ∙ ap (holds w) (state_at-same b.core.states pip (completed s) steps.there)
            ∙ ap (λ t. holds w (completed t)) can.published.1
        | inr other ↦
            ap (holds w) (state_at-other b.core.states pip k (completed s) other)
            ∙ elim (cases_Bool (holds w (state_at b.core.states k))) [
              | inl here ↦ absurd (other (sound.alone k pip w here held_now))
              | inr free ↦ free
            ]
      ]);
    }

pub release_left : (left : List Bool) (w : ℕ) → w < length left → has_left (set left w true) w ≡ true
release_left left w l = get_or-set_same left w true true l

pub published_can : (b : BoardData) (share : ShareData) (pip : ℕ) (good : Bool) (h : Held) → share.worker < length b.core.left
    → pip < length b.core.states → CanComplete (filled b (event.Publish pip share.worker good) h) (one_more share) pip
published_can b share pip good h here there = record {
  worker = here;
  published = (good, state_at-same b.core.states pip (state.Published share.worker good) there);
}

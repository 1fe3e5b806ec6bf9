-- What makes each event possible.
use Rattle.std.proofs.Common.{◌≡◌, ℕ, ◌<◌, Bool, true, false, List, Option, Some, None, length, refl, ap, sym, ◌∙◌, subst, arith}
use Rattle.bx_tree.specs.Trees.{Files}
use Rattle.pip_model.specs.Plans.{PlanData}
use Rattle.sched_core.specs.Sound.{IsSound}
use Rattle.sched_core.specs.States.{is_waiting}
use Rattle.sched_core.specs.Table.{allows, has_left, holds_none, may_skip, may_start, all_good, node_inputs, pip_of, some_bad, state_after_event, state_at, worker_of}
use Rattle.sched_core.specs.declared.event.Event.{Event}
use Rattle.sched_core.specs.declared.event.Event.TheVariants as event
use Rattle.sched_core.specs.declared.state.PipState.{PipState}
use Rattle.sched_core.specs.declared.state.PipState.TheVariants as state
use Rattle.std.proofs.lemmas.Bool.{and_parts}
use Rattle.sched_board_slots.specs.Slots.{FitsState, HoldsOwn, is_good_held, own_inputs, slot_at}
use Rattle.sched_board_slots.specs.declared.held.Held.{Held}
use Rattle.sched_board_slots.specs.declared.held.Held.TheVariants as held
use Rattle.sched_board.specs.Board.{BoardData, CanComplete, Difference, IsBoard, IsBusy, IsFree, JobData, ShareData, filled, one_more}
use Rattle.sched_board.specs.Publishing.{Compared, slot_of}
use Rattle.sched_board.specs.declared.shown.Shown.{Shown}
use Rattle.sched_board.proofs.After.{completed_fits, held_empty, published_can, waiting_empty}
use Rattle.sched_board.proofs.Allowed.{complete_allowed, looked_allowed, release_allowed, skip_allowed, start_allowed}
use Rattle.sched_board.proofs.Keeping.{sound_board}

-- the board may make the event, with this in the slot of its pip
pub record CanMake (b : BoardData) (e : Event) (slot : Held) : Type 0 where
  pub allowed : allows b.core e ≡ true
  pub worker : worker_of e < length b.core.left
  pub fits : FitsState b.plan b.sources b.slots (pip_of e) (state_after_event (state_at b.core.states (pip_of e)) e) slot

pub looked_can : (b : BoardData) (share : ShareData) (job : JobData) (hit : Bool) → IsBoard b → IsBusy b share job → job.is_process ≡ true → job.looked ≡ None
    → CanMake b (event.Looked job.pip share.worker hit) (slot_at b.slots job.pip)
looked_can b share job hit is busy process first = record {
  allowed = looked_allowed b share job hit (sound_board b is) busy process first;
  worker = busy.worker;
  fits = held_empty b.plan b.sources b.slots job.pip share.worker job.looked (state_at b.core.states job.pip) (slot_at b.slots job.pip) busy.state_is (is.fit job.pip);
}

pub release_can : (b : BoardData) (share : ShareData) (job : JobData) → IsBoard b → IsBusy b share job
    → CanMake b (event.Release job.pip share.worker) (slot_at b.slots job.pip)
release_can b share job is busy = record {
  allowed = release_allowed b share job (sound_board b is) busy;
  worker = busy.worker;
  fits = held_empty b.plan b.sources b.slots job.pip share.worker job.looked (state_at b.core.states job.pip) (slot_at b.slots job.pip) busy.state_is (is.fit job.pip);
}

pub complete_can : (b : BoardData) (share : ShareData) (pip : ℕ) → IsBoard b → CanComplete b share pip
    → CanMake b (event.Complete pip share.worker) (slot_at b.slots pip)
complete_can b share pip is can = record {
  allowed = complete_allowed b share pip (sound_board b is) can;
  worker = can.worker;
  fits = completed_fits b.plan b.sources b.slots pip share.worker can.published.0 (state_at b.core.states pip) (slot_at b.slots pip) can.published.1 (is.fit pip);
}

pub start_can : (b : BoardData) (share : ShareData) (pip : ℕ) → IsBoard b → IsFree b share → has_left b.core.left share.worker ≡ false → may_start b.core pip ≡ true
    → CanMake b (event.Start pip share.worker) (slot_at b.slots pip)
start_can b share pip is free stays may = record {
  allowed = start_allowed b share pip free stays may;
  worker = free.worker;
  fits = waiting_empty b.plan b.sources b.slots pip (state_at b.core.states pip) (slot_at b.slots pip)
      (and_parts (is_waiting (state_at b.core.states pip)) (all_good b.core.states (node_inputs b.core.nodes pip)) may).0 (is.fit pip);
}

pub skip_can : (b : BoardData) (share : ShareData) (pip : ℕ) → IsFree b share → has_left b.core.left share.worker ≡ false → may_skip b.core pip ≡ true
    → CanMake b (event.Skip pip share.worker) held.Skipped
skip_can b share pip free stays may = record {
  allowed = skip_allowed b share pip free stays may;
  worker = free.worker;
  fits = refl;
}

-- What is shown and does not differ may stand in the slot, where plan, sources, slots and pip are written in another way.
pub own_shown : (b : BoardData) (plan : PlanData) (tree : Files) (slots : List Held) (pip p : ℕ) (s : Shown) (found : Option Difference) → plan ≡ b.plan
    → tree ≡ b.sources → slots ≡ b.slots → pip ≡ p → found ≡ None → Compared plan tree (own_inputs plan slots pip) pip s found
    → HoldsOwn b.plan b.sources b.slots p (is_good_held (slot_of s)) (slot_of s)
own_shown b plan tree slots pip p s found eplan etree eslots ep none compared =
    subst (λ (q : ℕ). HoldsOwn b.plan b.sources b.slots q (is_good_held (slot_of s)) (slot_of s)) ep
    (subst (λ (l : List Held). HoldsOwn b.plan b.sources l pip (is_good_held (slot_of s)) (slot_of s)) eslots
    (subst (λ (t : Files). HoldsOwn b.plan t slots pip (is_good_held (slot_of s)) (slot_of s)) etree
    (subst (λ (q : PlanData). HoldsOwn q tree slots pip (is_good_held (slot_of s)) (slot_of s)) eplan
    (subst (λ (o : Option Difference). Compared plan tree (own_inputs plan slots pip) pip s o) none compared))))

-- what a publication comes to
pub published_is : (b b' : BoardData) (share share' : ShareData) (job : JobData) (s : Shown) (pip worker : ℕ) (good : Bool) (slot : Held) → IsBoard b
    → IsBusy b share job → HoldsOwn b.plan b.sources b.slots job.pip (is_good_held (slot_of s)) (slot_of s) → pip ≡ job.pip → worker ≡ share.worker
    → slot ≡ slot_of s → good ≡ is_good_held slot → b' ≡ filled b (event.Publish pip worker good) slot → share' ≡ one_more share
    → (pip ≡ job.pip) × HoldsOwn b.plan b.sources b.slots job.pip (is_good_held (slot_of s)) (slot_of s)
    × (b' ≡ filled b (event.Publish job.pip share.worker (is_good_held (slot_of s))) (slot_of s)) × (share' ≡ one_more share) × CanComplete b' share' pip
published_is b b' share share' job s pip worker good slot is busy own ep ew es eg eb esh =
    let made : BoardData = filled b (event.Publish job.pip share.worker (is_good_held (slot_of s))) (slot_of s) in
    let now : b' ≡ made =
    eb ∙ ap (λ (p : ℕ). filled b (event.Publish p worker good) slot) ep
    ∙ ap (λ (w : ℕ). filled b (event.Publish job.pip w good) slot) ew
    ∙ ap (λ (g : Bool). filled b (event.Publish job.pip share.worker g) slot) (eg ∙ ap is_good_held es)
    ∙ ap (λ (h : Held). filled b (event.Publish job.pip share.worker (is_good_held (slot_of s))) h) es in
    let sound : IsSound b.core = sound_board b is in
    let can : CanComplete made (one_more share) job.pip =
    published_can b share job.pip (is_good_held (slot_of s)) (slot_of s) busy.worker (omega (arith, busy.there, sound.same_size)) in (
      ep,
      own,
      now,
      esh,
      subst (λ (x : BoardData). CanComplete x share' pip) (sym now)
          (subst (λ (x : ShareData). CanComplete made x pip) (sym esh) (subst (λ (p : ℕ). CanComplete made (one_more share) p) (sym ep) can)),
    )

-- the same where the pip and the worker are written in another way
pub at_pip : (b : BoardData) (f : ℕ → ℕ → Event) (p p' w w' : ℕ) → p' ≡ p → w' ≡ w → CanMake b (f p w) (slot_at b.slots p)
    → CanMake b (f p' w') (slot_at b.slots p')
at_pip b f p p' w w' ep ew can =
    subst (λ (x : ℕ). CanMake b (f x w') (slot_at b.slots x)) (sym ep) (subst (λ (y : ℕ). CanMake b (f p y) (slot_at b.slots p)) (sym ew) can)

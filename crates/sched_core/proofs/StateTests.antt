-- What follows of a state from a test that it passes.
use Rattle.std.proofs.Common.{◌≡◌, ℕ, ◌==◌, Bool, true, false, not, ◌&&◌, ◌||◌, None, refl}
use Rattle.sched_core.specs.States.{completed, holder, holds, is_bad, is_begun, is_claimed_by, is_done_well, may_publish_looked, is_skipped, is_waiting}
use Rattle.sched_core.specs.States.{may_complete, may_look, may_publish, may_release}
use Rattle.sched_core.specs.declared.state.PipState.{PipState}
use Rattle.sched_core.specs.declared.state.PipState.TheVariants as state

-- a state in which something can still happen to its pip
pub record IsOpen (s : PipState) : Type 0 where
  pub not_good : is_done_well s ≡ false
  pub not_bad : is_bad s ≡ false
  pub not_skipped : is_skipped s ≡ false

-- a state in which this worker holds its pip
pub record IsHeldBy (w : ℕ) (s : PipState) : Type 0 where
  pub still_open : IsOpen s
  pub begun : is_begun s ≡ true
  pub held : holds w s ≡ true

pub waiting_is_open : (s : PipState) → is_waiting s ≡ true → IsOpen s
waiting_is_open state.Waiting h = record { not_good = refl; not_bad = refl; not_skipped = refl }
waiting_is_open (state.Held w) h = cc
waiting_is_open (state.Looked w hit) h = cc
waiting_is_open (state.Published w good) h = cc
waiting_is_open (state.Done good) h = cc
waiting_is_open state.Skipped h = cc

pub waiting_is_not_begun : (s : PipState) → is_waiting s ≡ true → is_begun s ≡ false
waiting_is_not_begun state.Waiting h = refl
waiting_is_not_begun (state.Held w) h = cc
waiting_is_not_begun (state.Looked w hit) h = cc
waiting_is_not_begun (state.Published w good) h = cc
waiting_is_not_begun (state.Done good) h = cc
waiting_is_not_begun state.Skipped h = cc

pub waiting_is_free : (s : PipState) (w : ℕ) → is_waiting s ≡ true → holds w s ≡ false
waiting_is_free state.Waiting w h = refl
waiting_is_free (state.Held v) w h = cc
waiting_is_free (state.Looked v hit) w h = cc
waiting_is_free (state.Published v good) w h = cc
waiting_is_free (state.Done good) w h = refl
waiting_is_free state.Skipped w h = refl

pub claimed_is_held : (w : ℕ) (s : PipState) → is_claimed_by w s ≡ true → IsHeldBy w s
claimed_is_held w state.Waiting h = cc
claimed_is_held w (state.Held v) h = record { still_open = record { not_good = refl; not_bad = refl; not_skipped = refl }; begun = refl; held = h }
claimed_is_held w (state.Looked v hit) h = cc
claimed_is_held w (state.Published v good) h = cc
claimed_is_held w (state.Done good) h = cc
claimed_is_held w state.Skipped h = cc

and_first : (a b : Bool) → (a && b) ≡ true → a ≡ true
and_first true b h = refl
and_first false b h = cc

and_second : (a b : Bool) → (a && b) ≡ true → b ≡ true
and_second true b h = h
and_second false b h = cc

pub looked_is_held : (w : ℕ) (good : Bool) (s : PipState) → may_publish_looked w good s ≡ true → IsHeldBy w s
looked_is_held w good state.Waiting h = cc
looked_is_held w good (state.Held v) h = cc
looked_is_held w good (state.Looked v hit) h = record {
  still_open = record { not_good = refl; not_bad = refl; not_skipped = refl };
  begun = refl;
  held = and_first (v == w) (not hit || good) h;
}
looked_is_held w good (state.Published v published) h = cc
looked_is_held w good (state.Done done) h = cc
looked_is_held w good state.Skipped h = cc

pub lookable_is_held : (is_process : Bool) (w : ℕ) (s : PipState) → may_look is_process w s ≡ true → IsHeldBy w s
lookable_is_held is_process w s h = claimed_is_held w s (and_second is_process (is_claimed_by w s) h)

pub publishable_is_held : (is_process : Bool) (w : ℕ) (good : Bool) (s : PipState) → may_publish is_process w good s ≡ true → IsHeldBy w s
publishable_is_held true w good s h = looked_is_held w good s h
publishable_is_held false w good s h = claimed_is_held w s (and_first (is_claimed_by w s) good h)

pub completable_is_held : (w : ℕ) (s : PipState) → may_complete w s ≡ true → IsHeldBy w s
completable_is_held w state.Waiting h = cc
completable_is_held w (state.Held v) h = cc
completable_is_held w (state.Looked v hit) h = cc
completable_is_held w (state.Published v good) h = record { still_open = record { not_good = refl; not_bad = refl; not_skipped = refl }; begun = refl; held = h }
completable_is_held w (state.Done good) h = cc
completable_is_held w state.Skipped h = cc

pub releasable_is_held : (w : ℕ) (s : PipState) → may_release w s ≡ true → IsHeldBy w s
releasable_is_held w state.Waiting h = cc
releasable_is_held w (state.Held v) h = record { still_open = record { not_good = refl; not_bad = refl; not_skipped = refl }; begun = refl; held = h }
releasable_is_held w (state.Looked v hit) h = record { still_open = record { not_good = refl; not_bad = refl; not_skipped = refl }; begun = refl; held = h }
releasable_is_held w (state.Published v good) h = cc
releasable_is_held w (state.Done good) h = cc
releasable_is_held w state.Skipped h = cc

-- ## What a completed pip is

pub completed_holder : (w : ℕ) (s : PipState) → may_complete w s ≡ true → holder (completed s) ≡ None
completed_holder w state.Waiting h = cc
completed_holder w (state.Held v) h = cc
completed_holder w (state.Looked v hit) h = cc
completed_holder w (state.Published v good) h = refl
completed_holder w (state.Done good) h = cc
completed_holder w state.Skipped h = cc

pub completed_skipped : (s : PipState) (w : ℕ) → may_complete w s ≡ true → is_skipped (completed s) ≡ false
completed_skipped state.Waiting w h = cc
completed_skipped (state.Held v) w h = cc
completed_skipped (state.Looked v hit) w h = cc
completed_skipped (state.Published v good) w h = refl
completed_skipped (state.Done good) w h = cc
completed_skipped state.Skipped w h = cc

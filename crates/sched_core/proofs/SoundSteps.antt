-- What every event keeps of a state.
use Rattle.std.proofs.Common.{◌≡◌, ◌⊎◌, ℕ, ◌<◌, ◌==◌, Bool, true, false, not, ◌&&◌, List, length, set, refl, ap, sym, ◌∙◌, arith, inl, inr, length-set}
use Rattle.std.proofs.lemmas.Bool.{and_parts, both_ways, cases_eq, cases_lt, eq-eqb, eqb-true, not-true, or_left}
use Rattle.std.proofs.lemmas.List.{get_or-set_other, get_or_past}
use Rattle.sched_core.proofs.Counts.{all_good-is, missing-set, some_bad-set}
use Rattle.sched_core.proofs.Places.{is_there, state_at-same, state_at-other}
use Rattle.sched_core.proofs.Seats.{none_holds}
use Rattle.sched_core.proofs.StateTests.{IsHeldBy, IsOpen, completable_is_held, completed_holder, completed_skipped, lookable_is_held, publishable_is_held, releasable_is_held, waiting_is_free, waiting_is_open}
use Rattle.sched_core.specs.Indexes.{missing_of, times}
use Rattle.sched_core.specs.Sound.{IsSound}
use Rattle.sched_core.specs.States.{completed, holds, is_bad, is_begun, is_done_well, is_skipped, is_waiting, is_worker, may_complete}
use Rattle.sched_core.specs.Table.{CoreState, next_state, all_good, allows, fits_table, has_left, holds_none, node_inputs, left_after, may_skip, may_start, node_at, pip_of, some_bad, state_after_event, state_at, worker_of}
use Rattle.sched_core.specs.declared.event.Event.{Event}
use Rattle.sched_core.specs.declared.event.Event.TheVariants as event
use Rattle.sched_core.specs.declared.state.PipState.{PipState}
use Rattle.sched_core.specs.declared.state.PipState.TheVariants as state

-- ## The inputs of a pip, as another comes to a state

eqb_zero : (n : ℕ) → (n == 0) ≡ true → n ≡ 0
eqb_zero n h = eqb-true n 0 h

pub good_stays : (states : List PipState) (q : ℕ) (x : PipState) (inputs : List ℕ) → q < length states
    → is_done_well (state_at states q) ≡ false → all_good states inputs ≡ true → all_good (set states q x) inputs ≡ true
good_stays states q x inputs there before h =
    let none : missing_of states inputs ≡ 0 = eqb_zero (missing_of states inputs) (sym (all_good-is states inputs) ∙ h) in
    all_good-is (set states q x) inputs
    ∙ eq-eqb (missing_of (set states q x) inputs) 0 (omega (arith, missing-set states q x inputs there before, none))

pub bad_stays : (states : List PipState) (q : ℕ) (x : PipState) (inputs : List ℕ) → q < length states
    → is_bad (state_at states q) ≡ false → some_bad states inputs ≡ true → some_bad (set states q x) inputs ≡ true
bad_stays states q x inputs there before h =
    some_bad-set states q x inputs there before
    ∙ or_left (some_bad states inputs) (is_bad x && not (times q inputs == 0)) h

-- ## What an event that is allowed does

pub record Steps (s : CoreState) (e : Event) (x : PipState) : Type 0 where
  pub there : pip_of e < length s.states
  pub is_in : worker_of e < length s.left
  pub still_open : IsOpen (state_at s.states (pip_of e))
  pub begun : is_begun x ≡ true → all_good s.states (node_inputs s.nodes (pip_of e)) ≡ true
  pub skipped : is_skipped x ≡ true → some_bad s.states (node_inputs s.nodes (pip_of e)) ≡ true
  -- only the worker of the event holds its pip, before and after, and no other pip
  pub before : (u : ℕ) → holds u (state_at s.states (pip_of e)) ≡ true → u ≡ worker_of e
  pub by : (u : ℕ) → holds u x ≡ true → u ≡ worker_of e
  pub lone : (p : ℕ) → holds (worker_of e) (state_at s.states p) ≡ true → p ≡ pip_of e
  -- it leaves only where it holds none any more
  pub stays : holds (worker_of e) x ≡ true → has_left (left_after s.left e) (worker_of e) ≡ false
  pub others : (u : ℕ) → (u ≡ worker_of e → ⊥) → has_left (left_after s.left e) u ≡ has_left s.left u

abbrev pub stepped : CoreState → Event → PipState
stepped s e = state_after_event (state_at s.states (pip_of e)) e

-- a worker that has not left is there
worker_there : (left : List Bool) (w : ℕ) → has_left left w ≡ false → w < length left
worker_there left w h = elim (cases_lt w (length left)) [
  | inl l ↦ l
  | inr past ↦ absurd (both_ways (has_left left w) h (get_or_past left w true past))
]

open_there : (states : List PipState) (q : ℕ) → IsOpen (state_at states q) → q < length states
open_there states q h = is_there states q (λ e. both_ways (is_skipped (state_at states q)) h.not_skipped (ap is_skipped e))

same_holder : (w u : ℕ) → (w == u) ≡ true → u ≡ w
same_holder w u h = sym (eqb-true w u h)

-- a state that one worker holds is held by no other
pub one_holder : (s : PipState) (u w : ℕ) → holds u s ≡ true → holds w s ≡ true → u ≡ w
one_holder state.Waiting u w a b = cc
one_holder (state.Held v) u w a b = sym (eqb-true v u a) ∙ eqb-true v w b
one_holder (state.Looked v hit) u w a b = sym (eqb-true v u a) ∙ eqb-true v w b
one_holder (state.Published v good) u w a b = sym (eqb-true v u a) ∙ eqb-true v w b
one_holder (state.Done good) u w a b = cc
one_holder state.Skipped u w a b = cc

-- a worker that holds none holds no pip
free_lone : (s : CoreState) (w q : ℕ) → holds_none w s.states ≡ true → (p : ℕ) → holds w (state_at s.states p) ≡ true → p ≡ q
free_lone s w q free p h = absurd (both_ways (holds w (state_at s.states p)) (none_holds w s.states free p) h)

free_before : (s : CoreState) (w q : ℕ) → is_waiting (state_at s.states q) ≡ true → (u : ℕ) → holds u (state_at s.states q) ≡ true → u ≡ w
free_before s w q waits u h = absurd (both_ways (holds u (state_at s.states q)) (waiting_is_free (state_at s.states q) u waits) h)

start_steps : (s : CoreState) (p w : ℕ) → has_left s.left w ≡ false → (may_start s p && holds_none w s.states) ≡ true
    → Steps s (event.Start p w) (state.Held w)
start_steps s p w stayed h =
    let parts = and_parts (may_start s p) (holds_none w s.states) h in
    let may = and_parts (is_waiting (state_at s.states p)) (all_good s.states (node_inputs s.nodes p)) parts.0 in
    let open_now = waiting_is_open (state_at s.states p) may.0 in record {
      there = open_there s.states p open_now;
      is_in = worker_there s.left w stayed;
      still_open = open_now;
      begun = λ e. may.1;
      skipped = λ e. cc;
      before = free_before s w p may.0;
      by = λ u e. same_holder w u e;
      lone = free_lone s w p parts.1;
      stays = λ e. stayed;
      others = λ u other. refl;
    }

skip_steps : (s : CoreState) (p w : ℕ) → has_left s.left w ≡ false → (may_skip s p && holds_none w s.states) ≡ true
    → Steps s (event.Skip p w) state.Skipped
skip_steps s p w stayed h =
    let parts = and_parts (may_skip s p) (holds_none w s.states) h in
    let may = and_parts (is_waiting (state_at s.states p)) (some_bad s.states (node_inputs s.nodes p)) parts.0 in
    let open_now = waiting_is_open (state_at s.states p) may.0 in record {
      there = open_there s.states p open_now;
      is_in = worker_there s.left w stayed;
      still_open = open_now;
      begun = λ e. cc;
      skipped = λ e. may.1;
      before = free_before s w p may.0;
      by = λ u e. cc;
      lone = free_lone s w p parts.1;
      stays = λ e. stayed;
      others = λ u other. refl;
    }

looked_steps : (s : CoreState) (p w : ℕ) (hit : Bool) → IsSound s → has_left s.left w ≡ false → IsHeldBy w (state_at s.states p)
    → Steps s (event.Looked p w hit) (state.Looked w hit)
looked_steps s p w hit sound stayed h = record {
  there = open_there s.states p h.still_open;
  is_in = worker_there s.left w stayed;
  still_open = h.still_open;
  begun = λ e. sound.begun p h.begun;
  skipped = λ e. cc;
  before = λ u e. one_holder (state_at s.states p) u w e h.held;
  by = λ u e. same_holder w u e;
  lone = λ q e. sound.alone q p w e h.held;
  stays = λ e. stayed;
  others = λ u other. refl;
}

publish_steps : (s : CoreState) (p w : ℕ) (good : Bool) → IsSound s → has_left s.left w ≡ false → IsHeldBy w (state_at s.states p)
    → Steps s (event.Publish p w good) (state.Published w good)
publish_steps s p w good sound stayed h = record {
  there = open_there s.states p h.still_open;
  is_in = worker_there s.left w stayed;
  still_open = h.still_open;
  begun = λ e. sound.begun p h.begun;
  skipped = λ e. cc;
  before = λ u e. one_holder (state_at s.states p) u w e h.held;
  by = λ u e. same_holder w u e;
  lone = λ q e. sound.alone q p w e h.held;
  stays = λ e. stayed;
  others = λ u other. refl;
}

complete_steps : (s : CoreState) (p w : ℕ) → IsSound s → has_left s.left w ≡ false → may_complete w (state_at s.states p) ≡ true
    → Steps s (event.Complete p w) (completed (state_at s.states p))
complete_steps s p w sound stayed may =
    let h = completable_is_held w (state_at s.states p) may in
    let gone : (u : ℕ) → holds u (completed (state_at s.states p)) ≡ false =
    λ u. ap (is_worker u) (completed_holder w (state_at s.states p) may) in record {
      there = open_there s.states p h.still_open;
      is_in = worker_there s.left w stayed;
      still_open = h.still_open;
      begun = λ e. sound.begun p h.begun;
      skipped = λ e. absurd (both_ways (is_skipped (completed (state_at s.states p))) (completed_skipped (state_at s.states p) w may) e);
      before = λ u e. one_holder (state_at s.states p) u w e h.held;
      by = λ u e. absurd (both_ways (holds u (completed (state_at s.states p))) (gone u) e);
      lone = λ q e. sound.alone q p w e h.held;
      stays = λ e. stayed;
      others = λ u other. refl;
    }

release_steps : (s : CoreState) (p w : ℕ) → IsSound s → has_left s.left w ≡ false → IsHeldBy w (state_at s.states p)
    → Steps s (event.Release p w) state.Waiting
release_steps s p w sound stayed h = record {
  there = open_there s.states p h.still_open;
  is_in = worker_there s.left w stayed;
  still_open = h.still_open;
  begun = λ e. cc;
  skipped = λ e. cc;
  before = λ u e. one_holder (state_at s.states p) u w e h.held;
  by = λ u e. cc;
  lone = λ q e. sound.alone q p w e h.held;
  stays = λ e. cc;
  others = λ u other. get_or-set_other s.left w u true true other;
}

by_event : (s : CoreState) (e : Event) → IsSound s → has_left s.left (worker_of e) ≡ false → fits_table s e ≡ true → Steps s e (stepped s e)
by_event s (event.Start p w) sound stayed h = start_steps s p w stayed h
by_event s (event.Looked p w hit) sound stayed h =
    looked_steps s p w hit sound stayed (lookable_is_held (node_at s.nodes p).is_process w (state_at s.states p) h)
by_event s (event.Publish p w good) sound stayed h =
    publish_steps s p w good sound stayed (publishable_is_held (node_at s.nodes p).is_process w good (state_at s.states p) h)
by_event s (event.Complete p w) sound stayed h = complete_steps s p w sound stayed h
by_event s (event.Skip p w) sound stayed h = skip_steps s p w stayed h
by_event s (event.Release p w) sound stayed h = release_steps s p w sound stayed (releasable_is_held w (state_at s.states p) h)

pub steps_of : (s : CoreState) (e : Event) → IsSound s → allows s e ≡ true → Steps s e (stepped s e)
steps_of s e sound h =
    let parts = and_parts (not (has_left s.left (worker_of e))) (fits_table s e) h in
    by_event s e sound (not-true (has_left s.left (worker_of e)) parts.0) parts.1

-- ## Sound stays sound

abbrev Begun : CoreState → List PipState → ℕ → PipState → Type 0
Begun s states p x = is_begun x ≡ true → all_good states (node_inputs s.nodes p) ≡ true

pub sound_step : (s : CoreState) (e : Event) → IsSound s → Steps s e (stepped s e) → IsSound (next_state s e)
sound_step s e sound h =
    let q = pip_of e in
    let w = worker_of e in
    let x = stepped s e in
    let now = set s.states q x in
    let good : (p : ℕ) → all_good s.states (node_inputs s.nodes p) ≡ true → all_good now (node_inputs s.nodes p) ≡ true =
    λ p g. good_stays s.states q x (node_inputs s.nodes p) h.there h.still_open.not_good g in
    let bad : (p : ℕ) → some_bad s.states (node_inputs s.nodes p) ≡ true → some_bad now (node_inputs s.nodes p) ≡ true =
    λ p b. bad_stays s.states q x (node_inputs s.nodes p) h.there h.still_open.not_bad b in
    let at_pip : (p : ℕ) → p ≡ q → state_at now p ≡ x =
    λ p e'. ap (λ k. state_at now k) e' ∙ state_at-same s.states q x h.there in
    let at_other : (p : ℕ) → (p ≡ q → ⊥) → state_at now p ≡ state_at s.states p = λ p n. state_at-other s.states q p x n in
    -- whoever holds a pip now is the worker of the event at its pip, or held the pip before
    let holding : (p u : ℕ) → holds u (state_at now p) ≡ true
    → ((p ≡ q) × (u ≡ w) × (holds u x ≡ true)) ⊎ ((p ≡ q → ⊥) × (u ≡ w → ⊥) × (holds u (state_at s.states p) ≡ true)) =
    λ p u g. elim (cases_eq p q) [
      | inl same ↦
          let here : holds u x ≡ true = sym (ap (holds u) (at_pip p same)) ∙ g in
          inl (same, h.by u here, here)
      | inr other ↦
          let there : holds u (state_at s.states p) ≡ true = sym (ap (holds u) (at_other p other)) ∙ g in
          inr (other, (λ e'. other (h.lone p (sym (ap (λ v. holds v (state_at s.states p)) e') ∙ there))), there)
    ] in record {
      same_size = length-set s.states q x ∙ sound.same_size;
      begun = λ p g. elim (cases_eq p q) [
        | inl same ↦
            good p (ap (λ k. all_good s.states (node_inputs s.nodes k)) same ∙ h.begun (sym (ap is_begun (at_pip p same)) ∙ g))
        | inr other ↦ good p (sound.begun p (sym (ap is_begun (at_other p other)) ∙ g))
      ];
      alone = λ p r u a b. elim (holding p u a) [
        | inl here ↦ elim (holding r u b) [
          | inl there ↦ here.0 ∙ sym there.0
          | inr there ↦ absurd (there.1 here.1)
        ]
        | inr here ↦ elim (holding r u b) [
          | inl there ↦ absurd (here.1 there.1)
          | inr there ↦ sound.alone p r u here.2 there.2
        ]
      ];
      stays = λ p u g. elim (holding p u g) [
        | inl here ↦
            let held : holds w x ≡ true = sym (ap (λ v. holds v x) here.1) ∙ here.2 in
            ap (has_left (left_after s.left e)) here.1 ∙ h.stays held
        | inr here ↦ h.others u here.1 ∙ sound.stays p u here.2
      ];
      skipped = λ p l g. elim (cases_eq p q) [
        | inl same ↦
            bad p (ap (λ k. some_bad s.states (node_inputs s.nodes k)) same ∙ h.skipped (sym (ap is_skipped (at_pip p same)) ∙ g))
        | inr other ↦ bad p (sound.skipped p l (sym (ap is_skipped (at_other p other)) ∙ g))
      ];
    }

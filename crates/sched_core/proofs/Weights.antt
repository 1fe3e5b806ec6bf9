-- The weight of a state rises at each event, and is bounded.
use Rattle.std.proofs.Common.{◌≡◌, ℕ, ◌+◌, ◌*◌, ◌<◌, ◌≤◌, Bool, true, false, not, List, [], ◌∷◌, length, get_or, refl, ap, ◌∙◌, arith, length-set}
use Rattle.std.specs.List.{sum_by}
use Rattle.std.proofs.lemmas.Bool.{and_parts, not-true}
use Rattle.std.proofs.lemmas.List.{length-replicate}
use Rattle.std.proofs.lemmas.List.Sums.{sum_by-cons, sum_by-set}
use Rattle.sched_core.proofs.Beginning.{sound_at_first}
use Rattle.sched_core.proofs.CoreSteps.{length-left_after}
use Rattle.sched_core.proofs.EventLaws.{fits, waits_to_skip, waits_to_start}
use Rattle.sched_core.proofs.SoundSteps.{sound_step, steps_of, stepped}
use Rattle.sched_core.specs.Laws.{FewEvents}
use Rattle.sched_core.specs.Legal.{initial_state, is_legal, state_after}
use Rattle.sched_core.specs.Sound.{IsSound}
use Rattle.sched_core.specs.States.{completed, is_claimed_by, may_publish_looked, is_waiting, may_complete, may_publish, may_release}
use Rattle.sched_core.specs.Table.{CoreState, next_state, allows, fits_table, has_left, left_after, node_at, pip_of, state_at, worker_of}
use Rattle.sched_core.specs.declared.event.Event.{Event}
use Rattle.sched_core.specs.declared.event.Event.TheVariants as event
use Rattle.sched_core.specs.declared.graph.Node.{Node}
use Rattle.sched_core.specs.declared.state.PipState.{PipState}
use Rattle.sched_core.specs.declared.state.PipState.TheVariants as state

-- ## How far all pips and workers are

-- Each event but a release takes its pip at least one further.
abbrev rank : PipState → ℕ
rank state.Waiting = 0
rank (state.Held w) = 1
rank (state.Looked w hit) = 2
rank (state.Published w good) = 3
rank (state.Done good) = 4
rank state.Skipped = 4

-- A release takes its pip back by two at most, and its worker leaves.
abbrev leave_rank : Bool → ℕ
leave_rank true = 3
leave_rank false = 0

abbrev weight : CoreState → ℕ
weight s = sum_by rank s.states + sum_by leave_rank s.left

-- ## Ranks

waiting_rank : (s : PipState) → is_waiting s ≡ true → rank s ≡ 0
waiting_rank state.Waiting h = refl
waiting_rank (state.Held w) h = cc
waiting_rank (state.Looked w hit) h = cc
waiting_rank (state.Published w good) h = cc
waiting_rank (state.Done good) h = cc
waiting_rank state.Skipped h = cc

claimed_rank : (w : ℕ) (s : PipState) → is_claimed_by w s ≡ true → rank s ≡ 1
claimed_rank w state.Waiting h = cc
claimed_rank w (state.Held v) h = refl
claimed_rank w (state.Looked v hit) h = cc
claimed_rank w (state.Published v good) h = cc
claimed_rank w (state.Done good) h = cc
claimed_rank w state.Skipped h = cc

looked_rank : (w : ℕ) (good : Bool) (s : PipState) → may_publish_looked w good s ≡ true → rank s ≡ 2
looked_rank w good state.Waiting h = cc
looked_rank w good (state.Held v) h = cc
looked_rank w good (state.Looked v hit) h = refl
looked_rank w good (state.Published v done) h = cc
looked_rank w good (state.Done done) h = cc
looked_rank w good state.Skipped h = cc

publish_rank : (is_process : Bool) (w : ℕ) (good : Bool) (s : PipState) → may_publish is_process w good s ≡ true → rank s ≤ 2
publish_rank true w good s h = omega (arith, looked_rank w good s h)
publish_rank false w good s h = omega (arith, claimed_rank w s (and_parts (is_claimed_by w s) good h).0)

complete_rank : (w : ℕ) (s : PipState) → may_complete w s ≡ true → (rank s ≡ 3) × (rank (completed s) ≡ 4)
complete_rank w state.Waiting h = cc
complete_rank w (state.Held v) h = cc
complete_rank w (state.Looked v hit) h = cc
complete_rank w (state.Published v good) h = (refl, refl)
complete_rank w (state.Done good) h = cc
complete_rank w state.Skipped h = cc

release_rank : (w : ℕ) (s : PipState) → may_release w s ≡ true → rank s ≤ 2
release_rank w state.Waiting h = cc
release_rank w (state.Held v) h = omega arith
release_rank w (state.Looked v hit) h = omega arith
release_rank w (state.Published v good) h = cc
release_rank w (state.Done good) h = cc
release_rank w state.Skipped h = cc

-- ## One event

-- how much the ranks of a pip and of a worker rise together
pub record Rises (s : CoreState) (e : Event) : Type 0 where
  pub by : rank (state_at s.states (pip_of e)) + sum_by leave_rank s.left + 1 ≤ rank (stepped s e) + sum_by leave_rank (left_after s.left e)

rises : (s : CoreState) (e : Event) → fits_table s e ≡ true → has_left s.left (worker_of e) ≡ false → worker_of e < length s.left → Rises s e
rises s (event.Start p w) h stayed there = record { by = omega (arith, waiting_rank (state_at s.states p) (waits_to_start s p w h).0) }
rises s (event.Looked p w hit) h stayed there =
    record { by = omega (arith, claimed_rank w (state_at s.states p) (and_parts (node_at s.nodes p).is_process (is_claimed_by w (state_at s.states p)) h).1) }
rises s (event.Publish p w good) h stayed there =
    record { by = omega (arith, publish_rank (node_at s.nodes p).is_process w good (state_at s.states p) h) }
rises s (event.Complete p w) h stayed there = record { by = omega (arith, complete_rank w (state_at s.states p) h) }
rises s (event.Skip p w) h stayed there = record { by = omega (arith, waiting_rank (state_at s.states p) (waits_to_skip s p w h)) }
rises s (event.Release p w) h stayed there =
    let before : leave_rank (get_or s.left w true) ≡ 0 = ap leave_rank stayed in
    record { by = omega (arith, release_rank w (state_at s.states p) h, sum_by-set leave_rank s.left w true true there, before) }

weight_step : (s : CoreState) (e : Event) → IsSound s → allows s e ≡ true → weight s + 1 ≤ weight (next_state s e)
weight_step s e sound h =
    let steps = steps_of s e sound h in
    let stayed = not-true (has_left s.left (worker_of e)) (and_parts (not (has_left s.left (worker_of e))) (fits_table s e) h).0 in
    let up = rises s e (fits s e h) stayed steps.is_in in
    omega (arith, up.by, sum_by-set rank s.states (pip_of e) (stepped s e) state.Skipped steps.there)

-- ## Lists of events

weight_after : (s : CoreState) (xs : List Event) → IsSound s → is_legal s xs ≡ true → weight s + length xs ≤ weight (state_after s xs)
weight_after s [] sound h = omega arith
weight_after s (x ∷ xs) sound h =
    let parts = and_parts (allows s x) (is_legal (next_state s x) xs) h in
    let next = sound_step s x sound (steps_of s x sound parts.0) in
    omega (arith, weight_step s x sound parts.0, weight_after (next_state s x) xs next parts.1)

rank_bound : (s : PipState) → rank s ≤ 4
rank_bound state.Waiting = omega arith
rank_bound (state.Held w) = omega arith
rank_bound (state.Looked w hit) = omega arith
rank_bound (state.Published w good) = omega arith
rank_bound (state.Done good) = omega arith
rank_bound state.Skipped = omega arith

leave_bound : (b : Bool) → leave_rank b ≤ 3
leave_bound true = omega arith
leave_bound false = omega arith

ranks_bound : (states : List PipState) → sum_by rank states ≤ 4 * length states
ranks_bound [] = omega arith
ranks_bound (s ∷ states) = omega (arith, sum_by-cons rank s states, rank_bound s, ranks_bound states)

leaves_bound : (left : List Bool) → sum_by leave_rank left ≤ 3 * length left
leaves_bound [] = omega arith
leaves_bound (b ∷ left) = omega (arith, sum_by-cons leave_rank b left, leave_bound b, leaves_bound left)

pub weight_bound : (s : CoreState) → weight s ≤ 4 * length s.states + 3 * length s.left
weight_bound s = omega (arith, ranks_bound s.states, leaves_bound s.left)

same_states : (s : CoreState) (xs : List Event) → length (state_after s xs).states ≡ length s.states
same_states s [] = refl
same_states s (x ∷ xs) = same_states (next_state s x) xs ∙ length-set s.states (pip_of x) (stepped s x)

same_left : (s : CoreState) (xs : List Event) → length (state_after s xs).left ≡ length s.left
same_left s [] = refl
same_left s (x ∷ xs) = same_left (next_state s x) xs ∙ length-left_after s.left x

pub few_events : (nodes : List Node) (workers : ℕ) → FewEvents nodes workers
few_events nodes workers events legal =
    let s = initial_state nodes workers in
    omega (
      arith,
      weight_after s events (sound_at_first nodes workers) legal,
      weight_bound (state_after s events),
      same_states s events,
      same_left s events,
      length-replicate (length nodes) state.Waiting,
      length-replicate workers false,
    )

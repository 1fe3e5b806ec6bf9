-- What holds of every legal list of events.
use Rattle.std.specs.Prelude.{◌≡◌, ℕ, ◌+◌, ◌*◌, ◌≤◌, Bool, true, false, List, [], ◌∷◌, ◌++◌, length, Contains}
use Rattle.sched_core.specs.declared.event.Event.{Event}
use Rattle.sched_core.specs.declared.event.Event.TheVariants as event
use Rattle.sched_core.specs.declared.graph.Node.{Node}
use Rattle.sched_core.specs.declared.state.PipState.TheVariants as state
use Rattle.sched_core.specs.Legal.{Legal, initial_state, state_after}
use Rattle.sched_core.specs.Sound.{IsSound}
use Rattle.sched_core.specs.States.{holds}
use Rattle.sched_core.specs.Table.{CoreState, are_settled, AreOrdered, node_inputs, is_idle, may_skip, may_start, state_at, worker_of}

-- the state that a list of events leads to, where all pips waited
abbrev pub reached : List Node → ℕ → List Event → CoreState
reached nodes workers events = state_after (initial_state nodes workers) events

-- the list has a completion of the pip, by which the pip is done with success
abbrev pub CompletesWell : List Node → ℕ → List Event → ℕ → Type 0
CompletesWell nodes workers events pip =
    (front : List Event) × (back : List Event) × (w : ℕ)
    × (events ≡ front ++ event.Complete pip w ∷ back)
    × (state_at (reached nodes workers (front ++ event.Complete pip w ∷ [])).states pip ≡ state.Done true)

-- ## One holder a pip, one pip a worker

abbrev pub OneHolder : List Node → ℕ → Type 0
OneHolder nodes workers = (events : List Event) (p v w : ℕ) → Legal nodes workers events
    → holds v (state_at (reached nodes workers events).states p) ≡ true
    → holds w (state_at (reached nodes workers events).states p) ≡ true → v ≡ w

abbrev pub OnePip : List Node → ℕ → Type 0
OnePip nodes workers = (events : List Event) (p q w : ℕ) → Legal nodes workers events
    → holds w (state_at (reached nodes workers events).states p) ≡ true
    → holds w (state_at (reached nodes workers events).states q) ≡ true → p ≡ q

-- ## Order

-- a pip is published at most once
abbrev pub PublishedOnce : List Node → ℕ → Type 0
PublishedOnce nodes workers = (events between rest : List Event) (p v w : ℕ) (a b : Bool)
    → Legal nodes workers ((events ++ event.Publish p v a ∷ between) ++ event.Publish p w b ∷ rest) → ⊥

-- before a pip starts, each of its inputs completed with success
abbrev pub StartsAfterInputs : List Node → ℕ → Type 0
StartsAfterInputs nodes workers = (events rest : List Event) (p w input : ℕ)
    → Legal nodes workers (events ++ event.Start p w ∷ rest)
    → Contains (node_inputs nodes p) input → CompletesWell nodes workers events input

-- between two starts of a pip it is released
abbrev pub ReleasedBetween : List Node → ℕ → Type 0
ReleasedBetween nodes workers = (events between rest : List Event) (p v w : ℕ)
    → Legal nodes workers ((events ++ event.Start p v ∷ between) ++ event.Start p w ∷ rest)
    → (u : ℕ) × Contains between (event.Release p u)

-- a worker that released a pip makes no later event
abbrev pub NothingAfterRelease : List Node → ℕ → Type 0
NothingAfterRelease nodes workers = (events between rest : List Event) (p w : ℕ) (e : Event)
    → Legal nodes workers ((events ++ event.Release p w ∷ between) ++ e ∷ rest) → worker_of e ≡ w → ⊥

-- ## States and sizes

-- each state that is reached is sound
abbrev pub ReachesSound : List Node → ℕ → Type 0
ReachesSound nodes workers = (events : List Event) → Legal nodes workers events → IsSound (reached nodes workers events)

-- there are at most four events a pip and three a worker
abbrev pub FewEvents : List Node → ℕ → Type 0
FewEvents nodes workers = (events : List Event) → Legal nodes workers events
    → length events ≤ 4 * length nodes + 3 * workers

-- ## The end

-- where no pip may start or be skipped and nobody holds one, each pip is completed or skipped
abbrev pub EndsSettled : CoreState → Type 0
EndsSettled s = AreOrdered s.nodes → ((p : ℕ) → may_start s p ≡ false) → ((p : ℕ) → may_skip s p ≡ false)
    → is_idle s.states ≡ true → are_settled s.states ≡ true

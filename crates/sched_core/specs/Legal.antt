-- Lists of events, each allowed after the ones before it.
use Rattle.std.specs.Prelude.{◌≡◌, ℕ, Bool, true, false, ◌&&◌, List, [], ◌∷◌, length, replicate}
use Rattle.sched_core.specs.declared.event.Event.{Event}
use Rattle.sched_core.specs.declared.graph.Node.{Node}
use Rattle.sched_core.specs.declared.state.PipState.{PipState}
use Rattle.sched_core.specs.declared.state.PipState.TheVariants as state
use Rattle.sched_core.specs.Table.{CoreState, next_state, allows}

abbrev pub all_waiting : ℕ → List PipState
all_waiting pips = replicate pips state.Waiting

-- all pips wait, and no worker has left
abbrev pub initial_state : List Node → ℕ → CoreState
initial_state nodes workers = record {
  nodes = nodes;
  states = all_waiting (length nodes);
  left = replicate workers false;
}

-- the state after these events
abbrev pub state_after : CoreState → List Event → CoreState
state_after s [] = s
state_after s (e ∷ es) = state_after (next_state s e) es

-- each event is allowed after the ones before it
abbrev pub is_legal : CoreState → List Event → Bool
is_legal s [] = true
is_legal s (e ∷ es) = allows s e && is_legal (next_state s e) es

-- the events may happen, in this order, to pips that all wait, by this many workers
abbrev pub Legal : List Node → ℕ → List Event → Type 0
Legal nodes workers events = is_legal (initial_state nodes workers) events ≡ true

-- The table of events: where each is allowed, and what the state is after it.
use Rattle.std.specs.Prelude.{ℕ, ◌<◌, Bool, true, false, not, ◌&&◌, List, [], All, Option, position, is_none, set, slice_get}
use Rattle.std.specs.List.{list_all, list_any, slice_index_or}
use Rattle.sched_core.specs.declared.event.Event.{Event}
use Rattle.sched_core.specs.declared.event.Event.TheVariants as event
use Rattle.sched_core.specs.declared.graph.Node.{Node}
use Rattle.sched_core.specs.declared.state.PipState.{PipState}
use Rattle.sched_core.specs.declared.state.PipState.TheVariants as state
use Rattle.sched_core.specs.States.{completed, holder, holds, is_bad, is_done_well, is_settled, is_waiting, may_complete, may_look, may_publish, may_release}

-- ## What is scheduled

-- the pips, the state of each, and for each worker whether it has left
pub record CoreState : Type 0 where
  pub nodes : List Node
  pub states : List PipState
  pub left : List Bool

abbrev pub no_node : Node
no_node = record { is_process = false; inputs = [] }

abbrev pub node_at : List Node → ℕ → Node
node_at nodes pip = slice_index_or nodes pip no_node

abbrev pub node_inputs : List Node → ℕ → List ℕ
node_inputs nodes pip = (node_at nodes pip).inputs

-- a pip that is not there reads as skipped, of which the table allows no event
abbrev pub state_at : List PipState → ℕ → PipState
state_at states pip = slice_index_or states pip state.Skipped

-- A worker that is not there reads as one that has left, so that no legal list has an event of it. Else it could start and
-- release without end, as there is no place in which to keep that it left.
abbrev pub has_left : List Bool → ℕ → Bool
has_left left worker = slice_index_or left worker true

-- each input of a pip has a smaller number
abbrev pub AreOrdered : List Node → Type 0
AreOrdered nodes = (p : ℕ) → All (λ input. input < p) (node_inputs nodes p)

-- ## Events

abbrev pub pip_of : Event → ℕ
pip_of (event.Start p w) = p
pip_of (event.Looked p w hit) = p
pip_of (event.Publish p w good) = p
pip_of (event.Complete p w) = p
pip_of (event.Skip p w) = p
pip_of (event.Release p w) = p

abbrev pub worker_of : Event → ℕ
worker_of (event.Start p w) = w
worker_of (event.Looked p w hit) = w
worker_of (event.Publish p w good) = w
worker_of (event.Complete p w) = w
worker_of (event.Skip p w) = w
worker_of (event.Release p w) = w

-- ## Where an event is allowed

abbrev pub all_good : List PipState → List ℕ → Bool
all_good states inputs = list_all (λ input. is_done_well (state_at states input)) inputs

abbrev pub some_bad : List PipState → List ℕ → Bool
some_bad states inputs = list_any (λ input. is_bad (state_at states input)) inputs

-- the pip waits, and all its inputs completed with success
abbrev pub may_start : CoreState → ℕ → Bool
may_start s pip = is_waiting (state_at s.states pip) && all_good s.states (node_inputs s.nodes pip)

-- the pip waits, and an input completed without success or was skipped
abbrev pub may_skip : CoreState → ℕ → Bool
may_skip s pip = is_waiting (state_at s.states pip) && some_bad s.states (node_inputs s.nodes pip)

-- the pip that a worker holds, if it holds one
abbrev pub busy_of : ℕ → List PipState → Option ℕ
busy_of worker states = position (holds worker) states

abbrev pub holds_none : ℕ → List PipState → Bool
holds_none worker states = is_none (busy_of worker states)

-- what each event asks, beside that its worker has not left
abbrev pub fits_table : CoreState → Event → Bool
fits_table s (event.Start p w) = may_start s p && holds_none w s.states
fits_table s (event.Looked p w hit) = may_look (node_at s.nodes p).is_process w (state_at s.states p)
fits_table s (event.Publish p w good) =
    may_publish (node_at s.nodes p).is_process w good (state_at s.states p)
fits_table s (event.Complete p w) = may_complete w (state_at s.states p)
fits_table s (event.Skip p w) = may_skip s p && holds_none w s.states
fits_table s (event.Release p w) = may_release w (state_at s.states p)

abbrev pub allows : CoreState → Event → Bool
allows s e = not (has_left s.left (worker_of e)) && fits_table s e

-- ## What is after an event

abbrev pub state_after_event : PipState → Event → PipState
state_after_event old (event.Start p w) = state.Held w
state_after_event old (event.Looked p w hit) = state.Looked w hit
state_after_event old (event.Publish p w good) = state.Published w good
state_after_event old (event.Complete p w) = completed old
state_after_event old (event.Skip p w) = state.Skipped
state_after_event old (event.Release p w) = state.Waiting

-- a worker that releases a pip has left
abbrev pub left_after : List Bool → Event → List Bool
left_after left (event.Start p w) = left
left_after left (event.Looked p w hit) = left
left_after left (event.Publish p w good) = left
left_after left (event.Complete p w) = left
left_after left (event.Skip p w) = left
left_after left (event.Release p w) = set left w true

abbrev pub next_state : CoreState → Event → CoreState
next_state s e = record {
  nodes = s.nodes;
  states = set s.states (pip_of e) (state_after_event (state_at s.states (pip_of e)) e);
  left = left_after s.left e;
}

-- ## What an answer tells

-- why an event is not allowed: the state of its pip, the pip that its worker holds, and whether that has left
pub record IllegalData : Type 0 where
  pub state : Option PipState
  pub busy : Option ℕ
  pub left : Bool

abbrev pub why_illegal : CoreState → Event → IllegalData
why_illegal s e = record {
  state = slice_get s.states (pip_of e);
  busy = busy_of (worker_of e) s.states;
  left = has_left s.left (worker_of e);
}

-- ## Over all pips

-- nobody holds a pip
abbrev pub is_idle : List PipState → Bool
is_idle states = list_all (λ s. is_none (holder s)) states

-- each pip is completed or skipped
abbrev pub are_settled : List PipState → Bool
are_settled states = list_all is_settled states

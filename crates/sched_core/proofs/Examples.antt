-- Worked examples of the table of events and of legal lists.
use Rattle.std.proofs.Common.{◌≡◌, Bool, true, false, List, [], ◌∷◌, Some, None, refl}
use Rattle.sched_core.specs.Legal.{initial_state, is_legal, state_after}
use Rattle.sched_core.specs.Table.{CoreState, allows, are_settled, may_start, state_at, why_illegal}
use Rattle.sched_core.specs.declared.event.Event.{Event}
use Rattle.sched_core.specs.declared.event.Event.TheVariants as event
use Rattle.sched_core.specs.declared.graph.Node.{Node}
use Rattle.sched_core.specs.declared.state.PipState.TheVariants as state

-- ## Two pips that are no processes, and two workers

abbrev writes : List Node
writes = record { is_process = false; inputs = [] } ∷ record { is_process = false; inputs = [] } ∷ []

abbrev begun : List Event
begun = event.Start 0 0 ∷ []

abbrev done : List Event
done = event.Start 0 0 ∷ event.Publish 0 0 true ∷ event.Complete 0 0 ∷ []

abbrev on_writes : List Event → CoreState
on_writes events = state_after (initial_state writes 2) events

a_pip_is_started_once : allows (on_writes begun) (event.Start 0 1) ≡ false
a_pip_is_started_once = refl

the_refusal_names_its_holder : why_illegal (on_writes begun) (event.Start 0 1) ≡ record { state = Some (state.Held 0); busy = None; left = false }
the_refusal_names_its_holder = refl

a_worker_starts_one_pip : allows (on_writes begun) (event.Start 1 0) ≡ false
a_worker_starts_one_pip = refl

another_starts_the_other : allows (on_writes begun) (event.Start 1 1) ≡ true
another_starts_the_other = refl

what_is_no_process_is_not_looked_up : allows (on_writes begun) (event.Looked 0 0 true) ≡ false
what_is_no_process_is_not_looked_up = refl

what_is_no_process_does_not_fail : allows (on_writes begun) (event.Publish 0 0 false) ≡ false
what_is_no_process_does_not_fail = refl

it_completes_with_success : state_at (on_writes done).states 0 ≡ state.Done true
it_completes_with_success = refl

the_other_may_start_then : may_start (on_writes done) 1 ≡ true
the_other_may_start_then = refl

all_is_settled : are_settled (on_writes (event.Start 1 1 ∷ event.Publish 1 1 true ∷ event.Complete 1 1 ∷ done)).states ≡ true
all_is_settled = refl

-- ## A process, and a pip that waits for it

abbrev chain : List Node
chain = record { is_process = true; inputs = [] } ∷ record { is_process = false; inputs = 0 ∷ [] } ∷ []

abbrev on_chain : List Event → CoreState
on_chain events = state_after (initial_state chain 2) events

abbrev legal_on_chain : List Event → Bool
legal_on_chain events = is_legal (initial_state chain 2) events

a_pip_waits_for_its_input : legal_on_chain (event.Start 1 0 ∷ []) ≡ false
a_pip_waits_for_its_input = refl

a_process_is_looked_up_first : legal_on_chain (event.Start 0 0 ∷ event.Publish 0 0 true ∷ []) ≡ false
a_process_is_looked_up_first = refl

a_hit_is_no_failure : legal_on_chain (event.Start 0 0 ∷ event.Looked 0 0 true ∷ event.Publish 0 0 false ∷ []) ≡ false
a_hit_is_no_failure = refl

a_run_may_fail : legal_on_chain (event.Start 0 0 ∷ event.Looked 0 0 false ∷ event.Publish 0 0 false ∷ event.Complete 0 0 ∷ event.Skip 1 1 ∷ []) ≡ true
a_run_may_fail = refl

nothing_starts_after_a_failure : legal_on_chain (event.Start 0 0 ∷ event.Looked 0 0 false ∷ event.Publish 0 0 false ∷ event.Complete 0 0 ∷ event.Start 1 1 ∷ []) ≡ false
nothing_starts_after_a_failure = refl

nothing_is_skipped_after_a_success : legal_on_chain (event.Start 0 0 ∷ event.Looked 0 0 true ∷ event.Publish 0 0 true ∷ event.Complete 0 0 ∷ event.Skip 1 1 ∷ []) ≡ false
nothing_is_skipped_after_a_success = refl

another_starts_what_was_released : legal_on_chain (event.Start 0 0 ∷ event.Looked 0 0 false ∷ event.Release 0 0 ∷ event.Start 0 1 ∷ []) ≡ true
another_starts_what_was_released = refl

who_released_starts_nothing : legal_on_chain (event.Start 0 0 ∷ event.Release 0 0 ∷ event.Start 0 0 ∷ []) ≡ false
who_released_starts_nothing = refl

what_is_published_is_not_released : legal_on_chain (event.Start 0 0 ∷ event.Looked 0 0 true ∷ event.Publish 0 0 true ∷ event.Release 0 0 ∷ []) ≡ false
what_is_published_is_not_released = refl

-- A worker that is not there, and a pip that is not there, have no event.
no_third_worker : legal_on_chain (event.Start 0 2 ∷ []) ≡ false
no_third_worker = refl

no_third_pip : legal_on_chain (event.Skip 2 0 ∷ []) ≡ false
no_third_pip = refl

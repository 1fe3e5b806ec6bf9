-- The state of one pip, and what each event asks of it.
use Rattle.std.specs.Prelude.{ℕ, ◌==◌, Bool, true, false, not, ◌&&◌, ◌||◌, Option, Some, None}
use Rattle.sched_core.specs.declared.state.PipState.{PipState}
use Rattle.sched_core.specs.declared.state.PipState.TheVariants as state

abbrev pub is_waiting : PipState → Bool
is_waiting state.Waiting = true
is_waiting (state.Held w) = false
is_waiting (state.Looked w hit) = false
is_waiting (state.Published w good) = false
is_waiting (state.Done good) = false
is_waiting state.Skipped = false

-- the pip completed with success
abbrev pub is_done_well : PipState → Bool
is_done_well state.Waiting = false
is_done_well (state.Held w) = false
is_done_well (state.Looked w hit) = false
is_done_well (state.Published w good) = false
is_done_well (state.Done good) = good
is_done_well state.Skipped = false

-- the pip completed without success, or was skipped
abbrev pub is_bad : PipState → Bool
is_bad state.Waiting = false
is_bad (state.Held w) = false
is_bad (state.Looked w hit) = false
is_bad (state.Published w good) = false
is_bad (state.Done good) = not good
is_bad state.Skipped = true

-- the worker that holds the pip, which it has claimed, looked up or published
abbrev pub holder : PipState → Option ℕ
holder state.Waiting = None
holder (state.Held w) = Some w
holder (state.Looked w hit) = Some w
holder (state.Published w good) = Some w
holder (state.Done good) = None
holder state.Skipped = None

abbrev pub is_worker : ℕ → Option ℕ → Bool
is_worker worker None = false
is_worker worker (Some w) = w == worker

abbrev pub holds : ℕ → PipState → Bool
holds worker s = is_worker worker (holder s)

-- ## What an event asks of the state of its pip

-- the worker claimed the pip, and did not look it up
abbrev pub is_claimed_by : ℕ → PipState → Bool
is_claimed_by worker state.Waiting = false
is_claimed_by worker (state.Held w) = w == worker
is_claimed_by worker (state.Looked w hit) = false
is_claimed_by worker (state.Published w good) = false
is_claimed_by worker (state.Done good) = false
is_claimed_by worker state.Skipped = false

-- the worker looked the pip up, and may publish it so: a hit is published as a success
abbrev pub may_publish_looked : ℕ → Bool → PipState → Bool
may_publish_looked worker good state.Waiting = false
may_publish_looked worker good (state.Held w) = false
may_publish_looked worker good (state.Looked w hit) = w == worker && (not hit || good)
may_publish_looked worker good (state.Published w published) = false
may_publish_looked worker good (state.Done done) = false
may_publish_looked worker good state.Skipped = false

-- A process is published once it was looked up, any other pip as it was claimed, and as a success.
abbrev pub may_publish : Bool → ℕ → Bool → PipState → Bool
may_publish true worker good s = may_publish_looked worker good s
may_publish false worker good s = is_claimed_by worker s && good

abbrev pub may_look : Bool → ℕ → PipState → Bool
may_look is_process worker s = is_process && is_claimed_by worker s

-- the worker published the pip
abbrev pub may_complete : ℕ → PipState → Bool
may_complete worker state.Waiting = false
may_complete worker (state.Held w) = false
may_complete worker (state.Looked w hit) = false
may_complete worker (state.Published w good) = w == worker
may_complete worker (state.Done good) = false
may_complete worker state.Skipped = false

-- the worker claimed the pip, and did not publish it
abbrev pub may_release : ℕ → PipState → Bool
may_release worker state.Waiting = false
may_release worker (state.Held w) = w == worker
may_release worker (state.Looked w hit) = w == worker
may_release worker (state.Published w good) = false
may_release worker (state.Done good) = false
may_release worker state.Skipped = false

-- what a published pip becomes as it completes
abbrev pub completed : PipState → PipState
completed state.Waiting = state.Waiting
completed (state.Held w) = state.Held w
completed (state.Looked w hit) = state.Looked w hit
completed (state.Published w good) = state.Done good
completed (state.Done good) = state.Done good
completed state.Skipped = state.Skipped

-- ## Other tests

-- the pip is started: all its inputs were good
abbrev pub is_begun : PipState → Bool
is_begun state.Waiting = false
is_begun (state.Held w) = true
is_begun (state.Looked w hit) = true
is_begun (state.Published w good) = true
is_begun (state.Done good) = true
is_begun state.Skipped = false

abbrev pub is_skipped : PipState → Bool
is_skipped state.Waiting = false
is_skipped (state.Held w) = false
is_skipped (state.Looked w hit) = false
is_skipped (state.Published w good) = false
is_skipped (state.Done good) = false
is_skipped state.Skipped = true

-- nothing happens to the pip any more
abbrev pub is_settled : PipState → Bool
is_settled state.Waiting = false
is_settled (state.Held w) = false
is_settled (state.Looked w hit) = false
is_settled (state.Published w good) = false
is_settled (state.Done good) = true
is_settled state.Skipped = true

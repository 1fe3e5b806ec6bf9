-- What contracts see of a board, a share and a job, and what a board keeps.
use Rattle.std.specs.Prelude.{◌≡◌, ℕ, ◌+◌, ◌*◌, ◌<◌, ◌≤◌, Bool, true, false, List, [], ◌∷◌, ◌++◌, length, set, Option, Some, None}
use Rattle.bx_tree.specs.Trees.{Files}
use Rattle.pip_model.specs.Plans.{PlanData}
use Rattle.sched_core.specs.Laws.{reached}
use Rattle.sched_core.specs.Legal.{Legal}
use Rattle.sched_core.specs.Table.{CoreState, are_settled, next_state, busy_of, node_at, pip_of, state_at}
use Rattle.sched_core.specs.declared.event.Event.{Event}
use Rattle.sched_core.specs.declared.state.PipState.{PipState}
use Rattle.sched_core.specs.declared.state.PipState.TheVariants as state
use Rattle.sched_board_slots.specs.Graphs.{IsGraphOf}
use Rattle.sched_board_slots.specs.Slots.{AllFit}
use Rattle.sched_board_slots.specs.declared.held.Held.{Held}

-- ## What contracts see

pub record BoardData : Type 0 where
  pub plan : PlanData
  pub sources : Files
  pub core : CoreState
  pub history : List Event
  pub slots : List Held

abbrev pub board_of : PlanData → Files → CoreState → List Event → List Held → BoardData
board_of plan sources core history slots =
    record { plan = plan; sources = sources; core = core; history = history; slots = slots }

-- a share: its worker, how many events that made, and whether it is marked
pub record ShareData : Type 0 where
  pub worker : ℕ
  pub events : ℕ
  pub marked : Bool

-- a job: its pip, whether that is a process, and what was said of its lookup, if it was looked up
pub record JobData : Type 0 where
  pub pip : ℕ
  pub is_process : Bool
  pub looked : Option Bool

-- why a share or a job does not fit: the state of the job's pip, and the pip that the worker holds
pub record UnfitData : Type 0 where
  pub state : Option PipState
  pub busy : Option ℕ

-- where something shown differs from the board's own, with both digests: index 0 is the description or the plain result, and ask
-- number k is k + 1
pub record Difference : Type 0 where
  pub index : ℕ
  pub held : List ℕ
  pub own : List ℕ

abbrev pub one_more : ShareData → ShareData
one_more share = record share { events = share.events + 1 }

abbrev pub with_mark : ShareData → ShareData
with_mark share = record share { marked = true }

abbrev pub with_looked : JobData → Bool → JobData
with_looked job hit = record job { looked = Some hit }

-- the share of a worker who made no event yet
abbrev pub new_share : ℕ → ShareData
new_share worker = record { worker = worker; events = 0; marked = false }

abbrev pub mark_amount : Bool → ℕ
mark_amount true = 1
mark_amount false = 0

-- ## What a board keeps

-- A board of its plan and its sources: the core has the plan's pips, the history is legal and led to the core's state, and
-- each pip of the plan has a slot, which fits the pip's state. This holds at each moment at which the lock is free, and of what
-- is finished. It speaks of nothing but plan, sources, core, history and slots.
pub record IsBoard (b : BoardData) : Type 0 where
  pub graph : IsGraphOf b.plan b.core.nodes
  pub legal : Legal b.core.nodes (length b.core.left) b.history
  pub core_is : b.core ≡ reached b.core.nodes (length b.core.left) b.history
  pub slots_size : length b.slots ≡ length b.plan.pips
  pub fit : AllFit b.plan b.sources b.core.states b.slots

-- and the ledgers agree with it: `events` and `marks` are their totals, `room` is what is reserved for the history
pub record KeepsBoard (b : BoardData) (events marks room : ℕ) : Type 0 where
  pub board : IsBoard b
  pub counted : length b.history ≡ events
  pub marked : 0 < marks → are_settled b.core.states ≡ true
  pub room_left : 4 * length b.core.nodes + 3 * length b.core.left ≤ room

-- ## One event

-- the board after an event that leaves the slots
abbrev pub stepped : BoardData → Event → BoardData
stepped b e = record b { core = next_state b.core e; history = b.history ++ e ∷ [] }

-- the board after an event that fills the slot of its pip
abbrev pub filled : BoardData → Event → Held → BoardData
filled b e slot = record b { core = next_state b.core e; history = b.history ++ e ∷ []; slots = set b.slots (pip_of e) slot }

-- ## Conditions

-- the state of a pip that a worker holds is the one that its job tells
abbrev pub tells : ℕ → Option Bool → PipState → Type 0
tells worker None s = s ≡ state.Held worker
tells worker (Some hit) s = s ≡ state.Looked worker hit

-- The share is of a worker of this board, who holds no pip.
pub record IsFree (b : BoardData) (share : ShareData) : Type 0 where
  pub worker : share.worker < length b.core.left
  pub free : busy_of share.worker b.core.states ≡ None

-- The share is of a worker of this board, who holds just the job's pip, in the state that the job tells and of the kind that it tells.
pub record IsBusy (b : BoardData) (share : ShareData) (job : JobData) : Type 0 where
  pub worker : share.worker < length b.core.left
  pub there : job.pip < length b.core.nodes
  pub state_is : tells share.worker job.looked (state_at b.core.states job.pip)
  pub kind : job.is_process ≡ (node_at b.core.nodes job.pip).is_process

-- The share is of a worker of this board, who published the pip.
pub record CanComplete (b : BoardData) (share : ShareData) (pip : ℕ) : Type 0 where
  pub worker : share.worker < length b.core.left
  pub published : (good : Bool) × (state_at b.core.states pip ≡ state.Published share.worker good)

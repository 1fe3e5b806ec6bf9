-- What the core keeps so that no call goes over all pips.
use Rattle.std.specs.Prelude.{◌≡◌, ℕ, ◌==◌, ◌<◌, ◌+◌, ◌^◌, Bool, true, not, if◌then◌else◌, ◌&&◌, ◌||◌, List, [], Option, Some, None, is_some, length, set, count_by}
use Rattle.std.specs.List.{slice_index_or}
use Rattle.sched_core.specs.declared.graph.Node.{Node}
use Rattle.sched_core.specs.declared.state.PipState.{PipState}
use Rattle.sched_core.specs.States.{holder, is_bad, is_done_well, is_waiting}
use Rattle.sched_core.specs.Sets.{flag_at}
use Rattle.sched_core.specs.Sound.{IsSound}
use Rattle.sched_core.specs.Table.{AreOrdered, CoreState, busy_of, node_inputs, some_bad, state_at}

-- how often a number stands in a list
abbrev pub times : ℕ → List ℕ → ℕ
times x xs = count_by (λ y. y == x) xs

-- how many of these inputs did not complete with success
abbrev pub missing_of : List PipState → List ℕ → ℕ
missing_of states inputs = count_by (λ input. not (is_done_well (state_at states input))) inputs

-- for each pip how many of its inputs are missing, whether one is bad, and whether it may start or be skipped
pub record Readiness : Type 0 where
  pub missing : List ℕ
  pub failed : List Bool
  pub starts : List Bool
  pub skips : List Bool

abbrev pub missing_at : Readiness → ℕ → ℕ
missing_at r pip = slice_index_or r.missing pip 0

abbrev pub list_at : List (List ℕ) → ℕ → List ℕ
list_at lists pip = slice_index_or lists pip []

-- the pip, where a worker holds it in this state
abbrev pub seat_of : ℕ → PipState → Option ℕ
seat_of pip s = if is_some (holder s) then Some pip else None

abbrev pub seat_at : List (Option ℕ) → ℕ → Option ℕ
seat_at seats worker = slice_index_or seats worker None

-- the flags of a pip, by what is counted for it and by whether it waits
abbrev pub flagged : Readiness → ℕ → Bool → Readiness
flagged r pip waits = record r {
  starts = set r.starts pip (waits && (missing_at r pip == 0));
  skips = set r.skips pip (waits && flag_at r.failed pip);
}

abbrev pub with_missing : Readiness → ℕ → ℕ → Readiness
with_missing r pip count = record r { missing = set r.missing pip count }

abbrev pub with_failed : Readiness → ℕ → Readiness
with_failed r pip = record r { failed = set r.failed pip true }

pub record HasSize (r : Readiness) (n : ℕ) : Type 0 where
  pub missing : length r.missing ≡ n
  pub failed : length r.failed ≡ n
  pub starts : length r.starts ≡ n
  pub skips : length r.skips ≡ n

-- the flags of all pips are those of what is counted
pub record AreFlagged (states : List PipState) (r : Readiness) : Type 0 where
  pub starts : (p : ℕ) → flag_at r.starts p ≡ (is_waiting (state_at states p) && (missing_at r p == 0))
  pub skips : (p : ℕ) → flag_at r.skips p ≡ (is_waiting (state_at states p) && flag_at r.failed p)

-- A pip came to this state, and these pips have it among their inputs: what was counted for them before is
-- brought up to now.
pub record Settles (dependents : List ℕ) (next : PipState) (old new : Readiness) : Type 0 where
  pub missing : (p : ℕ) → missing_at new p + (if is_done_well next then times p dependents else 0) ≡ missing_at old p
  pub failed : (p : ℕ) → flag_at new.failed p
      ≡ (flag_at old.failed p || (is_bad next && not (times p dependents == 0)))

-- what is counted is so
pub record AreCounted (nodes : List Node) (states : List PipState) (r : Readiness) : Type 0 where
  pub missing : (p : ℕ) → missing_at r p ≡ missing_of states (node_inputs nodes p)
  pub failed : (p : ℕ) → flag_at r.failed p ≡ some_bad states (node_inputs nodes p)

-- a pip has another among its dependents as often as the other has it among its inputs
abbrev pub AreDependents : List Node → List (List ℕ) → Type 0
AreDependents nodes dependents = (q p : ℕ) → times p (list_at dependents q) ≡ times q (node_inputs nodes p)

-- the pip is added to the dependents of each of these inputs
abbrev pub AddsDependents : List (List ℕ) → List (List ℕ) → List ℕ → ℕ → Type 0
AddsDependents old new inputs pip = (q p : ℕ)
    → times p (list_at new q) ≡ times p (list_at old q) + (if pip == p then times q inputs else 0)

-- the pip that each worker holds
abbrev pub AreSeats : List PipState → List (Option ℕ) → Type 0
AreSeats states seats = (w : ℕ) → seat_at seats w ≡ busy_of w states

-- what a core keeps: its state, and indexes of it
pub record KeepsCore (s : CoreState) (dependents : List (List ℕ)) (ready : Readiness) (seats : List (Option ℕ)) : Type 0 where
  pub ordered : AreOrdered s.nodes
  pub few : length s.nodes < 2 ^ 32
  pub sound : IsSound s
  pub size : HasSize ready (length s.nodes)
  pub are_dependents : AreDependents s.nodes dependents
  pub dependents_size : length dependents ≡ length s.nodes
  pub counted : AreCounted s.nodes s.states ready
  pub flagged : AreFlagged s.states ready
  pub are_seats : AreSeats s.states seats
  pub seats_size : length seats ≡ length s.left

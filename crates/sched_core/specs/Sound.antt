-- What every state keeps that legal events lead to.
use Rattle.std.specs.Prelude.{◌≡◌, ℕ, ◌<◌, true, false, length}
use Rattle.sched_core.specs.States.{holds, is_begun, is_skipped}
use Rattle.sched_core.specs.Table.{CoreState, all_good, has_left, node_inputs, some_bad, state_at}

pub record IsSound (s : CoreState) : Type 0 where
  -- each pip has a state
  pub same_size : length s.states ≡ length s.nodes
  -- all inputs of a pip that was started completed with success
  pub begun : (p : ℕ) → is_begun (state_at s.states p) ≡ true → all_good s.states (node_inputs s.nodes p) ≡ true
  -- a worker holds one pip at most
  pub alone : (p q w : ℕ) → holds w (state_at s.states p) ≡ true → holds w (state_at s.states q) ≡ true → p ≡ q
  -- a worker that has left holds none
  pub stays : (p w : ℕ) → holds w (state_at s.states p) ≡ true → has_left s.left w ≡ false
  -- an input of a pip that was skipped completed without success or was skipped
  pub skipped : (p : ℕ) → p < length s.nodes → is_skipped (state_at s.states p) ≡ true → some_bad s.states (node_inputs s.nodes p) ≡ true

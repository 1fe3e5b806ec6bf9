-- Calls that are numbered from 1, of which some fail.
use Rattle.std.specs.Prelude.{◌≡◌, ℕ, ◌+◌, ◌<◌, ◌≤◌, ◌↔◌, List, length, Contains, count_by, nat_le}
use Rattle.bx_io.specs.Causes.{counted, last_count}

-- which calls fail, by number, and how many calls and how many faults there were so far
pub record Script : Type 0 where
  pub failing : List ℕ
  pub calls : ℕ
  pub faults : ℕ

-- The next call fails: its number is one of those. No number is above the last value of a counter.
abbrev pub IsFaultDue : Script → Type 0
IsFaultDue script = (script.calls < last_count) × Contains script.failing (script.calls + 1)

-- after a call that did its work
abbrev pub after_work : Script → Script
after_work script = record script { calls = counted script.calls }

-- after a call that failed
abbrev pub after_fault : Script → Script
after_fault script = record script { calls = counted script.calls; faults = counted script.faults }

-- A numbered call: it fails exactly where a fault is due, and it alone is counted.
pub record IsNumbered (before now : Script) (failed : Type 0) : Type 0 where
  pub fails : failed ↔ IsFaultDue before
  pub fault : failed → now ≡ after_fault before
  pub work : ¬ failed → now ≡ after_work before

-- Only calls that were asked to fail have failed, each once.
pub record IsPlanned (script : Script) : Type 0 where
  pub passed : script.faults ≤ count_by (λ number. nat_le number script.calls) script.failing
  pub few : length script.failing < last_count
  pub number : script.calls ≤ last_count

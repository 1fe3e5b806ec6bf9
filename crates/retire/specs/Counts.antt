-- How many hits, late runs and faults a build counts.
use Rattle.std.specs.Prelude.{◌≡◌, ℕ, ◌+◌, ◌≤◌, Bool, List, [], length}
use Rattle.bx_tree.specs.Trees.{Files}
use Rattle.bx_io.specs.Holdings.{Holdings}
use Rattle.pip_model_types.specs.declared.pip.Pip.{Pip}
use Rattle.violations.specs.declared.verdict.Verdict.{Verdict}
use Rattle.one_thread.specs.OneThread.{one_thread, run_count, verdicts_of}
use Rattle.sched_board_slots.specs.declared.held.Held.{Held}
use Rattle.retire.specs.Accepting.{AreAccepted, others_from, without_run}
use Rattle.retire.specs.HitSet.{IsHitSet}

-- the verdicts of the sequential build
abbrev pub verdicts_there : List Pip → Files → ℕ → List Verdict
verdicts_there pips tree budget = verdicts_of (one_thread pips tree budget)

-- ## By the slots

-- The store would spare the processes with these numbers. The hits are those of them that have no accepted run, but for as many as there
-- were faults; and the late runs are the other processes that run and have none, and as many more as there were faults at most.
pub record CountsAgainst (pips : List Pip) (verdicts : List Verdict) (accepted : List Bool) (numbers : List ℕ) (hits late faults : ℕ)
    : Type 0 where
  pub hits_at_most : hits ≤ without_run accepted numbers
  pub hits_at_least : without_run accepted numbers ≤ hits + faults
  pub late_at_least : others_from accepted numbers 0 pips verdicts ≤ late
  pub late_at_most : late ≤ others_from accepted numbers 0 pips verdicts + faults

-- The counts of a build of these slots over a store.
pub record CountsOver (pips : List Pip) (tree : Files) (budget : ℕ) (S : Holdings) (slots : List Held) (hits late faults : ℕ)
    : Type 0 where
  pub accepted : List Bool
  pub are_accepted : AreAccepted pips tree budget slots accepted
  pub counts : (numbers : List ℕ) → IsHitSet pips tree budget S numbers
      → CountsAgainst pips (verdicts_there pips tree budget) accepted numbers hits late faults

-- The counts of a build of these slots without a store: no hits, no faults, and the late runs are the processes that run and have no
-- accepted run.
pub record CountsAlone (pips : List Pip) (tree : Files) (budget : ℕ) (slots : List Held) (hits late faults : ℕ) : Type 0 where
  pub accepted : List Bool
  pub are_accepted : AreAccepted pips tree budget slots accepted
  pub no_hits : hits ≡ 0
  pub no_faults : faults ≡ 0
  pub late_is : late ≡ others_from accepted [] 0 pips (verdicts_there pips tree budget)

-- ## Whatever the slots

-- The hits are at most the processes that the store would spare, and the late runs exceed the other processes that run by the faults at most.
pub record CountsWithin (pips : List Pip) (tree : Files) (budget : ℕ) (S : Holdings) (hits late faults : ℕ) : Type 0 where
  pub hits_are : (numbers : List ℕ) → IsHitSet pips tree budget S numbers → hits ≤ length numbers
  pub late_are : (numbers : List ℕ) → IsHitSet pips tree budget S numbers
      → late + length numbers ≤ run_count pips (verdicts_there pips tree budget) + faults

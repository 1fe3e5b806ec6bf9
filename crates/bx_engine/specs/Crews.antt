-- The workers of a build: as they begin, when they are through, and what they count together.
use Rattle.std.specs.Prelude.{◌≡◌, ℕ, ◌*◌, ◌≤◌, Bool, true, false, Option, Some, IfSome, is_some}
use Rattle.worker.specs.Ended.{has_ended}
use Rattle.worker.specs.Workers.{WorkerData, new_tally}

-- A worker counted nothing yet. It has a reader just where the store is used, which has this bound and did not fail yet.
pub record IsFresh (cached : Bool) (bound : Option ℕ) (w : WorkerData) : Type 0 where
  pub tally_is : w.tally ≡ new_tally
  pub reads : is_some w.reader ≡ cached
  pub reader : IfSome w.reader (λ r. (r.bound ≡ bound) × (r.faults ≡ 0))

-- A worker is through. It counted no more faults than its reader may have, where that is bounded, and none where the store is not used.
pub record IsThrough (cached : Bool) (bound : Option ℕ) (w : WorkerData) : Type 0 where
  pub ended : has_ended w ≡ true
  pub few_faults : (b : ℕ) → bound ≡ Some b → w.tally.faults ≤ b
  pub unread : cached ≡ false → w.tally.faults ≡ 0

-- These are the faults that so many workers counted together, and how many of them starved.
pub record AreThrough (cached : Bool) (bound : Option ℕ) (workers faults starved : ℕ) : Type 0 where
  pub few_faults : (b : ℕ) → bound ≡ Some b → faults ≤ b * workers
  pub unread : cached ≡ false → faults ≡ 0
  pub few_starved : starved ≤ workers

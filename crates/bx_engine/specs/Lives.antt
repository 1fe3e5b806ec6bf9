-- The life of a store: the calls that it goes through, one after another.
use Rattle.std.specs.Prelude.{◌≡◌, ◌⊎◌, ℕ, List, [], ◌∷◌, Some}
use Rattle.bx_tree.specs.Trees.{Files}
use Rattle.bx_io.specs.Holdings.{Change, Holdings, IsPrefix, Makes, StoreTold, held_in, holdings_after}
use Rattle.pip_model_types.specs.declared.pip.Pip.{Pip}
use Rattle.run_record.specs.Collisions.{NoCollision}
use Rattle.run_record.specs.Facts.{Facts}
use Rattle.retire_compared.specs.Compared.{Compared}
use Rattle.retire.specs.Builds.{Between}
use Rattle.retire.specs.Saving.{PutsFirst}
use Rattle.cache_care.specs.Repairing.{AreRepairs}
use Rattle.cache_care.specs.Trimming.{trims}

-- a call that may change a store
pub data Deed : Type 0 where
  -- a build of these pips over this tree, where a tool may take so many steps
  Built : (pips : List Pip) → (tree : Files) → (budget : ℕ) → Deed
  -- a trim that leaves so many selectors of each list
  Trimmed : (keep : ℕ) → Deed
  Repaired : Deed

-- A build of these pips over a store that holds this makes these changes, all or those up to any place at which it stops:
-- it saves records of processes that succeed, without a hash collision among the contents compared.
pub record DoesBuild (S : Holdings) (pips : List Pip) (tree : Files) (budget : ℕ) (made : List Change) : Type 0 where
  pub apart : NoCollision (Compared pips tree budget S)
  pub records : List Facts
  pub high : ℕ
  pub between : Between pips tree budget 0 high records
  pub before : StoreTold
  pub now : StoreTold
  pub was : held_in before ≡ Some S
  pub is : held_in now ≡ Some (holdings_after S made)
  pub makes : Makes before made now
  pub puts : PutsFirst before records now

-- A call over a store that holds this makes these changes, all or those up to any place at which it stops: a build saves; a
-- trim makes its changes in their order; and a repair makes its own so, or changes nothing.
abbrev pub Does : Holdings → Deed → List Change → Type 0
Does S (Built pips tree budget) made = DoesBuild S pips tree budget made
Does S (Trimmed keep) made = IsPrefix made (trims S keep)
Does S Repaired made = (made ≡ []) ⊎ ((changes : List Change) × AreRepairs S changes × IsPrefix made changes)

-- The first store comes to the second by these calls, each of them stopped after any of its changes.
abbrev pub Comes : Holdings → List Deed → Holdings → Type 0
Comes S [] T = S ≡ T
Comes S (deed ∷ deeds) T = (made : List Change) × Does S deed made × Comes (holdings_after S made) deeds T

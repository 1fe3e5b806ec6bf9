-- What each call of an in-memory store does, exactly.
use Rattle.std.specs.Prelude.{◌≡◌, ◌+◌, ◌-◌, ◌<◌, ◌≤◌, ℕ, List, [], ◌∷◌, IsSome, Result, Err, OnOk, OnErr}
use Rattle.std.specs.FinMap.{get}
use Rattle.bx_io.specs.Answers.{IsAnswer, IsListing, ListsNames}
use Rattle.bx_io.specs.Causes.{last_count}
use Rattle.bx_io.specs.Holdings.{Change, state_after}
use Rattle.bx_io.specs.Memories.{Scripted, Stopping, faults_in}
use Rattle.bx_io.specs.Numbered.{IsNumbered}
use Rattle.bx_io.specs.declared.keeper.Got.{Got}
use Rattle.bx_io.specs.declared.keeper.Got.TheVariants as got
use Rattle.bx_io.specs.declared.keeper.Listed.{Listed}
use Rattle.bx_io.specs.declared.keeper.Listed.TheVariants as listed
use Rattle.bx_io.specs.declared.keeper.PutFault.{PutFault}
use Rattle.bx_io.specs.declared.keeper.PutFault.TheVariants as put_faults

-- a look under a name
pub record Looks (before now : Scripted) (name : List ℕ) (answer : Got) : Type 0 where
  pub numbered : IsNumbered before.script now.script (answer ≡ got.Failed)
  pub found : IsAnswer before.kept.held name answer
  pub memory : answer ≡ got.Memory → IsSome (get before.kept.held name)
  pub kept : now.kept ≡ before.kept

-- a put or a drop
pub record Tries (before now : Scripted) (change : Change)
    (answer : Result (Unit {0}) PutFault) : Type 0 where
  pub numbered : IsNumbered before.script now.script (answer ≡ Err put_faults.Failed)
  pub made : OnOk answer (now.kept ≡ state_after before.kept (change ∷ []))
  pub refused : OnErr answer (now.kept ≡ before.kept)

-- a question for all names
pub record ListsAll (before now : Scripted) (answer : Listed) : Type 0 where
  pub numbered : IsNumbered before.script now.script (answer ≡ listed.Failed)
  pub held : IsListing before.kept.held answer
  pub names : ListsNames answer
  pub kept : now.kept ≡ before.kept

-- A call of a store that stops. While it has calls left the call goes to the inner keeper, of which then
-- holds what is said of its call. After that the call fails and is counted, or, where the count would reach
-- its last value, answers that there is no memory.
pub record Stops (before now : Stopping) (inner_call failed memory : Type 0) : Type 0 where
  pub passed : 0 < before.left → inner_call
  pub left : 0 < before.left → now.left ≡ before.left - 1
  pub refused : 0 < before.left → now.refused ≡ before.refused
  pub fails : before.left ≡ 0 → faults_in before + 1 < last_count → failed
  pub counts : before.left ≡ 0 → faults_in before + 1 < last_count
      → now ≡ record before { refused = before.refused + 1 }
  pub full : before.left ≡ 0 → last_count ≤ faults_in before + 1 → memory
  pub same : before.left ≡ 0 → last_count ≤ faults_in before + 1 → now ≡ before

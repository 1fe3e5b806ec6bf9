-- When a build of finished slots runs no tool.
use Rattle.std.specs.Prelude.{◌≡◌, ℕ, Bool, true, List}
use Rattle.bx_tree.specs.Trees.{Files}
use Rattle.bx_io.specs.Holdings.{Holdings}
use Rattle.pip_model.specs.Plans.{PlanData}
use Rattle.pip_model_types.specs.declared.desc.Desc.{Desc}
use Rattle.observed.specs.declared.ask.Ask.{Ask}
use Rattle.observed.specs.declared.access.Answer.{Answer}
use Rattle.run_record.specs.Collisions.{NoCollision}
use Rattle.memo_format.specs.Found.{FoundParts}
use Rattle.two_phase_meaning.specs.Honest.{Honest}
use Rattle.two_phase_meaning.specs.Usable.{Usable}
use Rattle.sched_board_slots.specs.Closing.{ComparedWithSlots, HitsAreOf}
use Rattle.sched_board_slots.specs.Finished.{AreSettledSlots}
use Rattle.sched_board_slots.specs.Slots.{slot_at}
use Rattle.sched_board_slots.specs.declared.held.Held.{Held}
use Rattle.sched_board_slots.specs.declared.held.Held.TheVariants as held
use Rattle.retire.specs.Runs.{RunsAs}

-- The slots are those of a board of this plan and these sources on which nothing is left to do; the hits in them are of this honest
-- store; no two of what is compared share a digest; and each hit in the slot of a process that runs is of one that this store would
-- spare, and is there only where the store is used.
pub record IsSettledOver (plan : PlanData) (tree : Files) (S : Holdings) (cached : Bool) (slots : List Held) : Type 0 where
  pub board : AreSettledSlots plan tree slots
  pub honest : Honest S
  pub hits : HitsAreOf S slots
  pub apart : NoCollision (ComparedWithSlots plan tree S slots)
  pub spared : (i : ℕ) (d : Desc) (see : Ask → Answer) (found : FoundParts) → RunsAs plan.pips tree plan.tool_budget i d see
      → slot_at slots i ≡ held.Hit found → Usable S d see
  pub used : (i : ℕ) (d : Desc) (see : Ask → Answer) (found : FoundParts) → RunsAs plan.pips tree plan.tool_budget i d see
      → slot_at slots i ≡ held.Hit found → cached ≡ true

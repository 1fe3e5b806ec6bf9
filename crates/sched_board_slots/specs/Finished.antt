-- The slots of a board on which nothing is left to do.
use Rattle.std.specs.Prelude.{◌≡◌, true, List, length}
use Rattle.bx_tree.specs.Trees.{Files}
use Rattle.pip_model.specs.Plans.{PlanData}
use Rattle.sched_core.specs.Sound.{IsSound}
use Rattle.sched_core.specs.Table.{CoreState, are_settled}
use Rattle.sched_board_slots.specs.Graphs.{IsGraphOf}
use Rattle.sched_board_slots.specs.Slots.{AllFit}
use Rattle.sched_board_slots.specs.declared.held.Held.{Held}

-- These are the slots of a board of this plan and these sources whose pips are all completed or skipped: they fit the states of
-- a sound core with the plan's graph, as that of each legal history is.
pub record AreSettledSlots (plan : PlanData) (tree : Files) (slots : List Held) : Type 0 where
  pub core : CoreState
  pub graph : IsGraphOf plan core.nodes
  pub sound : IsSound core
  pub size : length slots ≡ length plan.pips
  pub fit : AllFit plan tree core.states slots
  pub settled : are_settled core.states ≡ true

-- The graph of a plan, as the scheduler's core has it.
use Rattle.std.specs.Prelude.{◌≡◌, ℕ, ◌<◌, List, is_some, length, slice_get}
use Rattle.pip_model.specs.Plans.{AreInputs, PlanData}
use Rattle.pip_view_inputs.specs.Plain.{process_in}
use Rattle.sched_core.specs.Table.{node_at}
use Rattle.sched_core.specs.declared.graph.Node.{Node}

-- pip k of the plan is a process or is none, and waits for these pips
pub record IsNodeOf (plan : PlanData) (k : ℕ) (node : Node) : Type 0 where
  pub kind : node.is_process ≡ is_some (process_in (slice_get plan.pips k))
  pub inputs : AreInputs plan.pips k node.inputs

pub record IsGraphOf (plan : PlanData) (nodes : List Node) : Type 0 where
  pub size : length nodes ≡ length plan.pips
  pub each : (k : ℕ) → k < length nodes → IsNodeOf plan k (node_at nodes k)

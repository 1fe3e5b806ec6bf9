use Rattle.bx_engine_front.proofs.SomePlan.{some_plan_lem}
use Rattle.bx_engine_front.proofs.laws.some_plan.Goals as goal

pub returns : goal.returns
returns c = some_plan_lem

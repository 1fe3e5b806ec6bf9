use Rattle.std.proofs.Common.{arith, rules, subst, sym}
use Rattle.bx_io.specs.Numbered.{IsPlanned}
use Rattle.bx_io.proofs.Planned.{planned_work, planned_fault, planned_within}
use Rattle.bx_io.proofs.fault_plan.FaultPlan.next_fails.Goals as goal

pub invariant_of-self : goal.invariant_of-self
invariant_of-self c =
    subst IsPlanned (sym c.count_fault.ensures.counted) (planned_fault c.self.inside.script c.self.invariant (search rules))

pub invariant_of-self-else-fails : goal.invariant_of-self-else-fails
invariant_of-self-else-fails c =
    subst IsPlanned (sym c.count_work.ensures) (planned_work c.self.inside.script c.self.invariant)

pub returns-then-fails-clause-within : goal.returns-then-fails-clause-within
returns-then-fails-clause-within c =
    planned_within c.count_fault.new.self (subst IsPlanned (sym c.count_fault.ensures.counted) (planned_fault c.self.inside.script c.self.invariant (search rules)))

pub returns-then-fails-clause-can_rise : goal.returns-then-fails-clause-can_rise
returns-then-fails-clause-can_rise c =
    let planned = subst IsPlanned (sym c.count_fault.ensures.counted) (planned_fault c.self.inside.script c.self.invariant (search rules)) in
    let within = planned_within c.count_fault.new.self planned in
    let few = planned.few in
    omega (arith, within, few)

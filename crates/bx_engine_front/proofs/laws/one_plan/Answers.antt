use Rattle.bx_engine_front.proofs.OnePlan.{OneFailure, many_or_fault, many_or_plan, one_fault, one_plan_lem, plan_or_fault}
use Rattle.bx_engine_front.proofs.laws.one_plan.Goals as goal

pub returns-clause-pips : goal.returns-clause-pips
returns-clause-pips c = one_plan_lem

pub returns-clause-fault : goal.returns-clause-fault
returns-clause-fault c =
    let one : OneFailure = record {
      rule = c.one_answer.ensures.rule;
      file = c.one_answer.ensures.file;
      never = c.one_answer.ensures.never_both;
    } in
    one_fault one

pub returns-clause-never_both : goal.returns-clause-never_both
returns-clause-never_both c =
    let one : OneFailure = record {
      rule = c.one_answer.ensures.rule;
      file = c.one_answer.ensures.file;
      never = c.one_answer.ensures.never_both;
    } in
    plan_or_fault one

pub returns-clause-no_plan : goal.returns-clause-no_plan
returns-clause-no_plan c = many_or_plan

pub returns-clause-no_fault : goal.returns-clause-no_fault
returns-clause-no_fault c = many_or_fault

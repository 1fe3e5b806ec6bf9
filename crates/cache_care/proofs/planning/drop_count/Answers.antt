use Rattle.std.proofs.Common.{◌∙◌, ap, ◌+◌, arith}
use Rattle.cache_care.specs.Planning.{planned_change}
use Rattle.cache_care.proofs.Planned.{counted_below, counted_more, one_at_most}
use Rattle.cache_care.proofs.planning.drop_count.Goals as goal

pub overflow_add-count : goal.overflow_add-count
overflow_add-count c =
    let below = counted_below c.args.plan.now c.plan.planned-index in
    let one = one_at_most (planned_change c.planned-item.result) in
    omega (arith, below, one)

pub plan-preserved : goal.plan-preserved
plan-preserved c =
    let more = counted_more c.args.plan.now c.plan.planned-index c.planned-item.result c.plan-test.true c.planned-item.is in
    omega (arith, more)

use Rattle.std.proofs.Common.{Some, ap, inl, sym, ◌∙◌, arith}
use Rattle.std.proofs.lemmas.Result.{err_from_is_err_and}
use Rattle.bx_io.specs.Holdings.{held_in}
use Rattle.bx_io.proofs.Changes.{keeps_all}
use Rattle.build_report.specs.declared.counts.GraphLine.{GraphLine}
use Rattle.bx_engine_front.specs.StoreChanges.{change_of}
use Rattle.bx_engine_front.proofs.GraphPlans.{unchanged_left}
use Rattle.bx_engine_words.specs.Words.{asks_graphs}
use Rattle.bx_engine.specs.Expected.{limits_of}
use Rattle.bx_engine.specs.Stores.{uses_graphs, uses_store}
use Rattle.bx_engine.proofs.GraphsOfCalls.{fair_used, refuses_used, tells_unused, tells_used}
use Rattle.bx_engine.proofs.planning.plan_for.Goals as goal

pub returns-in_err-planned-clause-fault : goal.returns-in_err-planned-clause-fault
returns-in_err-planned-clause-fault g c =
    let p = err_from_is_err_and c.from_residual.result c.from_residual.ensures.1 in
    rw (p.1, p.2)
    (refuses_used (uses_graphs c.args.order.now) (limits_of c.args.order.now) c.args.tree (held_in (g.M.Keeper.known c.args.graphs.now)) (held_in (g.M.Keeper.known c.plan_with_graphs.new.graphs))
    c.in_err-planned.field-0.0 (sym c.uses_graphs.ensures ∙ c.if-uses_graphs.true) (rw c.limits_of-limits.ensures at c.in_err-planned.ensures.fault))

pub returns-in_err-planned-clause-left : goal.returns-in_err-planned-clause-left
returns-in_err-planned-clause-left g c = rw c.limits_of-limits.ensures at c.plan_with_graphs.ensures.left

pub returns-then-uses_graphs-clause-plan : goal.returns-then-uses_graphs-clause-plan
returns-then-uses_graphs-clause-plan g c = λ fair.
    (rw c.limits_of-limits.ensures at c.in_ok-planned.ensures.plan)
    (λ hit.
    fair_used (uses_graphs c.args.order.now) (limits_of c.args.order.now) c.args.tree (held_in (g.M.Keeper.known c.args.graphs.now)) (held_in (g.M.Keeper.known c.plan_with_graphs.new.graphs))
    (sym c.uses_graphs.ensures ∙ c.if-uses_graphs.true) (fair (ap (λ (l : GraphLine). Some l) hit)))

pub returns-then-uses_graphs-clause-line : goal.returns-then-uses_graphs-clause-line
returns-then-uses_graphs-clause-line g c =
    tells_used (asks_graphs c.args.order.now) (uses_store c.args.order.now) (limits_of c.args.order.now) c.args.tree
    (change_of (g.M.Keeper.known c.args.graphs.now) (g.M.Keeper.known c.plan_with_graphs.new.graphs) (g.M.Keeper.bound c.args.graphs.now)
    (g.M.Keeper.faults c.args.graphs.now) (g.M.Keeper.faults c.plan_with_graphs.new.graphs))
    c.in_ok-planned.planned.end.plan.pips c.in_ok-planned.planned.line (sym c.uses_graphs.ensures ∙ c.if-uses_graphs.true) (rw c.limits_of-limits.ensures at c.in_ok-planned.ensures.line)

pub returns-then-uses_graphs-clause-left : goal.returns-then-uses_graphs-clause-left
returns-then-uses_graphs-clause-left g c = rw c.limits_of-limits.ensures at c.plan_with_graphs.ensures.left

pub returns-in_err-end-clause-fault : goal.returns-in_err-end-clause-fault
returns-in_err-end-clause-fault g c =
    let p = err_from_is_err_and c.from_residual-in_err-end.result c.from_residual-in_err-end.ensures.1 in
    rw (p.1, p.2) (inl (rw c.limits_of-limits.ensures at c.in_err-end.ensures.plan))

pub returns-in_err-end-clause-left : goal.returns-in_err-end-clause-left
returns-in_err-end-clause-left g c =
    unchanged_left (limits_of c.args.order.now) c.args.tree
    (change_of (g.M.Keeper.known c.args.graphs.now) (g.M.Keeper.known c.args.graphs.now) (g.M.Keeper.bound c.args.graphs.now)
    (g.M.Keeper.faults c.args.graphs.now) (g.M.Keeper.faults c.args.graphs.now))
    (keeps_all (g.M.Keeper.known c.args.graphs.now)) (omega arith)

pub returns-clause-plan : goal.returns-clause-plan
returns-clause-plan g c = λ fair. rw c.limits_of-limits.ensures at c.in_ok-end.ensures.plan

pub returns-clause-line : goal.returns-clause-line
returns-clause-line g c =
    rw c.line_unused-line.ensures
    (tells_unused (asks_graphs c.args.order.now) (uses_store c.args.order.now) (limits_of c.args.order.now) c.args.tree
    (change_of (g.M.Keeper.known c.args.graphs.now) (g.M.Keeper.known c.args.graphs.now) (g.M.Keeper.bound c.args.graphs.now)
    (g.M.Keeper.faults c.args.graphs.now) (g.M.Keeper.faults c.args.graphs.now))
    c.in_ok-end.end.plan.pips (sym c.uses_graphs.ensures ∙ c.if-uses_graphs.false))

pub returns-clause-left : goal.returns-clause-left
returns-clause-left g c =
    unchanged_left (limits_of c.args.order.now) c.args.tree
    (change_of (g.M.Keeper.known c.args.graphs.now) (g.M.Keeper.known c.args.graphs.now) (g.M.Keeper.bound c.args.graphs.now)
    (g.M.Keeper.faults c.args.graphs.now) (g.M.Keeper.faults c.args.graphs.now))
    (keeps_all (g.M.Keeper.known c.args.graphs.now)) (omega arith)

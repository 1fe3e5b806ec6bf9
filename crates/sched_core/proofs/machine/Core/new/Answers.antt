-- The indexes of pips that all wait.
use Rattle.std.proofs.Common.{◌≡◌, ap, length, ◌∙◌}
use Rattle.sched_core.proofs.Beginning.{keeps_at_first}
use Rattle.sched_core.specs.Legal.{all_waiting}
use Rattle.sched_core.proofs.machine.Core.new.Goals as goal

pub invariant_of-result : goal.invariant_of-result
invariant_of-result c =
    let graph = c.args.graph in
    let states : c.in_ok-states.states.items ≡ all_waiting (length graph) =
    c.in_ok-states.ensures ∙ ap (λ nodes. all_waiting (length nodes)) c.nodes.ensures.nodes in
    rw (states, c.in_ok-left.ensures, c.in_ok-seats.ensures)
    (keeps_at_first graph c.args.workers c.in_ok-dependents.dependents.items c.in_ok-ready.ready
    c.nodes.ensures.ordered
    c.nodes.ensures.few
    (rw c.nodes-3.ensures.nodes at c.in_ok-ready.ensures.size)
    (c.in_ok-dependents.ensures.size ∙ ap length c.nodes-2.ensures.nodes)
    (rw c.nodes-2.ensures.nodes at c.in_ok-dependents.ensures.dependents)
    (rw c.nodes-3.ensures.nodes at c.in_ok-ready.ensures.counted)
    (rw c.nodes-3.ensures.nodes at c.in_ok-ready.ensures.flagged))

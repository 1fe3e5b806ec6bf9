-- All pips wait: each misses all its inputs, and none failed.
use Rattle.std.proofs.Common.{◌∙◌, ap, length, replicate, false}
use Rattle.std.proofs.lemmas.List.{length-map}
use Rattle.sched_core.proofs.Beginning.{counted_at_first}
use Rattle.sched_core.proofs.Flags.{flagged_of_all}
use Rattle.sched_core.specs.declared.graph.Node.{Node as AnyNode}
use Rattle.sched_core.proofs.indexes.first_ready.Goals as goal

pub returns-clause-counted : goal.returns-clause-counted
returns-clause-counted c =
    counted_at_first c.args.nodes.now c.pips.ready c.requires
    (c.pips.invariant.missing ∙ c.in_ok-ready.ensures.missing ∙ c.in_ok-counts.ensures)
    (c.pips.invariant.failed ∙ c.in_ok-ready.ensures.failed
    ∙ ap (λ n. replicate n false) (ap length c.in_ok-counts.ensures ∙ length-map c.args.nodes.now (λ (node : AnyNode). length node.inputs)))

pub returns-clause-flagged : goal.returns-clause-flagged
returns-clause-flagged c =
    flagged_of_all c.pips.ready (length c.args.nodes.now) c.pips.pip c.pips.invariant.size c.pips-test.false c.pips.invariant.flagged

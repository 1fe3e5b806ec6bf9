-- The pips before the next one stand among the dependents of their inputs.
use Rattle.std.proofs.Common.{◌≡◌, ◌<◌, ℕ, List, length, get_or, arith, ap, ◌∙◌, subst}
use Rattle.std.proofs.lemmas.List.{get_or_default}
use Rattle.sched_core.proofs.Dependents.{all_below, more_below}
use Rattle.sched_core.specs.Indexes.{AddsDependents}
use Rattle.sched_core.specs.Table.{node_inputs, no_node}
use Rattle.sched_core.specs.declared.graph.Node.{Node}
use Rattle.sched_core.proofs.indexes.dependents_of.Goals as goal

pub add_dependents-requires : goal.add_dependents-requires
add_dependents-requires c = λ k d l.
    let nodes = c.args.nodes.now in
    let same : c.as_slice.result.now ≡ node_inputs nodes c.nodes.pip =
    c.as_slice.ensures ∙ ap (λ (node : Node). node.inputs)
    (c.index-nodes-pip.is ∙ get_or_default nodes c.nodes.pip c.index-nodes-pip.result no_node c.nodes-test.true) in
    let read : get_or c.as_slice.result.now k d ≡ get_or (node_inputs nodes c.nodes.pip) k d = ap (λ xs. get_or xs k d) same in
    let within : k < length (node_inputs nodes c.nodes.pip) = omega (arith, l, ap {B = ℕ} length same) in
    omega (arith, read, c.requires.ordered c.nodes.pip k d within, c.nodes-test.true, c.nodes.invariant.size)

pub nodes-preserved : goal.nodes-preserved
nodes-preserved c =
    let nodes = c.args.nodes.now in
    let old = c.nodes.dependents.items in
    let new = c.add_dependents.new.dependents.items in
    let same : c.as_slice.result.now ≡ node_inputs nodes c.nodes.pip =
    c.as_slice.ensures ∙ ap (λ (node : Node). node.inputs)
    (c.index-nodes-pip.is ∙ get_or_default nodes c.nodes.pip c.index-nodes-pip.result no_node c.nodes-test.true) in
    let P : List ℕ → Type 0 = λ xs. AddsDependents old new xs c.nodes.pip in record {
      size = c.in_ok-add_dependents.ensures.size ∙ c.nodes.invariant.size;
      below = more_below nodes old new c.nodes.pip c.nodes.invariant.below (subst P same c.in_ok-add_dependents.ensures.added);
    }

pub returns-clause-dependents : goal.returns-clause-dependents
returns-clause-dependents c =
    all_below c.args.nodes.now c.nodes.dependents.items c.nodes.pip c.nodes-test.false c.nodes.invariant.below

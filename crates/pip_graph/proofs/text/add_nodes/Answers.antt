use Rattle.std.proofs.Common.{◌++◌, ap, ◌∙◌}
use Rattle.std.specs.Prelude.{Option}
use Rattle.pip_graph.specs.declared.ended.Ended.{Ended}
use Rattle.pip_graph.specs.GraphText.{node_line}
use Rattle.pip_graph.proofs.AllNodes.{all_nodes, one_more_node}
use Rattle.pip_graph.proofs.text.add_nodes.Goals as goal

pub pips-preserved : goal.pips-preserved
pips-preserved c =
    one_more_node c.args.pips.now c.args.ends.now c.pips.number c.index-pips-number.result c.pips.text.items c.add_node.new.text.items _
    c.pips-test.true c.index-pips-number.is c.pips.invariant
    (c.in_ok-add_node.ensures
    ∙ ap (λ (o : Option Ended). c.pips.text.items ++ node_line c.pips.number c.index-pips-number.result.kind o) c.ended_at.ensures)

pub returns : goal.returns
returns c = all_nodes c.args.pips.now c.args.ends.now c.pips.number _ _ c.pips-test.false c.pips.invariant

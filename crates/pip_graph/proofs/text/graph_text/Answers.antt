use Rattle.std.proofs.Common.{◌≡◌, ◌++◌, codes}
use Rattle.pip_graph.specs.GraphText.{edge_lines, head_text, node_lines}
use Rattle.pip_graph.proofs.text.graph_text.Goals as goal

pub returns : goal.returns
returns c =
    let edges = c.in_ok-add_all_edges.ensures in
    let e : c.extend_from_slice.new.self.items ≡ ((head_text ++ node_lines c.args.ends.now 0 c.args.plan.now.pips) ++ edge_lines 0 edges.0) ++ codes "}\n" =
    cc (c.in_ok-extend_from_slice.ensures.items, edges.2, c.in_ok-add_nodes.ensures, c.pips.ensures.pips, c.in_ok-text.ensures.items, c.as_bytes.ensures.value, c.head.ensures) in
    record { inputs = edges.0; are = edges.1; text_is = e }

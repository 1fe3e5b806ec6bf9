use Rattle.std.proofs.Common.{◌≡◌, ◌≤◌, List, arith, length, subst}
use Rattle.pip_model_types.specs.declared.pip.Pip.{Pip}
use Rattle.pip_graph.proofs.AllEdges.{all_inputs, no_edges, one_more}
use Rattle.pip_graph.proofs.text.add_all_edges.Goals as goal

pub pips-init : goal.pips-init
pips-init c = no_edges c.args.plan.now.pips c.args.text.now.items

pub pips-preserved : goal.pips-preserved
pips-preserved c =
    let done = c.in_ok-add_pip_edges.ensures in
    one_more c.args.plan.now.pips c.pips.number c.args.text.now.items c.pips.text.items c.add_pip_edges.new.text.items done.0 c.pips.invariant done.1 done.2

pub returns : goal.returns
returns c =
    let h = c.pips.invariant in
    let past = subst (λ (ps : List Pip). length ps ≤ c.pips.number) c.pips-pips.ensures.pips c.pips-test.false in
    let within = subst (λ (ps : List Pip). c.pips.number ≤ length ps) c.pips-pips.ensures.pips c.pips.auto.number-end in
    let all : length c.args.plan.now.pips ≡ c.pips.number = omega (arith, past, within) in
    (h.inputs, all_inputs c.args.plan.now.pips c.pips.number c.args.text.now.items c.pips.text.items h all, h.text_is)

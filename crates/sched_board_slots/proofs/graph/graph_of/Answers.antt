use Rattle.std.proofs.Common.{◌≡◌, ℕ, ◌+◌, ◌<◌, List, [], ◌∷◌, length, ap, sym, ◌∙◌, subst, arith, length-append}
use Rattle.sched_core.specs.Table.{node_at}
use Rattle.sched_core.specs.declared.graph.Node.{Node}
use Rattle.sched_board_slots.specs.Graphs.{IsNodeOf}
use Rattle.sched_board_slots.proofs.GraphNodes.{nodes_more}
use Rattle.sched_board_slots.proofs.graph.graph_of.Goals as goal

pub pips-preserved : goal.pips-preserved
pips-preserved c =
    let nodes : List Node = c.pips.graph in
    let node : Node = c.in_ok-node_of.field-0 in
    let long : length nodes ≡ c.pips.pip = c.pips.invariant.0 in
    let more : length c.push.new.self ≡ length nodes + 1 = ap length c.in_ok-push.ensures.ok ∙ length-append nodes (node ∷ []) in (
      more ∙ ap (λ (n : ℕ). n + 1) long,
      subst (λ (ns : List Node). (k : ℕ) → k < c.pips.pip + 1 → IsNodeOf c.args.plan.now k (node_at ns k)) (sym c.in_ok-push.ensures.ok)
          (nodes_more c.args.plan.now nodes node c.pips.pip long c.in_ok-node_of.ensures.node c.pips.invariant.1),
    )

-- A graph that grows node by node.
use Rattle.std.proofs.Common.{◌≡◌, ℕ, ◌+◌, ◌<◌, List, [], ◌∷◌, ◌++◌, length, ap, sym, ◌∙◌, subst, inl, inr, arith}
use Rattle.std.proofs.lemmas.Bool.{cases_lt}
use Rattle.std.proofs.lemmas.List.{get_or-append-add, get_or_append_left}
use Rattle.pip_model.specs.Plans.{PlanData}
use Rattle.sched_core.specs.Table.{no_node, node_at}
use Rattle.sched_core.specs.declared.graph.Node.{Node}
use Rattle.sched_board_slots.specs.Graphs.{IsNodeOf}

pub node_after : (nodes : List Node) (node : Node) → node_at (nodes ++ node ∷ []) (length nodes) ≡ node
node_after nodes node =
    let e : length nodes ≡ length nodes + 0 = omega arith in
    ap (node_at (nodes ++ node ∷ [])) e ∙ get_or-append-add nodes (node ∷ []) 0 no_node

pub nodes_more : (plan : PlanData) (nodes : List Node) (node : Node) (n : ℕ) → length nodes ≡ n → IsNodeOf plan n node
    → ((k : ℕ) → k < n → IsNodeOf plan k (node_at nodes k)) → (k : ℕ) → k < n + 1 → IsNodeOf plan k (node_at (nodes ++ node ∷ []) k)
nodes_more plan nodes node n long here before k l = elim (cases_lt k n) [
  | inl less ↦ subst (IsNodeOf plan k) (sym (get_or_append_left nodes (node ∷ []) no_node k (omega (arith, less, long)))) (before k less)
  | inr past ↦
      let e : n ≡ k = omega (arith, past, l) in
      let at : node_at (nodes ++ node ∷ []) k ≡ node = ap (node_at (nodes ++ node ∷ [])) (sym (long ∙ e)) ∙ node_after nodes node in
      subst (IsNodeOf plan k) (sym at) (subst (λ (m : ℕ). IsNodeOf plan m node) e here)
]

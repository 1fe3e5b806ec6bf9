-- The nodes of pips, one pip after the other.
use Rattle.std.proofs.Common.{◌≡◌, ℕ, ◌+◌, ◌<◌, ◌≤◌, suc, List, ◌++◌, length, drop, get_or, ap, sym, ◌∙◌, add-one, append_assoc, append-nil}
use Rattle.std.specs.Prelude.{slice_get}
use Rattle.std.proofs.lemmas.List.{drop_all}
use Rattle.std.proofs.Math.Seq.{drop-cons}
use Rattle.pip_model_types.specs.declared.pip.Pip.{Pip}
use Rattle.pip_graph.specs.declared.ended.Ended.{Ended}
use Rattle.pip_graph.specs.GraphText.{node_line, node_lines}

pub one_more_node : (pips : List Pip) (ends : List Ended) (n : ℕ) (pip : Pip) (text next whole : List ℕ) → n < length pips → pip ≡ get_or pips n pip
    → text ++ node_lines ends n (drop n pips) ≡ whole → next ≡ text ++ node_line n pip.kind (slice_get ends n)
    → next ++ node_lines ends (n + 1) (drop (n + 1) pips) ≡ whole
one_more_node pips ends n pip text next whole l is_pip so_far more =
    ap (λ t. t ++ node_lines ends (n + 1) (drop (n + 1) pips)) more
    ∙ append_assoc text (node_line n pip.kind (slice_get ends n)) (node_lines ends (n + 1) (drop (n + 1) pips))
    ∙ ap (λ m. text ++ (node_line n pip.kind (slice_get ends n) ++ node_lines ends (n + 1) (drop m pips))) (add-one n)
    ∙ ap (λ (p : Pip). text ++ (node_line n p.kind (slice_get ends n) ++ node_lines ends (n + 1) (drop (suc n) pips))) is_pip
    ∙ ap (λ ps. text ++ node_lines ends n ps) (sym (drop-cons pips n pip l))
    ∙ so_far

pub all_nodes : (pips : List Pip) (ends : List Ended) (n : ℕ) (text whole : List ℕ) → length pips ≤ n
    → text ++ node_lines ends n (drop n pips) ≡ whole → text ≡ whole
all_nodes pips ends n text whole l so_far =
    sym (append-nil text) ∙ ap (λ ps. text ++ node_lines ends n ps) (sym (drop_all n pips l)) ∙ so_far

-- The arrows of pips, one pip after the other.
use Rattle.std.proofs.Common.{◌≡◌, ℕ, ◌+◌, ◌<◌, suc, List, [], ◌∷◌, ◌++◌, length, refl, ap, sym, ◌∙◌, subst, arith, append_assoc, append-nil, length-append}
use Rattle.std.specs.List.{HoldsAt, flat_map}
use Rattle.pip_model_types.specs.declared.pip.Pip.{Pip}
use Rattle.pip_model.specs.Plans.{AreAllInputs, AreInputs}
use Rattle.pip_model.proofs.Found.{holds_more}
use Rattle.pip_graph.specs.GraphText.{edge_line, edge_lines}

-- the arrows of the first pips were added
pub record EdgesTo (pips : List Pip) (n : ℕ) (start text : List ℕ) : Type 0 where
  pub inputs : List (List ℕ)
  pub size : length inputs ≡ n
  pub each : (i : ℕ) → i < length inputs → HoldsAt (AreInputs pips i) inputs i
  pub text_is : text ≡ start ++ edge_lines 0 inputs

pub no_edges : (pips : List Pip) (start : List ℕ) → EdgesTo pips 0 start start
no_edges pips start = record { inputs = []; size = refl; each = λ i l. absurd (omega (arith, l)); text_is = sym (append-nil start) }

edges_push : (k : ℕ) (xs : List (List ℕ)) (x : List ℕ) → edge_lines k (xs ++ x ∷ []) ≡ edge_lines k xs ++ flat_map (edge_line (k + length xs)) x
edges_push k [] x = append-nil (flat_map (edge_line k) x) ∙ ap (λ n. flat_map (edge_line n) x) (let same : k ≡ k + 0 = omega arith in same)
edges_push k (y ∷ ys) x =
    ap (λ t. flat_map (edge_line k) y ++ t) (edges_push (k + 1) ys x)
    ∙ ap (λ n. flat_map (edge_line k) y ++ (edge_lines (k + 1) ys ++ flat_map (edge_line n) x)) (let same : k + 1 + length ys ≡ k + suc (length ys) = omega arith in same)
    ∙ sym (append_assoc (flat_map (edge_line k) y) (edge_lines (k + 1) ys) (flat_map (edge_line (k + length (y ∷ ys))) x))

pub one_more : (pips : List Pip) (n : ℕ) (start text new : List ℕ) (numbers : List ℕ) → EdgesTo pips n start text → AreInputs pips n numbers
    → new ≡ text ++ flat_map (edge_line n) numbers → EdgesTo pips (n + 1) start new
one_more pips n start text new numbers so_far are more = record {
  inputs = so_far.inputs ++ numbers ∷ [];
  size = length-append so_far.inputs (numbers ∷ []) ∙ ap (λ k. k + 1) so_far.size;
  each = holds_more (AreInputs pips) so_far.inputs numbers so_far.each (subst (λ k. AreInputs pips k numbers) (sym so_far.size) are);
  text_is =
      more ∙ ap (λ t. t ++ flat_map (edge_line n) numbers) so_far.text_is
      ∙ append_assoc start (edge_lines 0 so_far.inputs) (flat_map (edge_line n) numbers)
      ∙ ap (λ k. start ++ (edge_lines 0 so_far.inputs ++ flat_map (edge_line k) numbers)) (let same : n ≡ 0 + length so_far.inputs = omega (arith, so_far.size) in same)
      ∙ ap (λ t. start ++ t) (sym (edges_push 0 so_far.inputs numbers));
}

pub all_inputs : (pips : List Pip) (n : ℕ) (start text : List ℕ) (so_far : EdgesTo pips n start text) → length pips ≡ n → AreAllInputs pips so_far.inputs
all_inputs pips n start text so_far e =
    record { size = so_far.size ∙ sym e; each = λ i l. so_far.each i (omega (arith, l, so_far.size, e)) }

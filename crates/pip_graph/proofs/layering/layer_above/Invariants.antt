use Rattle.std.proofs.Common.{◌≡◌, ◌⊎◌, ℕ, ◌<◌, ◌≤◌, suc, get_or, length}
use Rattle.std.specs.Prelude.{Contains}
use Rattle.pip_graph.proofs.layering.layer_above.Given as goal

abbrev pub invariant-inputs : goal.invariant-inputs
invariant-inputs l = record {
  small : l.layer ≤ length l.layers;
  above : (k : ℕ) → k < l.input-index → get_or l.layers (get_or l.inputs k 0) 0 < l.layer;
  lowest : (l.layer ≡ 0) ⊎ ((input : ℕ) × Contains l.inputs input × (l.layer ≡ suc (get_or l.layers input 0)));
}

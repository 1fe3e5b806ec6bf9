-- Layers of a graph by longest path.
use Rattle.std.specs.Prelude.{◌≡◌, ◌⊎◌, ℕ, suc, ◌<◌, List, length, get_or}
use Rattle.pip_model_types.specs.declared.pip.Pip.{Pip}
use Rattle.pip_model.specs.Edges.{Edge}

-- The layer of a pip that waits for pips of these layers lies above all of them, and is the lowest that does.
pub record IsLayer (pips : List Pip) (layers : List ℕ) (pip layer : ℕ) : Type 0 where
  pub above : (input : ℕ) → Edge pips pip input → get_or layers input 0 < layer
  pub lowest : (layer ≡ 0) ⊎ ((input : ℕ) × Edge pips pip input × (layer ≡ suc (get_or layers input 0)))

-- the layer of each pip: that of the longest walk from it
pub record AreLayers (pips : List Pip) (layers : List ℕ) : Type 0 where
  pub size : length layers ≡ length pips
  pub each : (pip : ℕ) → pip < length pips → IsLayer pips layers pip (get_or layers pip 0)

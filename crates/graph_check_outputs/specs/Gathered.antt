-- What all pips have together, as lists in the order of paths.
use Rattle.std.specs.Prelude.{◌↔◌, ℕ, List, Contains, map}
use Rattle.bx_tree.specs.FileInputs.{input_path}
use Rattle.bx_tree.specs.Paths.{Atoms, IsBelow}
use Rattle.bx_tree_paths.specs.Searches.{RiseByText}
use Rattle.pip_model_types.specs.declared.pip.Pip.{Pip}
use Rattle.pip_model_types.specs.declared.pip.PipKind.{PipKind}
use Rattle.pip_model_types.specs.declared.pip.SealDesc.{SealDesc}
use Rattle.graph_check_outputs.specs.Outputs.{PipHas}

-- the paths rise by their texts
abbrev pub IsInOrder : List Atoms → Type 0
IsInOrder = RiseByText (λ path. path)

-- some pip has x among its items
abbrev pub IsAmong : {X : Type 0} → (PipKind → List X) → List Pip → X → Type 0
IsAmong items pips x = (i : ℕ) × PipHas items pips i x

-- the list has just the items of all pips, in order
pub record IsListOf (items : PipKind → List Atoms) (pips : List Pip) (paths : List Atoms) : Type 0 where
  pub sorted : IsInOrder paths
  pub members : (path : Atoms) → Contains paths path ↔ IsAmong items pips path

-- the file lies strictly below the root of the seal and is no member of it
abbrev pub IsLeftOut : SealDesc → Atoms → Type 0
IsLeftOut seal file = IsBelow file seal.root × (Contains (map input_path seal.files) file → ⊥)

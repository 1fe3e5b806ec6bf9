-- The rule that outputs lie below `out`.
use Rattle.std.specs.Prelude.{ℕ, List, [], ◌∷◌, codes}
use Rattle.bx_tree.specs.Paths.{Atoms, IsBelow}
use Rattle.pip_model_types.specs.declared.pip.Pip.{Pip}
use Rattle.graph_check_outputs.specs.Outputs.{PipHas, outputs}

-- the directory that all outputs lie strictly below
abbrev pub out_dir : Atoms
out_dir = codes "out" ∷ []

-- pip i has an output that does not lie strictly below `out`
abbrev pub OutsideOutAt : List Pip → ℕ → Type 0
OutsideOutAt pips i = (path : Atoms) × PipHas outputs pips i path × (IsBelow path out_dir → ⊥)

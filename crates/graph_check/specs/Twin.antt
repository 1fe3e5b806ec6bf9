-- The rule that no two processes have one description.
use Rattle.std.specs.Prelude.{ℕ, ◌<◌, List, [], ◌∷◌}
use Rattle.pip_model_types.specs.declared.pip.Pip.{Pip}
use Rattle.pip_model_types.specs.declared.pip.PipKind.{PipKind}
use Rattle.pip_model_types.specs.declared.pip.PipKind.TheVariants.{Process, Copy, Write, Seal}
use Rattle.pip_model_types.specs.declared.pip.ProcessDesc.{ProcessDesc}
use Rattle.graph_check.specs.Descriptions.{description}
use Rattle.graph_check_outputs.specs.Outputs.{PipHas}

-- the description of a process; other pips have none
abbrev pub descriptions : PipKind → List ProcessDesc
descriptions (Process d) = description d ∷ []
descriptions (Copy d) = []
descriptions (Write d) = []
descriptions (Seal d) = []

-- pip i is a process with the description of an earlier process
abbrev pub TwinAt : List Pip → ℕ → Type 0
TwinAt pips i =
    (j : ℕ) × (j < i) × ((d : ProcessDesc) × PipHas descriptions pips i d × PipHas descriptions pips j d)

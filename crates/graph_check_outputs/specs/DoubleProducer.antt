-- The rule that no two pips declare one file.
use Rattle.std.specs.Prelude.{ℕ, ◌<◌, List}
use Rattle.bx_tree.specs.Paths.{Atoms}
use Rattle.pip_model_types.specs.declared.pip.Pip.{Pip}
use Rattle.graph_check_outputs.specs.Outputs.{PipHas, declared_files}

-- pip i declares a file that an earlier pip declares
abbrev pub DoubleProducerAt : List Pip → ℕ → Type 0
DoubleProducerAt pips i =
    (j : ℕ) × (j < i) × ((file : Atoms) × PipHas declared_files pips i file × PipHas declared_files pips j file)

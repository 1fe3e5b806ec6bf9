-- The rule that source files are there.
use Rattle.std.specs.Prelude.{ℕ, List, [], ◌∷◌, Contains}
use Rattle.std.specs.List.{flat_map}
use Rattle.bx_tree.specs.Paths.{Atoms}
use Rattle.bx_tree.specs.Trees.{Files, paths_of}
use Rattle.bx_tree.specs.declared.file_input.FileInput.{FileInput}
use Rattle.bx_tree.specs.declared.file_input.FileInput.TheVariants.{Source, Made}
use Rattle.pip_model_types.specs.Kinds.{form_files}
use Rattle.pip_model_types.specs.declared.pip.Pip.{Pip}
use Rattle.pip_model_types.specs.declared.pip.PipKind.{PipKind}
use Rattle.pip_model_types.specs.declared.pip.PipKind.TheVariants.{Process, Copy, Write, Seal}
use Rattle.graph_check_outputs.specs.Outputs.{PipHas}

-- the file, if it is a source file
abbrev pub if_source : FileInput → List Atoms
if_source (Source path) = path ∷ []
if_source (Made path maker) = []

-- the source files among these files
abbrev pub sources_among : List FileInput → List Atoms
sources_among = flat_map if_source

-- the source files that a pip names: the executable and the declared files of a process, the file that is
-- copied, and the listed files of a full or partial seal
abbrev pub named_sources : PipKind → List Atoms
named_sources (Process d) = d.exe ∷ sources_among d.files
named_sources (Copy d) = if_source d.from
named_sources (Write d) = []
named_sources (Seal d) = sources_among (form_files d.form d.files)

-- pip i names a source file that is not in the tree
abbrev pub NoSuchSourceAt : List Pip → Files → ℕ → Type 0
NoSuchSourceAt pips tree i =
    (path : Atoms) × PipHas named_sources pips i path × (Contains (paths_of tree) path → ⊥)

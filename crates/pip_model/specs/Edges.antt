-- Which pips a pip waits for, what a pip can produce, and where walks along edges lead.
use Rattle.std.specs.Prelude.{◌≡◌, ℕ, List, [], ◌∷◌, ◌++◌, Some, Contains, Any, IsSomeAnd}
use Rattle.std.specs.Prelude.{slice_get, ◌⊎◌}
use Rattle.std.specs.List.{flat_map}
use Rattle.bx_tree.specs.Paths.{Atoms, IsBelow}
use Rattle.bx_tree.specs.declared.file_input.FileInput.{FileInput}
use Rattle.bx_tree.specs.declared.file_input.FileInput.TheVariants.{Source, Made}
use Rattle.pip_model_types.specs.declared.dir_inputs.DirInput.{DirInput}
use Rattle.pip_model_types.specs.declared.dir_inputs.DirInput.TheVariants.{Sealed, Opaque}
use Rattle.pip_model_types.specs.declared.outputs.OutDir.{OutDir}
use Rattle.pip_model_types.specs.declared.pip.Pip.{Pip}
use Rattle.pip_model_types.specs.declared.pip.PipKind.{PipKind}
use Rattle.pip_model_types.specs.declared.pip.PipKind.TheVariants.{Process, Copy, Write, Seal}
use Rattle.pip_model_types.specs.Kinds.{form_files, listed_in}
use Rattle.pip_model.specs.Walks.{Walk}

-- the pip that made a file; a source file has none
abbrev pub maker : FileInput → List ℕ
maker (Source path) = []
maker (Made path pip) = pip ∷ []

-- the pips that made these files
abbrev pub makers : List FileInput → List ℕ
makers = flat_map maker

-- What a process waits for where it takes a directory: the pip whose directory it is, and the makers of the
-- files that this pip lists. The members of an opaque directory are made by its own process, and those of a
-- seal of source files by none.
abbrev pub dir_targets : List Pip → DirInput → List ℕ
dir_targets pips (Sealed pip form root) = pip ∷ makers (listed_in (slice_get pips pip))
dir_targets pips (Opaque pip path) = pip ∷ []

-- The pips that a pip waits for: those that made its input files, the file that it copies or the files
-- that it lists as a seal, and the seals and processes whose directories it takes.
abbrev pub targets : List Pip → PipKind → List ℕ
targets pips (Process d) = makers d.files ++ flat_map (dir_targets pips) d.dirs
targets pips (Copy d) = maker d.from
targets pips (Write d) = []
targets pips (Seal d) = makers (form_files d.form d.files)

-- pip i has an edge to pip j
abbrev pub Edge : List Pip → ℕ → ℕ → Type 0
Edge pips i j = IsSomeAnd (slice_get pips i) (λ (pip : Pip). Contains (targets pips pip.kind) j)

-- a walk of one edge or more goes from i to j
abbrev pub Leads : List Pip → ℕ → ℕ → Type 0
Leads pips = Walk (Edge pips)

-- The pip can produce a file at this path: one of its declared output files, its console file, or any
-- path strictly below one of its output directories.
abbrev pub Produces : Atoms → PipKind → Type 0
Produces path (Process d) =
    Contains d.outs path ⊎ (d.console ≡ Some path) ⊎ Any (λ (dir : OutDir). IsBelow path dir.path) d.outdirs
Produces path (Copy d) = d.to ≡ path
Produces path (Write d) = d.to ≡ path
Produces path (Seal d) = ⊥

abbrev pub CanProduce : List Pip → ℕ → Atoms → Type 0
CanProduce pips j path = IsSomeAnd (slice_get pips j) (λ (pip : Pip). Produces path pip.kind)

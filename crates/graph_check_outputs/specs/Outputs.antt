-- What pips declare to make, and that the pip with a number has something among what it declares.
use Rattle.std.specs.Prelude.{ℕ, List, [], ◌∷◌, ◌++◌, Contains, IsSomeAnd, slice_get}
use Rattle.std.specs.Option.{option_to_list}
use Rattle.bx_tree.specs.Paths.{Atoms}
use Rattle.pip_model_types.specs.declared.pip.Pip.{Pip}
use Rattle.pip_model_types.specs.declared.pip.PipKind.{PipKind}
use Rattle.pip_model_types.specs.declared.pip.PipKind.TheVariants.{Process, Copy, Write, Seal}
use Rattle.pip_model_types.specs.Kinds.{outdirs_of}
use Rattle.pip_model_types.specs.Outputs.{outdir_paths}

-- pip i has x among these items of it
abbrev pub PipHas : {X : Type 0} → (PipKind → List X) → List Pip → ℕ → X → Type 0
PipHas items pips i x = IsSomeAnd (slice_get pips i) (λ (pip : Pip). Contains (items pip.kind) x)

-- the files that a pip declares: the output files and the console file of a process, and the file of a copy
-- or write pip
abbrev pub declared_files : PipKind → List Atoms
declared_files (Process d) = d.outs ++ option_to_list d.console
declared_files (Copy d) = d.to ∷ []
declared_files (Write d) = d.to ∷ []
declared_files (Seal d) = []

-- the outputs of a pip: the files and directories that it declares
abbrev pub outputs : PipKind → List Atoms
outputs kind = declared_files kind ++ outdir_paths (outdirs_of kind)

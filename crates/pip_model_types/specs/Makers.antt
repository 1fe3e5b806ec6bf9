-- What a pip makes, and that what a pip names as made is made by an earlier pip.
use Rattle.std.specs.Prelude.{◌≡◌, ℕ, ◌<◌, List, length, take, slice_get, Contains, Any, All, IsSomeAnd}
use Rattle.std.specs.List.{HoldsAt}
use Rattle.bx_tree.specs.Paths.{Atoms}
use Rattle.bx_tree.specs.declared.file_input.FileInput.{FileInput}
use Rattle.bx_tree.specs.declared.file_input.FileInput.TheVariants.{Source, Made}
use Rattle.pip_model_types.specs.declared.dir_inputs.SealForm.{SealForm}
use Rattle.pip_model_types.specs.declared.dir_inputs.DirInput.{DirInput}
use Rattle.pip_model_types.specs.declared.dir_inputs.DirInput.TheVariants.{Sealed, Opaque}
use Rattle.pip_model_types.specs.declared.outputs.OutDir.{OutDir}
use Rattle.pip_model_types.specs.declared.pip.Pip.{Pip}
use Rattle.pip_model_types.specs.declared.pip.PipKind.{PipKind}
use Rattle.pip_model_types.specs.declared.pip.PipKind.TheVariants.{Process, Copy, Write, Seal}

-- the file of a copy or write pip, or a declared output file of a process
abbrev pub MakesFile : Atoms → PipKind → Type 0
MakesFile path (Process d) = Contains d.outs path
MakesFile path (Copy d) = d.to ≡ path
MakesFile path (Write d) = d.to ≡ path
MakesFile path (Seal d) = ⊥

-- a seal of this form and root
abbrev pub IsSealOf : SealForm → Atoms → PipKind → Type 0
IsSealOf form root (Process d) = ⊥
IsSealOf form root (Copy d) = ⊥
IsSealOf form root (Write d) = ⊥
IsSealOf form root (Seal d) = (d.form ≡ form) × (d.root ≡ root)

-- a process with this output directory
abbrev pub HasOutDir : Atoms → PipKind → Type 0
HasOutDir path (Process d) = Any (λ (o : OutDir). o.path ≡ path) d.outdirs
HasOutDir path (Copy d) = ⊥
HasOutDir path (Write d) = ⊥
HasOutDir path (Seal d) = ⊥

-- a source file, or one that the pip which it names makes, which is one of these
abbrev pub IsFileAmong : List Pip → FileInput → Type 0
IsFileAmong pips (Source path) = Unit {0}
IsFileAmong pips (Made path maker) = IsSomeAnd (slice_get pips maker) (λ (pip : Pip). MakesFile path pip.kind)

-- a directory of one of these pips: a seal of this form and root, or a process with this output directory
abbrev pub IsDirAmong : List Pip → DirInput → Type 0
IsDirAmong pips (Sealed maker form root) =
    IsSomeAnd (slice_get pips maker) (λ (pip : Pip). IsSealOf form root pip.kind)
IsDirAmong pips (Opaque maker path) =
    IsSomeAnd (slice_get pips maker) (λ (pip : Pip). HasOutDir path pip.kind)

-- all that it names as made is made by these pips
abbrev pub NamesAmong : List Pip → PipKind → Type 0
NamesAmong pips (Process d) = All (IsFileAmong pips) d.files × All (IsDirAmong pips) d.dirs
NamesAmong pips (Copy d) = IsFileAmong pips d.from
NamesAmong pips (Write d) = Unit {0}
NamesAmong pips (Seal d) = All (IsFileAmong pips) d.files

-- The pip may come after these: what it names as made, they make.
abbrev pub FitsAfter : List Pip → Pip → Type 0
FitsAfter before pip = NamesAmong before pip.kind

-- a list of pips, of which each fits after those before it
abbrev pub IsPipList : List Pip → Type 0
IsPipList pips = (i : ℕ) → i < length pips → HoldsAt (FitsAfter (take i pips)) pips i

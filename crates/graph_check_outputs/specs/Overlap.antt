-- The rule that files, output directories and full seals keep apart.
use Rattle.std.specs.Prelude.{◌≡◌, ◌≢◌, ℕ, ◌≤◌, List, [], ◌∷◌, map, Contains, IsTrue, ◌⊎◌}
use Rattle.bx_tree.specs.Paths.{Atoms, IsBelow}
use Rattle.pip_model_types.specs.declared.dir_inputs.SealForm.{SealForm}
use Rattle.pip_model_types.specs.declared.dir_inputs.SealForm.TheVariants.{Full, Partial, SourceTop, SourceAll}
use Rattle.pip_model_types.specs.declared.outputs.OutDir.{OutDir}
use Rattle.pip_model_types.specs.declared.pip.Pip.{Pip}
use Rattle.pip_model_types.specs.declared.pip.PipKind.{PipKind}
use Rattle.pip_model_types.specs.declared.pip.PipKind.TheVariants.{Process, Copy, Write, Seal}
use Rattle.pip_model_types.specs.declared.pip.SealDesc.{SealDesc}
use Rattle.graph_check_outputs.specs.Outputs.{PipHas, declared_files, outputs}
use Rattle.bx_tree.specs.Below.{IsAtOrBelow}
use Rattle.pip_model_types.specs.Kinds.{outdirs_of}
use Rattle.bx_tree.specs.FileInputs.{input_path}

-- the seal, if its form is full
abbrev pub if_full : SealForm → SealDesc → List SealDesc
if_full Full seal = seal ∷ []
if_full Partial seal = []
if_full SourceTop seal = []
if_full SourceAll seal = []

-- the full seal that a pip is, if it is one
abbrev pub full_seals : PipKind → List SealDesc
full_seals (Process d) = []
full_seals (Copy d) = []
full_seals (Write d) = []
full_seals (Seal d) = if_full d.form d

-- an output of pip i lies strictly below an output of pip j
abbrev pub NestedOutputs : List Pip → ℕ → ℕ → Type 0
NestedOutputs pips i j =
    (path dir : Atoms) × PipHas outputs pips i path × PipHas outputs pips j dir × IsBelow path dir

-- an output file of pip i is an output directory of pip j
abbrev pub FileIsDir : List Pip → ℕ → ℕ → Type 0
FileIsDir pips i j =
    (file : Atoms) × (dir : OutDir) × PipHas declared_files pips i file × PipHas outdirs_of pips j dir
    × (file ≡ dir.path)

-- two pips have one output directory, and not both call it shared
abbrev pub UnsharedDir : List Pip → ℕ → ℕ → Type 0
UnsharedDir pips i j =
    (i ≢ j) × ((dir other : OutDir) × PipHas outdirs_of pips i dir × PipHas outdirs_of pips j other
    × (dir.path ≡ other.path) × (IsTrue dir.shared → IsTrue other.shared → ⊥))

-- the file lies at or below the root of the seal and is no member of it
abbrev pub IsUnlisted : SealDesc → Atoms → Type 0
IsUnlisted seal file = IsAtOrBelow file seal.root × (Contains (map input_path seal.files) file → ⊥)

-- an output file of pip i lies at or below the root of the full seal j and is no member of it
abbrev pub UnlistedFile : List Pip → ℕ → ℕ → Type 0
UnlistedFile pips i j =
    (file : Atoms) × (seal : SealDesc) × PipHas declared_files pips i file × PipHas full_seals pips j seal
    × IsUnlisted seal file

-- the root of the full seal i equals, contains or lies in an output directory of pip j
abbrev pub SealMeetsDir : List Pip → ℕ → ℕ → Type 0
SealMeetsDir pips i j =
    (seal : SealDesc) × (dir : OutDir) × PipHas full_seals pips i seal × PipHas outdirs_of pips j dir
    × (IsAtOrBelow seal.root dir.path ⊎ IsBelow dir.path seal.root)

-- pips i and j, which may be one pip, overlap in one of these ways
pub data Overlaps (pips : List Pip) (i j : ℕ) : Type 0 where
  Nested : NestedOutputs pips i j → Overlaps pips i j
  OnePath : FileIsDir pips i j → Overlaps pips i j
  Unshared : UnsharedDir pips i j → Overlaps pips i j
  Unlisted : UnlistedFile pips i j → Overlaps pips i j
  Meets : SealMeetsDir pips i j → Overlaps pips i j

-- pip i overlaps with itself or with an earlier pip
abbrev pub OverlapAt : List Pip → ℕ → Type 0
OverlapAt pips i = (j : ℕ) × (j ≤ i) × (Overlaps pips i j ⊎ Overlaps pips j i)

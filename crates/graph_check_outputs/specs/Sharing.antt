-- The paths of output directories, and of those that are not shared.
use Rattle.std.specs.Prelude.{◌↔◌, ℕ, ◌<◌, ◌≤◌, Bool, true, false, List, [], ◌∷◌, length, map, take}
use Rattle.std.specs.List.{flat_map}
use Rattle.bx_tree.specs.Paths.{Atoms}
use Rattle.pip_model_types.specs.declared.outputs.OutDir.{OutDir}
use Rattle.pip_model_types.specs.declared.pip.Pip.{Pip}
use Rattle.pip_model_types.specs.declared.pip.PipKind.{PipKind}
use Rattle.pip_model_types.specs.declared.pip.SealDesc.{SealDesc}
use Rattle.graph_check_outputs.specs.Overlap.{FileIsDir, NestedOutputs, Overlaps, SealMeetsDir, UnlistedFile}
use Rattle.graph_check_outputs.specs.Overlap.{UnsharedDir, full_seals}
use Rattle.pip_model_types.specs.Kinds.{outdirs_of}
use Rattle.pip_model_types.specs.Outputs.{outdir_paths}

abbrev pub unless_shared : Bool → Atoms → List Atoms
unless_shared true path = []
unless_shared false path = path ∷ []

-- the paths of the directories that are not shared
abbrev pub lone_among : List OutDir → List Atoms
lone_among = flat_map (λ (dir : OutDir). unless_shared dir.shared dir.path)

abbrev pub declared_dir_paths : PipKind → List Atoms
declared_dir_paths kind = outdir_paths (outdirs_of kind)

abbrev pub lone_paths : PipKind → List Atoms
lone_paths kind = lone_among (outdirs_of kind)

-- the root of a full seal
abbrev pub full_roots : PipKind → List Atoms
full_roots kind = map (λ (seal : SealDesc). seal.root) (full_seals kind)

-- two of these pips have one output directory, and not both call it shared
abbrev pub HasUnshared : List Pip → Type 0
HasUnshared pips = (i j : ℕ) × UnsharedDir pips i j

-- among the first m pips two have one output directory, and not both share it, just where m is more than n
abbrev pub TellsUnshared : List Pip → ℕ → Type 0
TellsUnshared pips n = (m : ℕ) → m ≤ length pips → HasUnshared (take m pips) ↔ (n < m)

-- two of these pips overlap in each of the other ways
abbrev pub HasNested : List Pip → Type 0
HasNested pips = (i j : ℕ) × NestedOutputs pips i j

abbrev pub HasFileDir : List Pip → Type 0
HasFileDir pips = (i j : ℕ) × FileIsDir pips i j

abbrev pub HasUnlisted : List Pip → Type 0
HasUnlisted pips = (i j : ℕ) × UnlistedFile pips i j

abbrev pub HasSealedDir : List Pip → Type 0
HasSealedDir pips = (i j : ℕ) × SealMeetsDir pips i j

-- two of these pips overlap, or one of them alone does
abbrev pub HasOverlap : List Pip → Type 0
HasOverlap pips = (i j : ℕ) × Overlaps pips i j

-- What a folder holds after a bundle was unpacked in it, and after that was refused.
use Rattle.std.specs.Prelude.{◌≡◌, ◌≢◌, ℕ, ◌≤◌, List, ◌∷◌, length, take, drop, Option, option_map, ◌⊎◌, codes}
use Rattle.std.specs.Prelude.{Contains, ⊤}
use Rattle.bx_tree.specs.Paths.{Atoms, path_text}
use Rattle.bx_tree.specs.Trees.{Files, paths_of}
use Rattle.bx_tree.specs.Bundle.{Faults, IsBundle}
use Rattle.bx_tree.specs.declared.bundle.BundleFault.TheVariants as bundle_faults
use Rattle.bundle_folder.specs.Folders.{IsFree, Known, Nodes, with_files, without}
use Rattle.bundle_folder.specs.Places.{IsWithin}
use Rattle.bundle_folder.specs.declared.fault.UnpackFault.{UnpackFault}
use Rattle.bundle_folder.specs.declared.fault.UnpackFault.TheVariants as faults
use Rattle.bundle_folder.specs.declared.unpacking.Replace.{Replace}
use Rattle.bundle_folder.specs.declared.unpacking.Replace.TheVariants as replaces

-- a build makes files at these places, or below them
abbrev pub IsMade : List ℕ → Type 0
IsMade place = IsWithin place (codes "out") ⊎ IsWithin place (codes "report.txt")

-- the path lies where a build makes files, and is cleared before a file is made
abbrev pub IsCleared : Replace → Atoms → Type 0
IsCleared replace path = (replace ≡ replaces.Made) × IsMade (path_text path)

-- a file can be made at the path, or the path is cleared before
abbrev pub IsFreeBut : Replace → Nodes → Atoms → Type 0
IsFreeBut replace nodes path = IsCleared replace path ⊎ IsFree nodes (path_text path)

-- each of these files can be made, or its path is cleared before
abbrev pub AreFreeBut : Replace → Nodes → Files → Type 0
AreFreeBut replace nodes files =
    (path : Atoms) → Contains (paths_of files) path → IsFreeBut replace nodes path

-- a folder without what lies at a place and below it
abbrev pub removed : List ℕ → Option Nodes → Option Nodes
removed top holds = option_map (without top) holds

-- what a folder holds when the first file is made
abbrev pub start : Replace → Option Nodes → Option Nodes
start replaces.Nothing holds = holds
start replaces.Made holds = removed (codes "report.txt") (removed (codes "out") holds)

-- the text is a bundle of this many files, nothing was in the way of one, and the folder holds all of them
-- beside what it held
abbrev pub IsUnpack : List ℕ → Replace → Option Nodes → Option Nodes → ℕ → Type 0
IsUnpack text replace before now count =
    (files : Files) × IsBundle text files × (count ≡ length files)
    × (now ≡ with_files (start replace before) files)
    × Known before (λ nodes. AreFreeBut replace nodes files)

-- the text is a bundle, and the folder holds the first files of it, of this number, beside what it held
abbrev pub HoldsFirst : List ℕ → Replace → Option Nodes → Option Nodes → ℕ → Type 0
HoldsFirst text replace before now count =
    (files : Files) × IsBundle text files × (count ≤ length files)
    × (now ≡ with_files (start replace before) (take count files))

-- the file after the first ones, of this number, has this path
abbrev pub IsNext : Files → ℕ → Atoms → Type 0
IsNext files count path = (bytes : List ℕ) × (rest : Files) × (drop count files ≡ (path, bytes) ∷ rest)

-- the text is a bundle, the folder holds the first files of it, of this number, beside what it held, and the
-- next file has this path
abbrev pub StopsAt : List ℕ → Replace → Option Nodes → Option Nodes → ℕ → Atoms → Type 0
StopsAt text replace before now count path =
    (files : Files) × IsBundle text files × IsNext files count path
    × (now ≡ with_files (start replace before) (take count files))

-- the text is a bundle with a file at this path
abbrev pub HasFile : List ℕ → Atoms → Type 0
HasFile text path = (files : Files) × IsBundle text files × Contains (paths_of files) path

-- no file was made, and what the build before made was removed in part or not at all
abbrev pub IsUnmade : Replace → Option Nodes → Option Nodes → Type 0
IsUnmade replace before now =
    (now ≡ before) ⊎ ((replace ≡ replaces.Made) × (now ≡ removed (codes "out") before))

-- the place is the first that is cleared, and the folder is as before, or it is the second, and the first one
-- is cleared
abbrev pub IsKept : List ℕ → Option Nodes → Option Nodes → Type 0
IsKept top before now =
    ((top ≡ codes "out") × (now ≡ before))
    ⊎ ((top ≡ codes "report.txt") × (now ≡ removed (codes "out") before))

-- Each refusal, with its cause and with what the folder holds after it. Where what a folder holds is known,
-- nothing comes in the way of a file after the folder was looked through.
abbrev pub EndsUnpack : List ℕ → Replace → Option Nodes → Option Nodes → UnpackFault → Type 0
EndsUnpack text replace before now (faults.Text fault) =
    (now ≡ before) × (fault ≢ bundle_faults.Memory) × Faults text fault
EndsUnpack text replace before now (faults.Exists path) =
    (now ≡ before) × HasFile text path × Known before (λ nodes. ¬ IsFree nodes (path_text path))
    × (¬ IsCleared replace path)
EndsUnpack text replace before now (faults.Unseen path) =
    (now ≡ before) × HasFile text path × (¬ IsCleared replace path)
EndsUnpack text replace before now (faults.Kept path) =
    (replace ≡ replaces.Made) × IsKept (path_text path) before now
EndsUnpack text replace before now (faults.Partly count path) = StopsAt text replace before now count path
EndsUnpack text replace before now (faults.Taken count path) =
    StopsAt text replace before now count path × Known before (λ _. ⊥)
EndsUnpack text replace before now (faults.Memory count) =
    ((count ≡ 0) × IsUnmade replace before now) ⊎ HoldsFirst text replace before now count

-- the fault blames the folder
abbrev pub BlamesFolder : UnpackFault → Type 0
BlamesFolder (faults.Text fault) = ⊥
BlamesFolder (faults.Exists path) = ⊥
BlamesFolder (faults.Unseen path) = ⊤
BlamesFolder (faults.Kept path) = ⊤
BlamesFolder (faults.Partly count path) = ⊤
BlamesFolder (faults.Taken count path) = ⊥
BlamesFolder (faults.Memory count) = ⊥

-- ## Steps

-- each of these files can be made
abbrev pub AreFree : Nodes → Files → Type 0
AreFree nodes files = (path : Atoms) → Contains (paths_of files) path → IsFree nodes (path_text path)

-- why it is not known that a file can be made at the path
abbrev pub IsWayFault : Option Nodes → Atoms → UnpackFault → Type 0
IsWayFault holds path (faults.Text fault) = ⊥
IsWayFault holds path (faults.Exists blamed) =
    (blamed ≡ path) × Known holds (λ nodes. ¬ IsFree nodes (path_text path))
IsWayFault holds path (faults.Unseen blamed) = blamed ≡ path
IsWayFault holds path (faults.Kept blamed) = ⊥
IsWayFault holds path (faults.Partly count blamed) = ⊥
IsWayFault holds path (faults.Taken count blamed) = ⊥
IsWayFault holds path (faults.Memory count) = count ≡ 0

-- why a place was not cleared
abbrev pub IsClearFault : List ℕ → UnpackFault → Type 0
IsClearFault top (faults.Text fault) = ⊥
IsClearFault top (faults.Exists blamed) = ⊥
IsClearFault top (faults.Unseen blamed) = ⊥
IsClearFault top (faults.Kept blamed) = path_text blamed ≡ top
IsClearFault top (faults.Partly count blamed) = ⊥
IsClearFault top (faults.Taken count blamed) = ⊥
IsClearFault top (faults.Memory count) = count ≡ 0

-- why a file was not made at the path, where this many were made
abbrev pub IsMakeFault : Option Nodes → Atoms → ℕ → UnpackFault → Type 0
IsMakeFault holds path made (faults.Text fault) = ⊥
IsMakeFault holds path made (faults.Exists blamed) = ⊥
IsMakeFault holds path made (faults.Unseen blamed) = ⊥
IsMakeFault holds path made (faults.Kept blamed) = ⊥
IsMakeFault holds path made (faults.Partly count blamed) = (count ≡ made) × (blamed ≡ path)
IsMakeFault holds path made (faults.Taken count blamed) =
    (count ≡ made) × (blamed ≡ path) × Known holds (λ nodes. ¬ IsFree nodes (path_text path))
IsMakeFault holds path made (faults.Memory count) = count ≡ made

-- the first files, of this number, were made
abbrev pub HasFirst : Option Nodes → Option Nodes → Files → ℕ → Type 0
HasFirst before now files count = (count ≤ length files) × (now ≡ with_files before (take count files))

-- why not all of these files were made, and what was made
abbrev pub IsStop : Option Nodes → Option Nodes → Files → UnpackFault → Type 0
IsStop before now files (faults.Text fault) = ⊥
IsStop before now files (faults.Exists path) = ⊥
IsStop before now files (faults.Unseen path) = ⊥
IsStop before now files (faults.Kept path) = ⊥
IsStop before now files (faults.Partly count path) =
    IsNext files count path × (now ≡ with_files before (take count files))
IsStop before now files (faults.Taken count path) =
    IsNext files count path × (now ≡ with_files before (take count files)) × Known before (λ _. ⊥)
IsStop before now files (faults.Memory count) = HasFirst before now files count

-- What the steps of packing answer.
use Rattle.std.specs.Prelude.{◌≡◌, ◌==◌, ◌≢◌, ℕ, ◌<◌, ◌≤◌, List, [], length, Contains, ⊤, string_bytes}
use Rattle.std.specs.List.{All, AllByRecursion, slice_split}
use Rattle.std.specs.List.Sorted.{IsPermutation, IsStrictlySortedBy}
use Rattle.bx_tree.specs.Paths.{Atoms, IsAtom, path_cmp, path_text}
use Rattle.bx_tree.specs.Trees.{Files, IsTree}
use Rattle.bx_tree.specs.Bundle.{IsBundle, bundle}
use Rattle.bx_tree.specs.declared.tree_file.TreeFile.{TreeFile}
use Rattle.bx_tree.specs.declared.limits.TheConstants.{MAX_BUNDLE_BYTES, MAX_PATH_BYTES}
use Rattle.bundle_folder.specs.Folders.{File, Node, Nodes, IsListed}
use Rattle.bundle_folder.specs.declared.folder.Entry.{Entry}
use Rattle.bundle_folder.specs.declared.folder.Kind.TheVariants as kinds
use Rattle.bundle_folder.specs.declared.fault.PackFault.{PackFault}
use Rattle.bundle_folder.specs.declared.fault.PackFault.TheVariants as faults

-- a file lies at the path, and is not left out
abbrev pub IsFileIn : List (List ℕ) → Nodes → Atoms → Type 0
IsFileIn left_out nodes path = (bytes : List ℕ) × IsListed left_out nodes (path_text path) (File bytes)

-- the paths are those of all that lies in a folder, which is files alone
pub record ArePathsOf (left_out : List (List ℕ)) (nodes : Nodes) (paths : List Atoms) : Type 0 where
  pub rising : IsStrictlySortedBy path_cmp paths
  pub no_root : (path : Atoms) → Contains paths path → path ≢ []
  pub held : (path : Atoms) → Contains paths path → IsFileIn left_out nodes path
  pub all : (place : List ℕ) (node : Node) → IsListed left_out nodes place node
      → (path : Atoms) × Contains paths path × (path_text path ≡ place)

-- the entry is a file with this path
pub record IsFilePath (entry : Entry) (path : Atoms) : Type 0 where
  pub text : path_text path ≡ string_bytes entry.place
  pub file : entry.kind ≡ kinds.File
  pub no_root : path ≢ []

-- the paths are those of the entries, which are all files
pub record AreEntryPaths (entries : List Entry) (paths : List Atoms) : Type 0 where
  pub held : (path : Atoms) → Contains paths path
      → (entry : Entry) × Contains entries entry × IsFilePath entry path
  pub all : (entry : Entry) → Contains entries entry
      → (path : Atoms) × Contains paths path × IsFilePath entry path

-- the fault of a place that is no path, or that memory ran out
abbrev pub IsPlaceFault : List ℕ → PackFault → Type 0
IsPlaceFault place (faults.BadName text) =
    (string_bytes text ≡ place) × (length place ≤ MAX_PATH_BYTES)
IsPlaceFault place (faults.NoText text) = ⊥
IsPlaceFault place (faults.LongPath text) = (string_bytes text ≡ place) × (MAX_PATH_BYTES < length place)
IsPlaceFault place (faults.NoFile path) = ⊥
IsPlaceFault place (faults.LargeFile path) = ⊥
IsPlaceFault place faults.ManyFiles = ⊥
IsPlaceFault place faults.LargeText = ⊥
IsPlaceFault place faults.Changed = ⊥
IsPlaceFault place (faults.Unlisted text) = ⊥
IsPlaceFault place (faults.Unread path) = ⊥
IsPlaceFault place faults.Memory = ⊤

-- the fault of an entry
abbrev pub IsEntryFault : Entry → PackFault → Type 0
IsEntryFault entry (faults.BadName text) =
    (string_bytes text ≡ string_bytes entry.place)
    × (¬ AllByRecursion IsAtom (slice_split (λ b. b == 47) (string_bytes text)))
IsEntryFault entry (faults.NoText text) = ⊥
IsEntryFault entry (faults.LongPath text) =
    (string_bytes text ≡ string_bytes entry.place) × (MAX_PATH_BYTES < length (string_bytes text))
IsEntryFault entry (faults.NoFile path) =
    (path_text path ≡ string_bytes entry.place) × (entry.kind ≡ kinds.Other)
IsEntryFault entry (faults.LargeFile path) = ⊥
IsEntryFault entry faults.ManyFiles = ⊥
IsEntryFault entry faults.LargeText = ⊥
IsEntryFault entry faults.Changed = ⊥
IsEntryFault entry (faults.Unlisted text) = ⊥
IsEntryFault entry (faults.Unread path) = ⊥
IsEntryFault entry faults.Memory = ⊤

-- each of these files lies in the folder at its path
abbrev pub AreRead : Nodes → List TreeFile → Type 0
AreRead nodes files = All (λ f. Contains nodes (path_text f.path, File f.bytes.items)) files

-- the text is the bundle of these files in some order
abbrev pub IsTextOf : Files → List ℕ → Type 0
IsTextOf files text = (tree : Files) × IsPermutation files tree × IsBundle text tree

-- why files have no bundle: in no order they are a tree, or its text is too long, or memory ran out
abbrev pub IsTextFault : Files → PackFault → Type 0
IsTextFault files (faults.BadName place) = ⊥
IsTextFault files (faults.NoText place) = ⊥
IsTextFault files (faults.LongPath place) = ⊥
IsTextFault files (faults.NoFile path) = ⊥
IsTextFault files (faults.LargeFile path) = ⊥
IsTextFault files faults.ManyFiles = ⊥
IsTextFault files faults.LargeText =
    (tree : Files) × IsPermutation files tree × IsTree tree × (MAX_BUNDLE_BYTES < length (bundle tree))
IsTextFault files faults.Changed = (tree : Files) → IsPermutation files tree → IsTree tree → ⊥
IsTextFault files (faults.Unlisted place) = ⊥
IsTextFault files (faults.Unread path) = ⊥
IsTextFault files faults.Memory = ⊤

-- The text of a folder, and why it has none.
use Rattle.std.specs.Prelude.{◌≡◌, ◌==◌, ℕ, ◌<◌, List, length, Option, Contains, ⊤}
use Rattle.std.specs.Prelude.{string_bytes}
use Rattle.std.specs.List.{AllByRecursion, slice_split}
use Rattle.std.specs.List.Sorted.{IsStrictlySortedBy}
use Rattle.bx_tree.specs.Paths.{Atoms, IsAtom, path_cmp, path_text}
use Rattle.bx_tree.specs.Trees.{Files, paths_of}
use Rattle.bx_tree.specs.Bundle.{IsBundle, bundle}
use Rattle.bx_tree.specs.declared.limits.TheConstants.{MAX_BUNDLE_BYTES, MAX_FILE_BYTES}
use Rattle.bx_tree.specs.declared.limits.TheConstants.{MAX_FILES, MAX_PATH_BYTES}
use Rattle.bundle_folder.specs.Folders.{File, Known, Node, Nodes, Other, IsListed}
use Rattle.bundle_folder.specs.declared.fault.PackFault.{PackFault}
use Rattle.bundle_folder.specs.declared.fault.PackFault.TheVariants as faults

-- each of these files lies in the folder at its path, and is not left out
abbrev pub AreHeld : List (List ℕ) → Nodes → Files → Type 0
AreHeld left_out nodes files =
    (path : Atoms) (bytes : List ℕ) → Contains files (path, bytes)
    → IsListed left_out nodes (path_text path) (File bytes)

-- the files are all that the folder holds, but for what is left out
pub record AreFilesOf (left_out : List (List ℕ)) (nodes : Nodes) (files : Files) : Type 0 where
  pub held : AreHeld left_out nodes files
  pub all : (place : List ℕ) (node : Node) → IsListed left_out nodes place node
      → (path : Atoms) × (bytes : List ℕ) × (path_text path ≡ place) × (File bytes ≡ node)
      × Contains files (path, bytes)

-- the text is a bundle, and that of the files of the folder
abbrev pub IsPack : List (List ℕ) → Option Nodes → List ℕ → Type 0
IsPack left_out holds text =
    (files : Files) × IsBundle text files × Known holds (λ nodes. AreFilesOf left_out nodes files)

-- the place has a name that is no atom, and something lies there
abbrev pub HasBadName : List (List ℕ) → Nodes → List ℕ → Type 0
HasBadName left_out nodes place =
    ((node : Node) × IsListed left_out nodes place node)
    × (¬ AllByRecursion IsAtom (slice_split (λ b. b == 47) place))

-- the folder has more files than a bundle may have
abbrev pub HasManyFiles : List (List ℕ) → Nodes → Type 0
HasManyFiles left_out nodes =
    (paths : List Atoms) × IsStrictlySortedBy path_cmp paths × (MAX_FILES < length paths)
    × ((path : Atoms) → Contains paths path
    → (bytes : List ℕ) × IsListed left_out nodes (path_text path) (File bytes))

-- the folder has files whose text is longer than a bundle may be
abbrev pub HasLongText : List (List ℕ) → Nodes → Type 0
HasLongText left_out nodes =
    (files : Files) × IsStrictlySortedBy path_cmp (paths_of files) × AreHeld left_out nodes files
    × (MAX_BUNDLE_BYTES < length (bundle files))

-- What causes each fault of a folder whose content is known. Such a folder does not change while it is read,
-- and its names are texts. The cause of a fault of the folder itself is in its count.
abbrev pub HasCauseIn : List (List ℕ) → Nodes → PackFault → Type 0
HasCauseIn left_out nodes (faults.BadName place) = HasBadName left_out nodes (string_bytes place)
HasCauseIn left_out nodes (faults.NoText place) = ⊥
HasCauseIn left_out nodes (faults.LongPath place) =
    ((node : Node) × IsListed left_out nodes (string_bytes place) node)
    × (MAX_PATH_BYTES < length (string_bytes place))
HasCauseIn left_out nodes (faults.NoFile path) = IsListed left_out nodes (path_text path) Other
HasCauseIn left_out nodes (faults.LargeFile path) =
    (bytes : List ℕ) × IsListed left_out nodes (path_text path) (File bytes) × (MAX_FILE_BYTES < length bytes)
HasCauseIn left_out nodes faults.ManyFiles = HasManyFiles left_out nodes
HasCauseIn left_out nodes faults.LargeText = HasLongText left_out nodes
HasCauseIn left_out nodes faults.Changed = ⊥
HasCauseIn left_out nodes (faults.Unlisted place) = ⊤
HasCauseIn left_out nodes (faults.Unread path) =
    (bytes : List ℕ) × IsListed left_out nodes (path_text path) (File bytes)
HasCauseIn left_out nodes faults.Memory = ⊤

abbrev pub HasPackCause : List (List ℕ) → Option Nodes → PackFault → Type 0
HasPackCause left_out holds fault = Known holds (λ nodes. HasCauseIn left_out nodes fault)

-- the fault blames the folder
abbrev pub BlamesFolder : PackFault → Type 0
BlamesFolder (faults.BadName place) = ⊥
BlamesFolder (faults.NoText place) = ⊥
BlamesFolder (faults.LongPath place) = ⊥
BlamesFolder (faults.NoFile path) = ⊥
BlamesFolder (faults.LargeFile path) = ⊥
BlamesFolder faults.ManyFiles = ⊥
BlamesFolder faults.LargeText = ⊥
BlamesFolder faults.Changed = ⊥
BlamesFolder (faults.Unlisted place) = ⊤
BlamesFolder (faults.Unread path) = ⊤
BlamesFolder faults.Memory = ⊥

-- What the answers of a folder say of what it holds.
use Rattle.std.specs.Prelude.{◌≡◌, ℕ, ◌<◌, List, length, map, Contains, string_bytes}
use Rattle.bx_tree.specs.declared.limits.TheConstants.{MAX_FILE_BYTES}
use Rattle.bundle_folder.specs.Folders.{Node, Nodes, File, Other, IsListed}
use Rattle.bundle_folder.specs.declared.folder.Kind.{Kind}
use Rattle.bundle_folder.specs.declared.folder.Kind.TheVariants as kinds
use Rattle.bundle_folder.specs.declared.folder.Entry.{Entry}

-- the kind of a node
abbrev pub kind_of : Node → Kind
kind_of (File bytes) = kinds.File
kind_of Other = kinds.Other

-- an entry as its place and its kind
abbrev pub entry_data : Entry → List ℕ × Kind
entry_data entry = (string_bytes entry.place, entry.kind)

-- the entry is that of a node that is not left out
abbrev pub IsEntryOf : List (List ℕ) → Nodes → Entry → Type 0
IsEntryOf left_out nodes entry =
    (node : Node) × IsListed left_out nodes (string_bytes entry.place) node × (kind_of node ≡ entry.kind)

-- the entries are those of the nodes that are not left out
pub record ListsNodes (left_out : List (List ℕ)) (nodes : Nodes) (entries : List Entry) : Type 0 where
  pub held : (entry : Entry) → Contains entries entry → IsEntryOf left_out nodes entry
  pub all : (place : List ℕ) (node : Node) → IsListed left_out nodes place node
      → Contains (map entry_data entries) (place, kind_of node)

-- a file with more bytes than a bundle may have in one lies at the place
abbrev pub HasLargeFile : Nodes → List ℕ → Type 0
HasLargeFile nodes place =
    (bytes : List ℕ) × Contains nodes (place, File bytes) × (MAX_FILE_BYTES < length bytes)

-- What a folder holds.
use Rattle.std.specs.Prelude.{◌≡◌, ◌≢◌, ℕ, List, ◌++◌, Option, Some, option_map, Contains, codes}
use Rattle.std.specs.Prelude.{filter, map, not}
use Rattle.bx_tree.specs.Paths.{Atoms, path_text}
use Rattle.bx_tree.specs.Trees.{Files}
use Rattle.bundle_folder.specs.Places.{IsApart, IsLeftOut, IsWithin, is_within}

-- what may lie at a place: a file with these bytes, or a thing that is neither a file nor a directory, as a
-- link
pub data Node : Type 0 where
  File : (bytes : List ℕ) → Node
  Other : Node

-- All that a folder holds, each at its place. A directory is no node: it is where nodes lie. The order of
-- nodes has no meaning.
abbrev pub Nodes : Type 0
Nodes = List (List ℕ × Node)

-- what a folder can hold: one node at a place, and none below a node
abbrev pub IsFolder : Nodes → Type 0
IsFolder nodes =
    (place top : List ℕ) (node above : Node) → Contains nodes (place, node) → Contains nodes (top, above)
    → IsWithin place top → (place ≡ top) × (node ≡ above)

-- no node lies at the place, below it, or where a directory above it would be
abbrev pub AllApart : Nodes → List ℕ → Type 0
AllApart nodes place = (other : List ℕ) (node : Node) → Contains nodes (other, node) → IsApart place other

-- a file can be made at the place
pub record IsFree (nodes : Nodes) (place : List ℕ) : Type 0 where
  pub no_root : place ≢ codes "."
  pub apart : AllApart nodes place

-- the fact holds of what a folder holds, where that is known
abbrev pub Known : Option Nodes → (Nodes → Type 0) → Type 0
Known holds fact = (nodes : Nodes) → holds ≡ Some nodes → fact nodes

-- the node lies at the place, which is not left out
pub record IsListed (left_out : List (List ℕ)) (nodes : Nodes) (place : List ℕ) (node : Node) : Type 0 where
  pub there : Contains nodes (place, node)
  pub counts : ¬ IsLeftOut left_out place

abbrev pub nodes_of : Files → Nodes
nodes_of files = map (λ (f : Atoms × List ℕ). (path_text f.0, File f.1)) files

-- a folder, of which what it holds may be unknown, with these files added
abbrev pub with_files : Option Nodes → Files → Option Nodes
with_files holds files = option_map (λ nodes. nodes ++ nodes_of files) holds

-- what is left of nodes without those at a place and below it
abbrev pub without : List ℕ → Nodes → Nodes
without top nodes = filter (λ (n : List ℕ × Node). not (is_within n.0 top)) nodes

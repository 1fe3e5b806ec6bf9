-- What contracts see of a folder in memory, and how it is stored.
use Rattle.std.specs.Prelude.{◌≡◌, ℕ, List, Option, Some, None, refl, map, string_bytes}
use Rattle.std.specs.Coded.{Coded, code_by, coded×, coded_ℕ, coded_list, coded_option}
use Rattle.bundle_folder.specs.Folders.{Nodes, File, Other}
use Rattle.bundle_folder.specs.Folders as folders
use Rattle.bundle_folder.specs.declared.mem_folder.Thing.{Thing}
use Rattle.bundle_folder.specs.declared.mem_folder.Thing.TheVariants as things
use Rattle.bundle_folder.specs.declared.mem_folder.Placed.{Placed}

-- a folder with the number of its calls so far, and of those that failed
pub record Scripted : Type 0 where
  pub nodes : Nodes
  pub failing : List ℕ
  pub calls : ℕ
  pub faults : ℕ

-- a thing, without its address
abbrev pub node_of : Thing → folders.Node
node_of (things.File bytes) = File bytes.items
node_of things.Other = Other

-- what is stored, with its place
abbrev pub placed : Placed → List ℕ × folders.Node
placed p = (string_bytes p.place, node_of p.thing)

abbrev pub stored : List Placed → Nodes
stored = map placed

-- a node as the bytes of a file, or nothing
abbrev pub part : folders.Node → Option (List ℕ)
part (File bytes) = Some bytes
part Other = None

abbrev pub with_part : Option (List ℕ) → folders.Node
with_part (Some bytes) = File bytes
with_part None = Other

pub with_part-part : (node : folders.Node) → with_part (part node) ≡ node
with_part-part (File bytes) = refl
with_part-part Other = refl

abbrev pub nodes_code : Coded Nodes
nodes_code =
    coded_list (coded× (coded_list coded_ℕ)
    (code_by (Option (List ℕ)) (coded_option (coded_list coded_ℕ)) part with_part with_part-part))

abbrev pub scripted_code : Coded Scripted
scripted_code =
    code_by (Nodes × (List ℕ × (ℕ × ℕ)))
    (coded× nodes_code (coded× (coded_list coded_ℕ) (coded× coded_ℕ coded_ℕ)))
    (λ f. (f.nodes, (f.failing, (f.calls, f.faults))))
    (λ p. record { nodes = p.0; failing = p.1.0; calls = p.1.1.0; faults = p.1.1.1 }) (λ _. refl)

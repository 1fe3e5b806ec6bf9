-- The text of what an ask is answered.
use Rattle.std.specs.Prelude.{ℕ, List}
use Rattle.std.specs.List.{AllByRecursion, flat_map}
use Rattle.bx_tree.specs.Paths.{Atoms, IsPath}
use Rattle.prints.specs.Parts.{path_part}

-- paths, each with a newline
abbrev pub listing_text : List Atoms → List ℕ
listing_text paths = flat_map (path_part 10) paths

abbrev pub ArePaths : List Atoms → Type 0
ArePaths paths = AllByRecursion IsPath paths
